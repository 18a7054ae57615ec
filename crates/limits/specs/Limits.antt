-- What 01 asks of an event's times and counts, each as its sentence has it ("Bytes on the wire", "What one event adds", "Refusal numbers").
use Rattle.std.specs.Prelude.{ℕ, List, [], ◌∷◌, Bool, false, ◌&&◌, ◌||◌, not, get_or, ltb, eqb}
use Rattle.codes.specs.Ranges.{latest}
use Rattle.annex.specs.declared.Simple.{Simple}
use Rattle.annex.specs.declared.Step.{Step}
use Rattle.annex.specs.declared.Figures.{Figures}
use Rattle.annex.specs.Figures.{customers_at}

-- "a count exceeds its level's customers"
abbrev pub exceeding : List ℕ → List ℕ → Bool
exceeding totals counts =
    ltb (get_or totals 0 0) (get_or counts 0 0) || ltb (get_or totals 1 0) (get_or counts 1 0) || ltb (get_or totals 2 0) (get_or counts 2 0)

-- "a count above 0 on a level higher than the event's"
abbrev pub above_level : ℕ → List ℕ → Bool
above_level level counts = (ltb level 1 && ltb 0 (get_or counts 1 0)) || (ltb level 2 && ltb 0 (get_or counts 2 0))

-- the same two tests of figures, whose customers are the largest counts of any step
abbrev pub exceeding_figures : List ℕ → Figures → Bool
exceeding_figures totals f =
    ltb (get_or totals 0 0) (customers_at f 0) || ltb (get_or totals 1 0) (customers_at f 1) || ltb (get_or totals 2 0) (customers_at f 2)

abbrev pub figures_above : ℕ → Figures → Bool
figures_above level f = (ltb level 1 && ltb 0 (customers_at f 1)) || (ltb level 2 && ltb 0 (customers_at f 2))

-- "no time is before the one before it"; "other times are at most 600,000"
abbrev pub late_step : ℕ → ℕ → Bool
late_step before time = ltb time before || ltb latest time

abbrev pub any_late : ℕ → List Step → Bool
any_late before [] = false
any_late before (s ∷ ss) = late_step before s.time || any_late s.time ss

-- not "T0 <= T1 <= T2 <= T3; T4 is at least T0", not "other times are at most 600,000", or not "a planned event has T1 = T0"
abbrev pub simple_late : ℕ → Simple → Bool
simple_late typ e =
    ltb e.t1 e.t0 ||
    ltb e.t2 e.t1 ||
    ltb e.t3 e.t2 ||
    ltb latest e.t3 ||
    ltb e.t4 e.t0 ||
    ltb latest e.t4 ||
    (eqb typ 2 && not (eqb e.t1 e.t0))

-- "n1 is 0 and n2 is not, on some level"
abbrev pub none_then_some : Simple → Bool
none_then_some e =
    (eqb (get_or e.n1 0 0) 0 && ltb 0 (get_or e.n2 0 0)) ||
    (eqb (get_or e.n1 1 0) 0 && ltb 0 (get_or e.n2 1 0)) ||
    (eqb (get_or e.n1 2 0) 0 && ltb 0 (get_or e.n2 2 0))
