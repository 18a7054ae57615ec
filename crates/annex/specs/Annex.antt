-- The annex's sums, as 003, 4.3.1 prints them: over events j, of the customers n_jh of a level h, and of n_jh · t_jh.
use Rattle.std.specs.Prelude.{ℕ, ◌+◌, ◌*◌, ◌-◌, ◌≡◌, List, [], ◌∷◌, map, Bool, get_or}
use Rattle.base.specs.Lists.{largest}
use Rattle.annex.specs.declared.Simple.{Simple}
use Rattle.annex.specs.declared.Step.{Step}
use Rattle.annex.specs.declared.Figures.{Figures}
use Rattle.annex.specs.Times.{is_short}
use Rattle.annex.specs.Simple.{simple_figures}
use Rattle.annex.specs.Stepped.{last_time, stepped_figures}

-- an event, as either record tells it
pub data Event : Type 0 where
  simple : Simple → Event
  stepped : ℕ → List Step → Event

-- the count of a level in each step
abbrev pub counts_of : ℕ → List Step → List ℕ
counts_of h ss = map (λ (s : Step). get_or s.counts h 0) ss

-- Σ n_ih · Δt_ih, where Δt_ih is the time from the step before to this one
abbrev pub weighed : ℕ → ℕ → List Step → ℕ
weighed h before [] = 0
weighed h before (s ∷ ss) = get_or s.counts h 0 * (s.time - before) + weighed h s.time ss

-- n_jh: the customers of level h that event j interrupts
unfoldable pub njh : ℕ → Event → ℕ
njh h (simple e) = get_or e.n1 h 0
njh h (stepped t0 ss) = largest (counts_of h ss)

-- 2 · n_jh · t_jh, in which the annex's half does not appear
unfoldable pub njhtjh2 : ℕ → Event → ℕ
njhtjh2 h (simple e) =
    2 * get_or e.n1 h 0 * (e.t1 - e.t0) +
    (get_or e.n1 h 0 + get_or e.n2 h 0) * (e.t2 - e.t1) +
    2 * get_or e.n2 h 0 * (e.t3 - e.t2)
njhtjh2 h (stepped t0 ss) = 2 * weighed h t0 ss

-- "n2 may exceed n1, but not where n1 is 0" (01, "What one event adds"): on a level where nobody was off at first, nobody is later
abbrev pub NoneAfterNone : ℕ → Event → Type 0
NoneAfterNone h (simple e) = get_or e.n1 h 0 ≡ 0 → get_or e.n2 h 0 ≡ 0
NoneAfterNone h (stepped t0 ss) = Unit {0}

-- when an event starts and when everyone is back: T0, and T3 or the last step's time
abbrev pub start_of : Event → ℕ
start_of (simple e) = e.t0
start_of (stepped t0 ss) = t0

abbrev pub end_of : Event → ℕ
end_of (simple e) = e.t3
end_of (stepped t0 ss) = last_time t0 ss

abbrev pub short_event : Event → Bool
short_event e = is_short (start_of e) (end_of e)

-- the figures that code works out
abbrev pub figures_of : Event → Figures
figures_of (simple e) = simple_figures e
figures_of (stepped t0 ss) = stepped_figures t0 ss
