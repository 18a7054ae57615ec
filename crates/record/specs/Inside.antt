-- Inner vocabulary: the tests that an event of the right length meets, in the order of checking, of the fields that were read; the rules read at a
-- kind; and what the ledger may rely on in a verdict.
use Rattle.std.specs.Prelude.{ℕ, ◌+◌, ◌*◌, ◌<◌, ◌≤◌, List, [], ◌∷◌, Bool, ◌||◌, not, cond, true, false, leb, eqb, ◌≡◌, ◌⊎◌}
use Rattle.base.specs.First.{Rule, first}
use Rattle.codes.specs.Codes.{level_of, rows, levels}
use Rattle.codes.specs.Ranges.{most_events}
use Rattle.annex.specs.declared.Simple.{Simple}
use Rattle.annex.specs.Times.{minutes_in}
use Rattle.used_numbers.specs.Marks.{marked}
use Rattle.fields.specs.declared.Sheet.{Sheet}
use Rattle.fields.specs.declared.Head.{Head}
use Rattle.fields.specs.Tests.{head_listed, in_range}
use Rattle.limits.specs.Limits.{exceeding, above_level, exceeding_figures, figures_above, simple_late, none_then_some}
use Rattle.walk.specs.declared.Walk.{Walk}
use Rattle.annex.specs.Figure.{Figure, figure_at, most_of}
use Rattle.verdict.specs.Verdict.{Verdict, refused_with}
use Rattle.record.specs.Rules.{rules_at}
use Rattle.record.specs.Verdict.{accepted_at}

-- the first four of them, before the number that the rest answers
abbrev pub first_of : Bool → Bool → Bool → Bool → ℕ → ℕ
first_of c5 c7 c10 c11 rest = cond c5 5 (cond c7 7 (cond c10 10 (cond c11 11 rest)))

-- of a simple event
abbrev pub simple_tests : Head → Simple → Sheet → List ℕ → ℕ → List Rule
simple_tests h e sheet m events =
    (5, not sheet.there) ∷
    (7, not (head_listed h)) ∷
    (10, leb (minutes_in sheet.year) h.t0 || simple_late h.typ e) ∷
    (11, exceeding sheet.totals e.n1 || exceeding sheet.totals e.n2) ∷
    (12, above_level (level_of h.voltage) e.n1 || above_level (level_of h.voltage) e.n2) ∷
    (13, none_then_some e) ∷
    (14, marked m h.number) ∷
    (15, leb most_events events) ∷ []

-- of a stepped event, by the walk over its steps
abbrev pub stepped_tests : Head → Walk → Sheet → List ℕ → ℕ → List Rule
stepped_tests h w sheet m events =
    (5, not sheet.there) ∷
    (7, not (head_listed h)) ∷
    (10, leb (minutes_in sheet.year) h.t0 || w.late) ∷
    (11, exceeding_figures sheet.totals w.course.figures) ∷
    (12, figures_above (level_of h.voltage) w.course.figures) ∷
    (14, marked m h.number) ∷
    (15, leb most_events events) ∷ []

unfoldable pub answer_at : ℕ → List ℕ → Sheet → List ℕ → ℕ → ℕ
answer_at kind s sheet m events = first (rules_at kind s sheet m events)

unfoldable pub verdict_at : ℕ → List ℕ → Sheet → List ℕ → ℕ → Verdict
verdict_at kind s sheet m events =
    cond (eqb (answer_at kind s sheet m events) 0) (accepted_at kind s sheet) (refused_with sheet (answer_at kind s sheet m events))

-- what judging gives for a sheet in range, or none, and a number of events: a verdict that the ledger has room for
pub record Fair (sheet : Sheet) (events : ℕ) (v : Verdict) : Type 0 where
  pub row : v.row < rows
  pub room : events + v.events ≤ most_events
  pub one : v.events ≤ 1
  pub short : v.short ≤ v.events
  pub small : (x : Figure) (h : ℕ) → h < levels → figure_at x v.figures h ≤ v.events * most_of x
  -- the sheet stays, and an event has one; or the record is the first sheet, in range
  pub goes_on : ((v.sheet ≡ sheet) × ((sheet.there ≡ true) ⊎ (v.events ≡ 0))) ⊎ ((sheet.there ≡ false) × (v.sheet.there ≡ true) × (in_range v.sheet ≡ true) × (v.events ≡ 0))
