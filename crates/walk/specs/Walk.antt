-- The walk over an event's steps: the test of all their times, and the figures that they fold to.
use Rattle.std.specs.Prelude.{ℕ, List, [], ◌∷◌, Bool, false, ◌||◌, cond}
use Rattle.annex.specs.declared.Step.{Step}
use Rattle.annex.specs.Stepped.{begun, coursed}
use Rattle.limits.specs.Limits.{late_step}
use Rattle.walk.specs.declared.Walk.{Walk}

abbrev pub set_out : ℕ → Walk
set_out t0 = record { late = false; course = begun t0 }

-- up to this step a time has broken a rule
abbrev pub late_by : Walk → Step → Bool
late_by w s = w.late || late_step w.course.last s.time

-- one step more; where a time broke a rule there are no figures, since such an event adds none
unfoldable pub walked_step : Walk → Step → Walk
walked_step w s = record { late = late_by w s; course = cond (late_by w s) (begun s.time) (coursed w.course s) }

abbrev pub walked : Walk → List Step → Walk
walked w [] = w
walked w (s ∷ ss) = walked (walked_step w s) ss
