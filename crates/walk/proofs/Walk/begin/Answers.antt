-- No flag is raised, and the course begins. Assumes nothing.
use mathlib.Core.Bool.{false}
use Rattle.walk.proofs.Walk.begin.Goals as goal

pub returns : goal.returns
returns c = λ i. record { late = false; course = c.begin.ensures i }
