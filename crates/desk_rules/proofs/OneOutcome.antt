-- No second outcome meets what a public function of this crate promises. Assumes nothing.
use mathlib.Core.Path.{refl}
use Rattle.base.proofs.OneOutcome.{OneOutcome, alike}
use Rattle.desk_rules.proofs.PlanLaws.{same_plan}
use Rattle.desk_rules.proofs.Seen.decide.Kinds as decide-kinds
use Rattle.desk_rules.proofs.Seen.decide.Reads as decide

pub decide_one : OneOutcome decide-kinds.ps decide-kinds.r decide.Post
decide_one κs a x y v w p q = (same_plan a.1.0 a.0.now.slots x y (alike p q), refl)
