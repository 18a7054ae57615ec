-- No second outcome meets what a public function of this crate promises. Assumes nothing.
use mathlib.Core.Path.{refl}
use Rattle.base.proofs.OneOutcome.{OneOutcome, alike}
use Rattle.walk.proofs.Walk.begin.Kinds as begin-kinds
use Rattle.walk.proofs.Walk.begin.Reads as begin
use Rattle.walk.proofs.Walk.with.Kinds as with-kinds
use Rattle.walk.proofs.Walk.with.Reads as with
use Rattle.walk.proofs.walk_of.Kinds as walk_of-kinds
use Rattle.walk.proofs.walk_of.Reads as walk_of

pub begin_one : OneOutcome begin-kinds.ps begin-kinds.r begin.Post
begin_one κs a x y v w p q = (alike p q, refl)

pub with_one : OneOutcome with-kinds.ps with-kinds.r with.Post
with_one κs a x y v w p q = (alike p q, refl)

pub walk_of_one : OneOutcome walk_of-kinds.ps walk_of-kinds.r walk_of.Post
walk_of_one κs a x y v w p q = (alike p q, refl)
