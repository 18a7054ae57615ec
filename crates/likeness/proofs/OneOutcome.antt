-- No second outcome meets what a public function of this crate promises. Assumes nothing.
use mathlib.Core.Path.{refl}
use Rattle.base.proofs.OneOutcome.{OneOutcome, alike}
use Rattle.likeness.proofs.NumberLaws.{same_like}
use Rattle.likeness.proofs.likeness_of.Kinds as likeness-of-kinds
use Rattle.likeness.proofs.likeness_of.Reads as likeness-of

pub likeness_of_one : OneOutcome likeness-of-kinds.ps likeness-of-kinds.r likeness-of.Post
likeness_of_one κs a x y v w p q = (same_like x y (alike p q), refl)
