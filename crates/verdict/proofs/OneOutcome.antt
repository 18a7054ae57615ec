-- No second outcome meets what a public function of this crate promises. Assumes nothing.
use mathlib.Core.Path.{refl}
use Rattle.base.proofs.OneOutcome.{OneOutcome, alike}
use Rattle.verdict.proofs.JudgedLaws.{same_accepted}
use Rattle.verdict.proofs.accept.Kinds as accept-kinds
use Rattle.verdict.proofs.accept.Reads as accept

pub accept_one : OneOutcome accept-kinds.ps accept-kinds.r accept.Post
accept_one κs a x y v w p q = (same_accepted x y (alike p q), refl)
