-- No second outcome meets what a public function of this crate promises. Assumes nothing.
use mathlib.Core.Path.{refl}
use Rattle.base.proofs.OneOutcome.{OneOutcome, alike}
use Rattle.refusals.proofs.U8FromRefusal.from.Kinds as from-kinds
use Rattle.refusals.proofs.U8FromRefusal.from.Reads as from_reads

pub from_one : OneOutcome from-kinds.ps from-kinds.r from_reads.Post
from_one κs a x y v w p q = (alike p q, refl)
