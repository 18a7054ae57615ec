-- No second outcome meets what a public function of this crate promises. Assumes nothing.
use mathlib.Core.Path.{refl}
use Rattle.base.proofs.OneOutcome.{OneOutcome, alike}
use Rattle.used_numbers.proofs.is_marked.Kinds as is-marked-kinds
use Rattle.used_numbers.proofs.is_marked.Reads as is-marked
use Rattle.used_numbers.proofs.mark.Kinds as mark-kinds
use Rattle.used_numbers.proofs.mark.Reads as mark

pub is_marked_one : OneOutcome is-marked-kinds.ps is-marked-kinds.r is-marked.Post
is_marked_one κs a x y v w p q = (alike p q, refl)

-- the map at exit is decided
pub mark_one : OneOutcome mark-kinds.ps mark-kinds.r mark.Post
mark_one κs a x y v w p q = (refl, λ i. (alike p q i, (tt, tt)))
