-- No second outcome meets what a public function of this crate promises. Assumes nothing.
use mathlib.Core.Path.{refl}
use Rattle.base.proofs.OneOutcome.{OneOutcome, alike}
use Rattle.ratio.proofs.gcd.Kinds as gcd-kinds
use Rattle.ratio.proofs.gcd.Reads as gcd
use Rattle.ratio.proofs.lowest.Kinds as lowest-kinds
use Rattle.ratio.proofs.lowest.Reads as lowest

pub gcd_one : OneOutcome gcd-kinds.ps gcd-kinds.r gcd.Post
gcd_one κs a x y v w p q = (alike p q, refl)

pub lowest_one : OneOutcome lowest-kinds.ps lowest-kinds.r lowest.Post
lowest_one κs a x y v w p q = (alike p q, refl)
