-- No second outcome meets what the public function of this crate promises: one equation of spots says both the place and the bytes. Assumes nothing.
use mathlib.Core.Path.{ap}
use Rattle.base.proofs.OneOutcome.{OneOutcome, alike}
use Rattle.pen.specs.Pen.{Spot}
use Rattle.pack.proofs.pack.Kinds as pack-kinds
use Rattle.pack.proofs.pack.Reads as pack

pub pack_one : OneOutcome pack-kinds.ps pack-kinds.r pack.Post
pack_one κs a x y v w p q = (ap (λ (s : Spot). s.at) (alike p q), λ i. ((alike p q i).bytes, (tt, (tt, tt))))
