-- No second outcome meets what the public function of this crate promises: one equation of spots says both the length and the bytes. Assumes nothing.
use mathlib.Core.Path.{ap}
use Rattle.base.proofs.OneOutcome.{OneOutcome, alike}
use Rattle.pen.specs.Pen.{Spot}
use Rattle.text_write.proofs.write_line.Kinds as write-line-kinds
use Rattle.text_write.proofs.write_line.Reads as write-line

pub write_line_one : OneOutcome write-line-kinds.ps write-line-kinds.r write-line.Post
write_line_one κs a x y v w p q = (ap (λ (s : Spot). s.at) (alike p q), λ i. ((alike p q i).bytes, (tt, (tt, (tt, tt)))))
