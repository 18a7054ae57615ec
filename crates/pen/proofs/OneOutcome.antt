-- No second outcome meets what a public function of this crate promises: one equation of pens says both the place and the bytes. Assumes nothing.
use mathlib.Core.Path.{refl}
use Rattle.base.proofs.OneOutcome.{OneOutcome, alike}
use Rattle.pen.proofs.Pen.put.Kinds as put-kinds
use Rattle.pen.proofs.Pen.put.Reads as put
use Rattle.pen.proofs.Pen.put_words.Kinds as put-words-kinds
use Rattle.pen.proofs.Pen.put_words.Reads as put-words
use Rattle.pen.proofs.Pen.put_number.Kinds as put-number-kinds
use Rattle.pen.proofs.Pen.put_number.Reads as put-number
use Rattle.pen.proofs.Pen.put_two.Kinds as put-two-kinds
use Rattle.pen.proofs.Pen.put_two.Reads as put_two
use Rattle.pen.proofs.Pen.put_hex.Kinds as put-hex-kinds
use Rattle.pen.proofs.Pen.put_hex.Reads as put-hex
use Rattle.pen.proofs.Pen.put_le2.Kinds as put-le2-kinds
use Rattle.pen.proofs.Pen.put_le2.Reads as put-le2
use Rattle.pen.proofs.Pen.put_le4.Kinds as put-le4-kinds
use Rattle.pen.proofs.Pen.put_le4.Reads as put-le4

pub put_one : OneOutcome put-kinds.ps put-kinds.r put.Post
put_one κs a x y v w p q = (refl, λ i. (alike p q i, (tt, tt)))

pub put_words_one : OneOutcome put-words-kinds.ps put-words-kinds.r put-words.Post
put_words_one κs a x y v w p q = (refl, λ i. (alike p q i, (tt, tt)))

pub put_number_one : OneOutcome put-number-kinds.ps put-number-kinds.r put-number.Post
put_number_one κs a x y v w p q = (refl, λ i. (alike p q i, (tt, tt)))

pub put_two_one : OneOutcome put-two-kinds.ps put-two-kinds.r put_two.Post
put_two_one κs a x y v w p q = (refl, λ i. (alike p q i, (tt, tt)))

pub put_hex_one : OneOutcome put-hex-kinds.ps put-hex-kinds.r put-hex.Post
put_hex_one κs a x y v w p q = (refl, λ i. (alike p q i, (tt, tt)))

pub put_le2_one : OneOutcome put-le2-kinds.ps put-le2-kinds.r put-le2.Post
put_le2_one κs a x y v w p q = (refl, λ i. (alike p q i, (tt, tt)))

pub put_le4_one : OneOutcome put-le4-kinds.ps put-le4-kinds.r put-le4.Post
put_le4_one κs a x y v w p q = (refl, λ i. (alike p q i, (tt, tt)))
