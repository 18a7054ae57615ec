-- No second outcome meets what a public function of this crate promises. Assumes nothing.
use mathlib.Core.Path.{refl}
use Rattle.base.proofs.OneOutcome.{OneOutcome, alike}
use Rattle.text.proofs.Text.empty.Kinds as empty-kinds
use Rattle.text.proofs.Text.empty.Reads as empty
use Rattle.text.proofs.Text.with_byte.Kinds as with-byte-kinds
use Rattle.text.proofs.Text.with_byte.Reads as with_byte
use Rattle.text.proofs.Text.with_words.Kinds as with-words-kinds
use Rattle.text.proofs.Text.with_words.Reads as with-words
use Rattle.text.proofs.Text.with_number.Kinds as with-number-kinds
use Rattle.text.proofs.Text.with_number.Reads as with_number
use Rattle.text.proofs.Text.with_two.Kinds as with-two-kinds
use Rattle.text.proofs.Text.with_two.Reads as with_two

pub empty_one : OneOutcome empty-kinds.ps empty-kinds.r empty.Post
empty_one κs a x y v w p q = (alike p q, refl)

pub with_byte_one : OneOutcome with-byte-kinds.ps with-byte-kinds.r with_byte.Post
with_byte_one κs a x y v w p q = (alike p q, refl)

pub with_words_one : OneOutcome with-words-kinds.ps with-words-kinds.r with-words.Post
with_words_one κs a x y v w p q = (alike p q, refl)

pub with_number_one : OneOutcome with-number-kinds.ps with-number-kinds.r with_number.Post
with_number_one κs a x y v w p q = (alike p q, refl)

pub with_two_one : OneOutcome with-two-kinds.ps with-two-kinds.r with_two.Post
with_two_one κs a x y v w p q = (alike p q, refl)
