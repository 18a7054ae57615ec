-- No second outcome meets what a public function of this crate promises. Assumes nothing.
use mathlib.Core.Path.{refl}
use Rattle.base.proofs.OneOutcome.{OneOutcome, alike}
use Rattle.element_codes.proofs.is_element.Kinds as is-element-kinds
use Rattle.element_codes.proofs.is_element.Reads as is-element
use Rattle.element_codes.proofs.row_of.Kinds as row-of-kinds
use Rattle.element_codes.proofs.row_of.Reads as row_of
use Rattle.element_codes.proofs.code_at.Kinds as code-at-kinds
use Rattle.element_codes.proofs.code_at.Reads as code_at

pub is_element_one : OneOutcome is-element-kinds.ps is-element-kinds.r is-element.Post
is_element_one κs a x y v w p q = (alike p q, refl)

pub row_of_one : OneOutcome row-of-kinds.ps row-of-kinds.r row_of.Post
row_of_one κs a x y v w p q = (alike p q, refl)

pub code_at_one : OneOutcome code-at-kinds.ps code-at-kinds.r code_at.Post
code_at_one κs a x y v w p q = (alike p q, refl)
