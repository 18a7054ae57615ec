-- No second outcome meets what a public function of this crate promises. Assumes nothing.
use mathlib.Core.Path.{refl}
use Rattle.base.proofs.OneOutcome.{OneOutcome, alike}
use Rattle.fields.proofs.sheet_of.Kinds as sheet-of-kinds
use Rattle.fields.proofs.sheet_of.Reads as sheet_of_lem
use Rattle.fields.proofs.head_of.Kinds as head-of-kinds
use Rattle.fields.proofs.head_of.Reads as head_of
use Rattle.fields.proofs.simple_of.Kinds as simple-of-kinds
use Rattle.fields.proofs.simple_of.Reads as simple-of
use Rattle.fields.proofs.step_at.Kinds as step-at-kinds
use Rattle.fields.proofs.step_at.Reads as step-at
use Rattle.fields.proofs.Sheet.none.Kinds as none-kinds
use Rattle.fields.proofs.Sheet.none.Reads as none
use Rattle.fields.proofs.Sheet.in_range.Kinds as in-range-kinds
use Rattle.fields.proofs.Sheet.in_range.Reads as in_range_lem
use Rattle.fields.proofs.Head.listed.Kinds as listed-kinds
use Rattle.fields.proofs.Head.listed.Reads as listed

pub sheet_of_one : OneOutcome sheet-of-kinds.ps sheet-of-kinds.r sheet_of_lem.Post
sheet_of_one κs a x y v w p q = (alike p q, refl)

pub head_of_one : OneOutcome head-of-kinds.ps head-of-kinds.r head_of.Post
head_of_one κs a x y v w p q = (alike p q, refl)

pub simple_of_one : OneOutcome simple-of-kinds.ps simple-of-kinds.r simple-of.Post
simple_of_one κs a x y v w p q = (alike p q, refl)

pub step_at_one : OneOutcome step-at-kinds.ps step-at-kinds.r step-at.Post
step_at_one κs a x y v w p q = (alike p q, refl)

pub none_one : OneOutcome none-kinds.ps none-kinds.r none.Post
none_one κs a x y v w p q = (alike p q, refl)

pub in_range_one : OneOutcome in-range-kinds.ps in-range-kinds.r in_range_lem.Post
in_range_one κs a x y v w p q = (alike p q, refl)

pub listed_one : OneOutcome listed-kinds.ps listed-kinds.r listed.Post
listed_one κs a x y v w p q = (alike p q, refl)
