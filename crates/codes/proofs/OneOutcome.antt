-- No second outcome meets what a public function of this crate promises. Assumes nothing.
use mathlib.Core.Path.{refl}
use Rattle.base.proofs.OneOutcome.{OneOutcome, alike}
use Rattle.codes.proofs.row_of.Kinds as row-of-kinds
use Rattle.codes.proofs.row_of.Reads as row_of
use Rattle.codes.proofs.level_of.Kinds as level-of-kinds
use Rattle.codes.proofs.level_of.Reads as level-of
use Rattle.codes.proofs.is_cause.Kinds as is-cause-kinds
use Rattle.codes.proofs.is_cause.Reads as is-cause
use Rattle.codes.proofs.holds_row.Kinds as holds-row-kinds
use Rattle.codes.proofs.holds_row.Reads as holds_row

pub row_of_one : OneOutcome row-of-kinds.ps row-of-kinds.r row_of.Post
row_of_one κs a x y v w p q = (alike p q, refl)

pub level_of_one : OneOutcome level-of-kinds.ps level-of-kinds.r level-of.Post
level_of_one κs a x y v w p q = (alike p q, refl)

pub is_cause_one : OneOutcome is-cause-kinds.ps is-cause-kinds.r is-cause.Post
is_cause_one κs a x y v w p q = (alike p q, refl)

pub holds_row_one : OneOutcome holds-row-kinds.ps holds-row-kinds.r holds_row.Post
holds_row_one κs a x y v w p q = (alike p q, refl)
