-- No second outcome meets what a public function of this crate promises. Assumes nothing.
use mathlib.Core.Path.{refl}
use Rattle.base.proofs.OneOutcome.{OneOutcome, alike}
use Rattle.decimal.proofs.NumberLaws.{decimally_decides}
use Rattle.index.proofs.NumberLaws.{exactly_decides}
use Rattle.index.proofs.index_of.Kinds as index-of-kinds
use Rattle.index.proofs.index_of.Reads as index_of
use Rattle.index.proofs.decimal_of.Kinds as decimal-of-kinds
use Rattle.index.proofs.decimal_of.Reads as decimal-of

pub index_of_one : OneOutcome index-of-kinds.ps index-of-kinds.r index_of.Post
index_of_one κs a x y v w p q = (exactly_decides x y (alike p q), refl)

pub decimal_of_one : OneOutcome decimal-of-kinds.ps decimal-of-kinds.r decimal-of.Post
decimal_of_one κs a x y v w p q = (decimally_decides x y (alike p q), refl)
