-- No second outcome meets what the public function of this crate promises. Assumes nothing.
use mathlib.Core.Path.{refl}
use Rattle.base.proofs.OneOutcome.{OneOutcome, alike}
use Rattle.decimal.proofs.NumberLaws.{decimally_decides}
use Rattle.decimal.proofs.decimal_of.Kinds as decimal-of-kinds
use Rattle.decimal.proofs.decimal_of.Reads as decimal-of

pub decimal_of_one : OneOutcome decimal-of-kinds.ps decimal-of-kinds.r decimal-of.Post
decimal_of_one κs a x y v w p q = (decimally_decides x y (alike p q), refl)
