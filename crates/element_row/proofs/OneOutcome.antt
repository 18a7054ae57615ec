-- No second outcome meets what a public function of this crate promises. Assumes nothing.
use mathlib.Core.Path.{refl}
use Rattle.base.proofs.OneOutcome.{OneOutcome, alike}
use Rattle.element_row.proofs.Row.none.Kinds as none-kinds
use Rattle.element_row.proofs.Row.none.Reads as none
use Rattle.element_row.proofs.Row.with_outage.Kinds as with-outage-kinds
use Rattle.element_row.proofs.Row.with_outage.Reads as with-outage
use Rattle.element_row.proofs.Row.with_stock.Kinds as with-stock-kinds
use Rattle.element_row.proofs.Row.with_stock.Reads as with-stock
use Rattle.element_row.proofs.Row.within.Kinds as within-kinds
use Rattle.element_row.proofs.Row.within.Reads as within

pub none_one : OneOutcome none-kinds.ps none-kinds.r none.Post
none_one κs a x y v w p q = (alike p q, refl)

pub with_outage_one : OneOutcome with-outage-kinds.ps with-outage-kinds.r with-outage.Post
with_outage_one κs a x y v w p q = (alike p q, refl)

pub with_stock_one : OneOutcome with-stock-kinds.ps with-stock-kinds.r with-stock.Post
with_stock_one κs a x y v w p q = (alike p q, refl)

pub within_one : OneOutcome within-kinds.ps within-kinds.r within.Post
within_one κs a x y v w p q = (alike p q, refl)
