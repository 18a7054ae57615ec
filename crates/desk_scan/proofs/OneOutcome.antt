-- No second outcome meets what a public function of this crate promises. Assumes nothing.
use mathlib.Core.Path.{refl}
use Rattle.base.proofs.OneOutcome.{OneOutcome, alike}
use Rattle.desk_scan.proofs.enter.Kinds as enter-numbers-kinds
use Rattle.desk_scan.proofs.enter.Reads as enter-numbers
use Rattle.desk_scan.proofs.Roll.none.Kinds as none-kinds
use Rattle.desk_scan.proofs.Roll.none.Reads as none
use Rattle.desk_scan.proofs.Roll.enter.Kinds as enter-kinds
use Rattle.desk_scan.proofs.Roll.enter.Reads as enter
use Rattle.desk_scan.proofs.Roll.holds.Kinds as holds-kinds
use Rattle.desk_scan.proofs.Roll.holds.Reads as holds
use Rattle.desk_scan.proofs.Roll.place_of.Kinds as place-of-kinds
use Rattle.desk_scan.proofs.Roll.place_of.Reads as place_of
use Rattle.desk_scan.proofs.Roll.named.Kinds as named-kinds
use Rattle.desk_scan.proofs.Roll.named.Reads as named

-- answer and numbers are decided
pub enter_numbers_one : OneOutcome enter-numbers-kinds.ps enter-numbers-kinds.r enter-numbers.Post
enter_numbers_one κs a x y v w p q = (alike p.0 q.0, λ i. (alike p.1 q.1 i, (tt, (tt, (tt, tt)))))

pub none_one : OneOutcome none-kinds.ps none-kinds.r none.Post
none_one κs a x y v w p q = (alike p q, refl)

pub enter_one : OneOutcome enter-kinds.ps enter-kinds.r enter.Post
enter_one κs a x y v w p q = (refl, λ i. (alike p q i, (tt, (tt, tt))))

pub holds_one : OneOutcome holds-kinds.ps holds-kinds.r holds.Post
holds_one κs a x y v w p q = (alike p q, refl)

pub place_of_one : OneOutcome place-of-kinds.ps place-of-kinds.r place_of.Post
place_of_one κs a x y v w p q = (alike p q, refl)

pub named_one : OneOutcome named-kinds.ps named-kinds.r named.Post
named_one κs a x y v w p q = (alike p q, refl)
