-- No second outcome meets what a public function of this crate promises. Assumes nothing.
use mathlib.Core.Path.{refl}
use Rattle.base.proofs.OneOutcome.{OneOutcome, alike}
use Rattle.ledger.proofs.TakeLaws.{same_taken}
use Rattle.ledger.proofs.TypeRow.none.Kinds as none-kinds
use Rattle.ledger.proofs.TypeRow.none.Reads as none
use Rattle.ledger.proofs.TypeRow.grown.Kinds as grown-kinds
use Rattle.ledger.proofs.TypeRow.grown.Reads as grown
use Rattle.ledger.proofs.Ledger.empty.Kinds as empty-kinds
use Rattle.ledger.proofs.Ledger.empty.Reads as empty
use Rattle.ledger.proofs.Ledger.sound.Kinds as sound-kinds
use Rattle.ledger.proofs.Ledger.sound.Reads as sound
use Rattle.ledger.proofs.Ledger.add.Kinds as add-kinds
use Rattle.ledger.proofs.Ledger.add.Reads as add
use Rattle.ledger.proofs.Ledger.take.Kinds as take-kinds
use Rattle.ledger.proofs.Ledger.take.Reads as take

pub none_one : OneOutcome none-kinds.ps none-kinds.r none.Post
none_one κs a x y v w p q = (alike p q, refl)

pub grown_one : OneOutcome grown-kinds.ps grown-kinds.r grown.Post
grown_one κs a x y v w p q = (alike p q, refl)

pub empty_one : OneOutcome empty-kinds.ps empty-kinds.r empty.Post
empty_one κs a x y v w p q = (alike p q, refl)

pub sound_one : OneOutcome sound-kinds.ps sound-kinds.r sound.Post
sound_one κs a x y v w p q = (alike p q, refl)

pub add-one : OneOutcome add-kinds.ps add-kinds.r add.Post
add-one κs a x y v w p q = (alike p q, refl)

-- answer, ledger and map are decided
pub take_one : OneOutcome take-kinds.ps take-kinds.r take.Post
take_one κs a x y v w p q = (same_taken a.0 x y (alike p.0 q.0), λ i. (tt, (alike p.1 q.1 i, (tt, tt))))
