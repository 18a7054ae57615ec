-- No second outcome meets what a public function of this crate promises. Assumes nothing.
use mathlib.Core.Path.{refl}
use Rattle.base.proofs.OneOutcome.{OneOutcome, alike, SeenAlike}
use Rattle.wire.proofs.byte_at.Kinds as byte-at-kinds
use Rattle.wire.proofs.byte_at.Reads as byte_at
use Rattle.wire.proofs.u16_at.Kinds as u16-at-kinds
use Rattle.wire.proofs.u16_at.Reads as u16-at
use Rattle.wire.proofs.u32_at.Kinds as u32-at-kinds
use Rattle.wire.proofs.u32_at.Reads as u32-at
use Rattle.wire.proofs.counts_at.Kinds as counts-at-kinds
use Rattle.wire.proofs.counts_at.Reads as counts-at
use Rattle.wire.proofs.u32_in.Kinds as u32-in-kinds
use Rattle.wire.proofs.u32_in.Reads as u32-in
use Rattle.wire.proofs.counts_in.Kinds as counts-in-kinds
use Rattle.wire.proofs.counts_in.Reads as counts-in
use Rattle.wire.proofs.is_framed.Kinds as is-framed-kinds
use Rattle.wire.proofs.is_framed.Reads as is_framed
use Rattle.wire.proofs.kind_of.Kinds as kind-of-kinds
use Rattle.wire.proofs.kind_of.Reads as kind-of
use Rattle.wire.proofs.place_at.Kinds as place-at-kinds
use Rattle.wire.proofs.place_at.Reads as place_at
use Rattle.wire.proofs.part.Reads as part

pub byte_at_one : OneOutcome byte-at-kinds.ps byte-at-kinds.r byte_at.Post
byte_at_one κs a x y v w p q = (alike p q, refl)

pub u16_at_one : OneOutcome u16-at-kinds.ps u16-at-kinds.r u16-at.Post
u16_at_one κs a x y v w p q = (alike p q, refl)

pub u32_at_one : OneOutcome u32-at-kinds.ps u32-at-kinds.r u32-at.Post
u32_at_one κs a x y v w p q = (alike p q, refl)

pub counts_at_one : OneOutcome counts-at-kinds.ps counts-at-kinds.r counts-at.Post
counts_at_one κs a x y v w p q = (alike p q, refl)

pub u32_in_one : OneOutcome u32-in-kinds.ps u32-in-kinds.r u32-in.Post
u32_in_one κs a x y v w p q = (alike p q, refl)

pub counts_in_one : OneOutcome counts-in-kinds.ps counts-in-kinds.r counts-in.Post
counts_in_one κs a x y v w p q = (alike p q, refl)

pub is_framed_one : OneOutcome is-framed-kinds.ps is-framed-kinds.r is_framed.Post
is_framed_one κs a x y v w p q = (alike p q, refl)

pub kind_of_one : OneOutcome kind-of-kinds.ps kind-of-kinds.r kind-of.Post
kind_of_one κs a x y v w p q = (alike p q, refl)

pub place_at_one : OneOutcome place-at-kinds.ps place-at-kinds.r place_at.Post
place_at_one κs a x y v w p q = (alike p q, refl)

-- the bytes of the part are decided; where they lie is the book's affair
pub part_one : SeenAlike part.Post (λ κs x. x.now)
part_one κs a x y s t = alike
