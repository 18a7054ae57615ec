-- No second outcome meets what a public function of this crate promises. Assumes nothing.
use mathlib.Core.Path.{◌≡◌, refl, sym, ap}
use Rattle.std.specs.Prelude.{Result, Ok, Err}
use Rattle.base.proofs.OneOutcome.{OneOutcome, alike}
use Rattle.refusals.specs.declared.Refusal.{Refusal}
use Rattle.refusals.proofs.NumberLaws.{same_refusal, no_refusal_0}
use Rattle.element_file.specs.declared.Reading.{Reading as Read}
use Rattle.element_file.specs.Yearly.{Reading}
use Rattle.element_pieces.specs.declared.Inflow.{Inflow}
use Rattle.element_pieces.specs.Inflow.{fresh, Flowed, flowed_in, finished_in}
use Rattle.element_pieces.proofs.begin.Kinds as begin-kinds
use Rattle.element_pieces.proofs.begin.Reads as begin
use Rattle.element_pieces.proofs.take_piece.Kinds as take-piece-kinds
use Rattle.element_pieces.proofs.take_piece.Reads as take-piece
use Rattle.element_pieces.proofs.finish.Kinds as finish-kinds
use Rattle.element_pieces.proofs.finish.Reads as finish

-- no two outcomes come to the same answer and inflow
same_flowed : (left : Inflow) (x y : Result Inflow Refusal) → flowed_in left x ≡ flowed_in left y → x ≡ y
same_flowed left (Ok f) (Ok g) e = ap (λ (r : Flowed). Ok r.flow) e
same_flowed left (Ok f) (Err s) e = absurd (no_refusal_0 s (sym (ap (λ (r : Flowed). r.answer) e)))
same_flowed left (Err r) (Ok g) e = absurd (no_refusal_0 r (ap (λ (r : Flowed). r.answer) e))
same_flowed left (Err r) (Err s) e = ap (λ (t : Refusal). Err t) (same_refusal r s (ap (λ (r : Flowed). r.answer) e))

same_finished : (left : Inflow) (x y : Result Read Refusal) → finished_in left x ≡ finished_in left y → x ≡ y
same_finished left (Ok r) (Ok s) e = λ i. Ok (record { table = (e i).table; refused = (e i).refused; broken = (e i).broken })
same_finished left (Ok r) (Err s) e = absurd (no_refusal_0 s (sym (ap (λ (o : Reading). o.answer) e)))
same_finished left (Err r) (Ok s) e = absurd (no_refusal_0 r (ap (λ (o : Reading). o.answer) e))
same_finished left (Err r) (Err s) e = ap (λ (t : Refusal). Err t) (same_refusal r s (ap (λ (o : Reading). o.answer) e))

pub begin_one : OneOutcome begin-kinds.ps begin-kinds.r begin.Post
begin_one κs a x y v w p q = (same_flowed (fresh a.0) x y (alike p q), refl)

pub take_piece_one : OneOutcome take-piece-kinds.ps take-piece-kinds.r take-piece.Post
take_piece_one κs a x y v w p q = (same_flowed a.0 x y (alike p.0 q.0), λ i. (tt, (alike p.1 q.1 i, (tt, tt))))

pub finish_one : OneOutcome finish-kinds.ps finish-kinds.r finish.Post
finish_one κs a x y v w p q = (same_finished a.0 x y (alike p q), refl)
