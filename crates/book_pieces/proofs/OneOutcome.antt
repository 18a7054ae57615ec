-- No second outcome meets what a public function of this crate promises. Assumes nothing.
use mathlib.Core.Path.{◌≡◌, refl, sym, ap}
use Rattle.std.specs.Prelude.{Result, Ok, Err}
use Rattle.base.proofs.OneOutcome.{OneOutcome, alike}
use Rattle.refusals.specs.declared.Refusal.{Refusal}
use Rattle.refusals.proofs.NumberLaws.{same_refusal, no_refusal_0}
use Rattle.book.specs.declared.Read.{Read as Outcome}
use Rattle.book.specs.Book.{Read}
use Rattle.book_pieces.specs.declared.Feed.{Feed}
use Rattle.book_pieces.specs.Feed.{Fed, fed_in, finished_in}
use Rattle.book_pieces.proofs.begin.Kinds as begin-kinds
use Rattle.book_pieces.proofs.begin.Reads as begin
use Rattle.book_pieces.proofs.take_piece.Kinds as take-piece-kinds
use Rattle.book_pieces.proofs.take_piece.Reads as take-piece
use Rattle.book_pieces.proofs.finish.Kinds as finish-kinds
use Rattle.book_pieces.proofs.finish.Reads as finish

-- no two outcomes come to the same answer and feed
same_fed : (left : Feed) (x y : Result Feed Refusal) → fed_in left x ≡ fed_in left y → x ≡ y
same_fed left (Ok f) (Ok g) e = ap (λ (r : Fed). Ok r.feed) e
same_fed left (Ok f) (Err s) e = absurd (no_refusal_0 s (sym (ap (λ (r : Fed). r.answer) e)))
same_fed left (Err r) (Ok g) e = absurd (no_refusal_0 r (ap (λ (r : Fed). r.answer) e))
same_fed left (Err r) (Err s) e = ap (λ (t : Refusal). Err t) (same_refusal r s (ap (λ (r : Fed). r.answer) e))

same_finished : (left : Feed) (x y : Result Outcome Refusal) → finished_in left x ≡ finished_in left y → x ≡ y
same_finished left (Ok r) (Ok s) e = λ i. Ok (record { ledger = (e i).ledger; refused = (e i).refused; broken = (e i).broken })
same_finished left (Ok r) (Err s) e = absurd (no_refusal_0 s (sym (ap (λ (o : Read). o.answer) e)))
same_finished left (Err r) (Ok s) e = absurd (no_refusal_0 r (ap (λ (o : Read). o.answer) e))
same_finished left (Err r) (Err s) e = ap (λ (t : Refusal). Err t) (same_refusal r s (ap (λ (o : Read). o.answer) e))

pub begin_one : OneOutcome begin-kinds.ps begin-kinds.r begin.Post
begin_one κs a x y v w p q = (alike p q, refl)

pub take_piece_one : OneOutcome take-piece-kinds.ps take-piece-kinds.r take-piece.Post
take_piece_one κs a x y v w p q = (same_fed a.0 x y (alike p.0 q.0), λ i. (tt, (alike p.1 q.1 i, (alike p.2 q.2 i, (tt, tt)))))

pub finish_one : OneOutcome finish-kinds.ps finish-kinds.r finish.Post
finish_one κs a x y v w p q = (same_finished a.0 x y (alike p q), refl)
