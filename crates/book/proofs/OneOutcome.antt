-- No second outcome meets what a public function of this crate promises. Assumes nothing.
use mathlib.Core.Path.{◌≡◌, sym, ap, ◌∙◌}
use lib.Dec.{eqb}
use Rattle.std.specs.Prelude.{Result, Ok, Err}
use Rattle.base.proofs.OneOutcome.{OneOutcome, alike}
use Rattle.refusals.specs.declared.Refusal.{Refusal}
use Rattle.refusals.proofs.NumberLaws.{same_refusal, no_refusal_0}
use Rattle.records.proofs.RunLaws.{which_tells}
use Rattle.ledger.specs.declared.Ledger.{Ledger}
use Rattle.book.specs.declared.Pass.{Pass as Passed}
use Rattle.book.specs.declared.Read.{Read as Outcome}
use Rattle.book.specs.Book.{Pass, passed_in, Read, read_in}
use Rattle.book.proofs.take_records.Kinds as take-records-kinds
use Rattle.book.proofs.take_records.Reads as take-records
use Rattle.book.proofs.take_book.Kinds as take-book-kinds
use Rattle.book.proofs.take_book.Reads as take_book

-- no two runs come to the same pass
same_pass : (x y : Passed) → passed_in x ≡ passed_in y → x ≡ y
same_pass x y e =
    let b = sym (which_tells x.broken) ∙ ap (λ (p : Pass). eqb p.which 2) e ∙ which_tells y.broken in
    λ i. record { ledger = (e i).ledger; refused = (e i).refused; stop = (e i).stop; broken = b i }

-- and no two outcomes to the same reading
pub same_read : (left : Ledger) (x y : Result Outcome Refusal) → read_in left x ≡ read_in left y → x ≡ y
same_read left (Ok r) (Ok s) e = λ i. Ok (record { ledger = (e i).ledger; refused = (e i).refused; broken = (e i).broken })
same_read left (Ok r) (Err s) e = absurd (no_refusal_0 s (sym (ap (λ (o : Read). o.answer) e)))
same_read left (Err r) (Ok s) e = absurd (no_refusal_0 r (ap (λ (o : Read). o.answer) e))
same_read left (Err r) (Err s) e = ap (λ (t : Refusal). Err t) (same_refusal r s (ap (λ (o : Read). o.answer) e))

pub take_records_one : OneOutcome take-records-kinds.ps take-records-kinds.r take-records.Post
take_records_one κs a x y v w p q = (same_pass x y (alike p.0 q.0), λ i. (tt, (alike p.1 q.1 i, (tt, tt))))

pub take_book_one : OneOutcome take-book-kinds.ps take-book-kinds.r take_book.Post
take_book_one κs a x y v w p q = (same_read a.0 x y (alike p.0 q.0), λ i. (tt, (alike p.1 q.1 i, (tt, tt))))
