-- No second outcome meets what a public function of this crate promises. Assumes nothing.
use mathlib.Core.Path.{◌≡◌, refl, sym, ap, ◌∙◌}
use lib.Dec.{eqb}
use Rattle.std.specs.Prelude.{Result, Ok, Err}
use Rattle.base.proofs.OneOutcome.{OneOutcome, alike}
use Rattle.refusals.specs.declared.Refusal.{Refusal}
use Rattle.refusals.proofs.NumberLaws.{same_refusal, no_refusal_0}
use Rattle.records.proofs.RunLaws.{which_tells}
use Rattle.element_table.specs.declared.Table.{Table}
use Rattle.element_file.specs.declared.Pass.{Pass as Passed}
use Rattle.element_file.specs.declared.Reading.{Reading as Read}
use Rattle.element_file.specs.Yearly.{Pass, passed_in, Reading, reading_in}
use Rattle.element_file.proofs.take_records.Kinds as take-records-kinds
use Rattle.element_file.proofs.take_records.Reads as take-records
use Rattle.element_file.proofs.take_file.Kinds as take-file-kinds
use Rattle.element_file.proofs.take_file.Reads as take-file

-- no two runs come to the same pass
same_pass : (x y : Passed) → passed_in x ≡ passed_in y → x ≡ y
same_pass x y e =
    let b = sym (which_tells x.broken) ∙ ap (λ (p : Pass). eqb p.which 2) e ∙ which_tells y.broken in
    λ i. record { table = (e i).table; refused = (e i).refused; stop = (e i).stop; broken = b i }

-- and no two outcomes to the same reading
pub same_reading : (left : Table) (x y : Result Read Refusal) → reading_in left x ≡ reading_in left y → x ≡ y
same_reading left (Ok r) (Ok s) e = λ i. Ok (record { table = (e i).table; refused = (e i).refused; broken = (e i).broken })
same_reading left (Ok r) (Err s) e = absurd (no_refusal_0 s (sym (ap (λ (o : Reading). o.answer) e)))
same_reading left (Err r) (Ok s) e = absurd (no_refusal_0 r (ap (λ (o : Reading). o.answer) e))
same_reading left (Err r) (Err s) e = ap (λ (t : Refusal). Err t) (same_refusal r s (ap (λ (o : Reading). o.answer) e))

pub take_records_one : OneOutcome take-records-kinds.ps take-records-kinds.r take-records.Post
take_records_one κs a x y v w p q = (same_pass x y (alike p q), refl)

pub take_file_one : OneOutcome take-file-kinds.ps take-file-kinds.r take-file.Post
take_file_one κs a x y v w p q = (same_reading a.0 x y (alike p q), refl)
