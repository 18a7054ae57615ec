-- No second outcome meets what a public function of this crate promises. Assumes nothing.
use mathlib.Core.Path.{◌≡◌, refl, sym, ap}
use Rattle.std.specs.Prelude.{Result, Ok, Err}
use Rattle.base.proofs.OneOutcome.{OneOutcome, alike}
use Rattle.refusals.specs.declared.Refusal.{Refusal}
use Rattle.refusals.proofs.NumberLaws.{same_refusal, no_refusal_0}
use Rattle.element_table.specs.declared.Table.{Table}
use Rattle.element_table.specs.Table.{Filed, filed_in, begun}
use Rattle.element_table.proofs.Table.begin.Kinds as begin-kinds
use Rattle.element_table.proofs.Table.begin.Reads as begin
use Rattle.element_table.proofs.Table.sound.Kinds as sound-kinds
use Rattle.element_table.proofs.Table.sound.Reads as sound
use Rattle.element_table.proofs.Table.begin_file.Kinds as begin-file-kinds
use Rattle.element_table.proofs.Table.begin_file.Reads as begin-file
use Rattle.element_table.proofs.Table.take.Kinds as take-kinds
use Rattle.element_table.proofs.Table.take.Reads as take

-- number and table tell the outcome
same_outcome : (left : Table) (x y : Result Table Refusal) → filed_in left x ≡ filed_in left y → x ≡ y
same_outcome left (Ok t) (Ok u) e = ap (λ (f : Filed). Ok f.table) e
same_outcome left (Ok t) (Err r) e = absurd (no_refusal_0 r (sym (ap (λ (f : Filed). f.answer) e)))
same_outcome left (Err q) (Ok u) e = absurd (no_refusal_0 q (ap (λ (f : Filed). f.answer) e))
same_outcome left (Err q) (Err r) e = ap Err (same_refusal q r (ap (λ (f : Filed). f.answer) e))

pub begin_one : OneOutcome begin-kinds.ps begin-kinds.r begin.Post
begin_one κs a x y v w p q = (same_outcome (begun 0) x y (alike p q), refl)

pub sound_one : OneOutcome sound-kinds.ps sound-kinds.r sound.Post
sound_one κs a x y v w p q = (alike p q, refl)

pub begin_file_one : OneOutcome begin-file-kinds.ps begin-file-kinds.r begin-file.Post
begin_file_one κs a x y v w p q = (same_outcome a.0 x y (alike p q), refl)

-- answer and table are decided
pub take_one : OneOutcome take-kinds.ps take-kinds.r take.Post
take_one κs a x y v w p q = (same_outcome a.0 x y (alike p q), refl)
