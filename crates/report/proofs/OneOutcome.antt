-- No second outcome meets what a public function of this crate promises. Assumes nothing.
use Rattle.std.specs.Prelude.{Result, Ok, Err}
use mathlib.Core.Path.{◌≡◌, refl, sym, ap}
use Rattle.base.proofs.OneOutcome.{OneOutcome, alike}
use Rattle.refusals.specs.declared.Refusal.{Refusal}
use Rattle.refusals.proofs.NumberLaws.{same_refusal, no_refusal_0}
use Rattle.text.specs.declared.Text.{Text}
use Rattle.report.specs.Report.{Report, told}
use Rattle.report.proofs.with_name.Kinds as with-name-kinds
use Rattle.report.proofs.with_name.Reads as with-name
use Rattle.report.proofs.with_head.Kinds as with-head-kinds
use Rattle.report.proofs.with_head.Reads as with-head
use Rattle.report.proofs.report_of.Kinds as report-of-kinds
use Rattle.report.proofs.report_of.Reads as report-of

pub with_name_one : OneOutcome with-name-kinds.ps with-name-kinds.r with-name.Post
with_name_one κs a x y v w p q = (alike p q, refl)

pub with_head_one : OneOutcome with-head-kinds.ps with-head-kinds.r with-head.Post
with_head_one κs a x y v w p q = (alike p q, refl)

-- two answers of which the same is told are the same
told_decides : (a b : Result Text Refusal) → told a ≡ told b → a ≡ b
told_decides (Ok t) (Ok u) p = ap Ok (ap (λ (x : Report). x.text) p)
told_decides (Ok t) (Err n) p = absurd (no_refusal_0 n (sym (ap (λ (x : Report). x.answer) p)))
told_decides (Err m) (Ok u) p = absurd (no_refusal_0 m (ap (λ (x : Report). x.answer) p))
told_decides (Err m) (Err n) p = ap Err (same_refusal m n (ap (λ (x : Report). x.answer) p))

pub report_of_one : OneOutcome report-of-kinds.ps report-of-kinds.r report-of.Post
report_of_one κs a x y v w p q = (told_decides x y (alike p q), refl)
