-- No second outcome meets what a public function of this crate promises. Assumes nothing.
use mathlib.Core.Path.{◌≡◌, refl, sym, ap}
use Rattle.std.specs.Prelude.{Result, Ok, Err}
use Rattle.base.proofs.OneOutcome.{OneOutcome, alike}
use Rattle.refusals.specs.declared.Refusal.{Refusal}
use Rattle.refusals.specs.Refusals.{answer_in}
use Rattle.refusals.proofs.NumberLaws.{same_refusal, no_refusal_0}
use Rattle.element_rules.proofs.sheet_answer.Kinds as sheet-answer-kinds
use Rattle.element_rules.proofs.sheet_answer.Reads as sheet-answer
use Rattle.element_rules.proofs.outage_answer.Kinds as outage-answer-kinds
use Rattle.element_rules.proofs.outage_answer.Reads as outage-answer
use Rattle.element_rules.proofs.stock_answer.Kinds as stock-answer-kinds
use Rattle.element_rules.proofs.stock_answer.Reads as stock-answer

-- an answer number tells its outcome
same_answer : (x y : Result (Unit {0}) Refusal) → answer_in x ≡ answer_in y → x ≡ y
same_answer (Ok x) (Ok y) e = refl
same_answer (Ok x) (Err r) e = absurd (no_refusal_0 r (sym e))
same_answer (Err q) (Ok y) e = absurd (no_refusal_0 q e)
same_answer (Err q) (Err r) e = ap Err (same_refusal q r e)

pub sheet_answer_one : OneOutcome sheet-answer-kinds.ps sheet-answer-kinds.r sheet-answer.Post
sheet_answer_one κs a x y v w p q = (same_answer x y (alike p q), refl)

pub outage_answer_one : OneOutcome outage-answer-kinds.ps outage-answer-kinds.r outage-answer.Post
outage_answer_one κs a x y v w p q = (same_answer x y (alike p q), refl)

pub stock_answer_one : OneOutcome stock-answer-kinds.ps stock-answer-kinds.r stock-answer.Post
stock_answer_one κs a x y v w p q = (same_answer x y (alike p q), refl)
