-- A verdict tells what was handed over: no two outcomes of judging are one verdict. Assumes nothing.
use mathlib.Core.Path.{◌≡◌, refl, sym, ap}
use Rattle.std.specs.Prelude.{Result, Ok, Err}
use Rattle.refusals.specs.declared.Refusal.{Refusal}
use Rattle.refusals.specs.Refusals.{number_of, answer_in}
use Rattle.refusals.proofs.NumberLaws.{same_refusal, no_refusal_0}
use Rattle.fields.specs.declared.Sheet.{Sheet}
use Rattle.verdict.specs.declared.Accepted.{Accepted}
use Rattle.verdict.specs.Verdict.{Verdict}
use Rattle.verdict.specs.Judged.{accepted_verdict, judged}

pub same_accepted : (a b : Accepted) → accepted_verdict a ≡ accepted_verdict b → a ≡ b
same_accepted a b same =
    λ i.
    let v = same i in
    record { sheet = v.sheet; number = v.number; events = v.events; short = v.short; row = v.row; figures = v.figures }

-- a verdict's answer is that of the outcome
pub judged_answer : (sheet : Sheet) (x : Result Accepted Refusal) → (judged sheet x).answer ≡ answer_in x
judged_answer sheet (Ok a) = refl
judged_answer sheet (Err r) = refl

pub same_judged : (sheet : Sheet) (x y : Result Accepted Refusal) → judged sheet x ≡ judged sheet y → x ≡ y
same_judged sheet (Ok a) (Ok b) same = ap (λ c. Ok c) (same_accepted a b same)
same_judged sheet (Ok a) (Err s) same = absurd (no_refusal_0 s (sym (ap (λ (v : Verdict). v.answer) same)))
same_judged sheet (Err r) (Ok b) same = absurd (no_refusal_0 r (ap (λ (v : Verdict). v.answer) same))
same_judged sheet (Err r) (Err s) same = ap (λ t. Err t) (same_refusal r s (ap (λ (v : Verdict). v.answer) same))
