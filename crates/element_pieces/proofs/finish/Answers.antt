-- Refused, or what is left over told as a broken length: the cases of `finished_of`. Assumes nothing.
use Prim.Native.Nat.{◌+◌}
use mathlib.Core.Path.{sym, ap, ◌∙◌}
use mathlib.Core.Bool.{Bool, not}
use lib.Dec.{eqb}
use Rattle.std.proofs.lemmas.Result.{err_from_is_err_and}
use Rattle.refusals.specs.Refusals.{answer_in}
use Rattle.refusals.proofs.NumberLaws.{no_refusal_0}
use Rattle.records.specs.Pieces.{end_answer}
use Rattle.records.proofs.RunLaws.{broken_counts}
use Rattle.element_pieces.proofs.FlowLaws.{finish_refused, finish_told}
use Rattle.element_pieces.proofs.finish.Goals as goal

pub returns-in_err-end_answer : goal.returns-in_err-end_answer
returns-in_err-end_answer c =
    let f = c.args.flow in
    let told = sym (ap answer_in c.in_err-end_answer.was) ∙ c.end_answer.ensures ∙ ap (λ (s : Bool). end_answer s f.refused) c.sound.ensures in
    let p = err_from_is_err_and c.from_residual.result c.from_residual.ensures.1 in
    rw (p.1, p.2) ((λ i. record { answer = told i; table = f.table; refused = f.refused; broken = mathlib.Core.Bool.false }) ∙ finish_refused f (λ z. no_refusal_0 _ (told ∙ z)))

pub returns : goal.returns
returns c =
    let f = c.args.flow in
    let told = sym (ap answer_in c.in_ok-end_answer.was) ∙ c.end_answer.ensures ∙ ap (λ (s : Bool). end_answer s f.refused) c.sound.ensures in
    (λ i. record { answer = 0; table = f.table; refused = f.refused + (c.from.ensures ∙ broken_counts (not (eqb f.held 0))) i; broken = not (eqb f.held 0) }) ∙ finish_told f (sym told)
