-- A number that is no kind's is answered 3, and a record of a kind as the rules that are left for it say. Assumes nothing.
use mathlib.Core.Path.{sym, ap, subst, ◌∙◌}
use Rattle.refusals.specs.Refusals.{number_of}
use Rattle.std.specs.Prelude.{ℕ, ◌≢◌}
use Rattle.std.proofs.lemmas.Result.{err_from_is_err_and}
use Rattle.element_table.proofs.AnswerLaws.{kind_answered, none_answered}
use Rattle.element_table.proofs.Table.accepted_kind.Goals as goal

pub returns-in_err-kind-clause-answer : goal.returns-in_err-kind-clause-answer
returns-in_err-kind-clause-answer c =
    let a = c.args in
    let p = err_from_is_err_and c.from_residual.result c.from_residual.ensures.1 in
    let none = c.in_err-kind.ensures in
    let other = subst (λ (n : ℕ). (n ≢ 1) × (n ≢ 4) × (n ≢ 5)) c.kind_of.ensures (none.1, none.2, none.3) in
    let answered =
    none_answered a.self a.bytes.now (sym c.sound.ensures ∙ c.if-not-sound.false) (sym c.is_framed.ensures ∙ c.if-not-is_framed.false) other in
    rw (p.1, p.2) (ap number_of none.0 ∙ sym answered)

pub returns-in_err-answer_to-clause-answer : goal.returns-in_err-answer_to-clause-answer
returns-in_err-answer_to-clause-answer c =
    let a = c.args in
    let p = err_from_is_err_and c.from_residual-in_err-answer_to.result c.from_residual-in_err-answer_to.ensures.1 in
    let answered =
    kind_answered a.self a.bytes.now (sym c.sound.ensures ∙ c.if-not-sound.false) (sym c.is_framed.ensures ∙ c.if-not-is_framed.false) c.in_ok-kind.kind
    (sym c.kind_of.ensures ∙ c.in_ok-kind.ensures) in
    rw (p.1, p.2) (c.in_err-answer_to.ensures ∙ sym answered)

pub returns-clause-answer : goal.returns-clause-answer
returns-clause-answer c =
    let a = c.args in
    let answered =
    kind_answered a.self a.bytes.now (sym c.sound.ensures ∙ c.if-not-sound.false) (sym c.is_framed.ensures ∙ c.if-not-is_framed.false) c.in_ok-kind.kind
    (sym c.kind_of.ensures ∙ c.in_ok-kind.ensures) in
    c.in_ok-answer_to.ensures ∙ sym answered
