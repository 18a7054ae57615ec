-- A record of another length is 4. Else the answer is that of the rules, of the fields that were read, and an event to which none applies adds its
-- figures. Assumes nothing.
use mathlib.Core.Path.{◌≡◌, refl, sym, ap, ◌∙◌, subst⁻¹}
use mathlib.Core.Bool.{not}
use borrow.Author.Tests.{eq-eqb, ne_eqb, eqb-false}
use Rattle.annex.specs.Simple.{simple_figures, InOrder}
use Rattle.fields.specs.Fields.{head_in, simple_in}
use Rattle.limits.proofs.LimitLaws.{simple_ordered}
use Rattle.verdict.specs.Verdict.{event_verdict}
use Rattle.std.proofs.lemmas.Result.{err_from_is_err_and}
use Rattle.refusals.specs.Refusals.{answer_in}
use Rattle.base.specs.First.{first}
use Rattle.record.specs.Inside.{simple_tests, answer_at}
use Rattle.record.proofs.JudgeLaws.{refused_by, at_accepted, simple_answer, simple_timely, err_refuses, ok_answers_0}
use Rattle.record.proofs.judge_simple.Goals as goal

pub returns-then-bytes-ne53 : goal.returns-then-bytes-ne53
returns-then-bytes-ne53 c =
    let a = c.args in
    sym
    (refused_by 2 a.bytes.now a.held.sheet a.held.map.now a.held.events 4 (refl, ap not (ne_eqb _ _ c.if-bytes-ne53.true)) (eqb-false 4 0 refl))

pub returns-in_err-admit_simple : goal.returns-in_err-admit_simple
returns-in_err-admit_simple c =
    let a = c.args in
    let answered : answer_in c.admit_simple.result ≡ answer_at 2 a.bytes.now a.held.sheet a.held.map.now a.held.events =
    c.admit_simple.ensures ∙
    (λ i. first (simple_tests (c.head_of-head.ensures i) (c.simple_of-event.ensures i) a.held.sheet a.held.map.now a.held.events)) ∙
    sym (simple_answer a.bytes.now a.held.sheet a.held.map.now a.held.events (ap not (eq-eqb _ _ c.if-bytes-ne53.false))) in
    let p = err_from_is_err_and c.from_residual.result c.from_residual.ensures.1 in
    rw (p.1, p.2) (err_refuses 2 a.bytes.now a.held.sheet a.held.map.now a.held.events c.admit_simple.result answered _ (c.in_err-admit_simple.was))

pub figures-requires : goal.figures-requires
figures-requires c =
    let a = c.args in
    let answered : answer_in c.admit_simple.result ≡ answer_at 2 a.bytes.now a.held.sheet a.held.map.now a.held.events =
    c.admit_simple.ensures ∙
    (λ i. first (simple_tests (c.head_of-head.ensures i) (c.simple_of-event.ensures i) a.held.sheet a.held.map.now a.held.events)) ∙
    sym (simple_answer a.bytes.now a.held.sheet a.held.map.now a.held.events (ap not (eq-eqb _ _ c.if-bytes-ne53.false))) in
    let z = ok_answers_0 2 a.bytes.now a.held.sheet a.held.map.now a.held.events c.admit_simple.result answered _ (c.in_ok-admit_simple.was) in
    subst⁻¹ InOrder c.simple_of-event.ensures
    (simple_ordered (head_in a.bytes.now).typ (simple_in a.bytes.now) (simple_timely a.bytes.now a.held.sheet a.held.map.now a.held.events z))

pub returns : goal.returns
returns c =
    let a = c.args in
    let answered : answer_in c.admit_simple.result ≡ answer_at 2 a.bytes.now a.held.sheet a.held.map.now a.held.events =
    c.admit_simple.ensures ∙
    (λ i. first (simple_tests (c.head_of-head.ensures i) (c.simple_of-event.ensures i) a.held.sheet a.held.map.now a.held.events)) ∙
    sym (simple_answer a.bytes.now a.held.sheet a.held.map.now a.held.events (ap not (eq-eqb _ _ c.if-bytes-ne53.false))) in
    let z = ok_answers_0 2 a.bytes.now a.held.sheet a.held.map.now a.held.events c.admit_simple.result answered _ (c.in_ok-admit_simple.was) in
    let e = c.simple_of-event.ensures in
    c.accept.ensures ∙
    (λ i. event_verdict a.held.sheet (c.head_of-head.ensures i) (e i).t3 ((c.figures.ensures ∙ ap simple_figures e) i)) ∙
    sym (at_accepted 2 a.bytes.now a.held.sheet a.held.map.now a.held.events z)
