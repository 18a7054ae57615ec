-- An open of another length is 4. Else the first of its tests that applies is the answer, and an open to which none applies takes the first free slot.
-- Assumes nothing.
use mathlib.Core.Path.{◌≡◌, refl, sym, ap, ◌∙◌}
use mathlib.Core.Bool.{not}
use borrow.Author.Tests.{eq-eqb, ne_eqb, eqb-false}
use Rattle.std.proofs.lemmas.Result.{err_from_is_err_and}
use Rattle.base.specs.First.{first}
use Rattle.refusals.specs.Refusals.{answer_in}
use Rattle.fields.specs.declared.Head.{Head}
use Rattle.slot.specs.Slot.{opened_by}
use Rattle.desk_rules.specs.Inside.{look_seen, answer_at, open_tests}
use Rattle.desk_rules.proofs.PlanLaws.{refused_by, at_accepted, open_answer, err_refused, ok_answers_0}
use Rattle.desk_rules.proofs.Seen.open.Goals as goal

pub returns-then-bytes-ne13 : goal.returns-then-bytes-ne13
returns-then-bytes-ne13 c =
    let a = c.args in
    let s = a.bytes.now in
    sym
    (refused_by 16 (look_seen a.self.now s) a.self.now.slots a.ledger a.map.now s 4 (refl, ap not (ne_eqb _ _ c.if-bytes-ne13.true)) (eqb-false 4 0 refl))

pub returns-in_err-gap : goal.returns-in_err-gap
returns-in_err-gap c =
    let a = c.args in
    let s = a.bytes.now in
    let look = look_seen a.self.now s in
    let answered : answer_in c.admit_open.result ≡ answer_at 16 look a.ledger a.map.now s =
    c.admit_open.ensures.answer ∙
    ap (λ (h : Head). first (open_tests h a.ledger.sheet a.map.now a.self.now.roll.numbers)) c.head_of-head.ensures ∙
    sym (open_answer look a.ledger a.map.now s (ap not (eq-eqb _ _ c.if-bytes-ne13.false))) in
    let p = err_from_is_err_and c.from_residual.result c.from_residual.ensures.1 in
    rw (p.1, p.2) (err_refused 16 look a.self.now.slots a.ledger a.map.now s c.admit_open.result answered _ c.in_err-gap.was)

pub returns : goal.returns
returns c =
    let a = c.args in
    let s = a.bytes.now in
    let look = look_seen a.self.now s in
    let head = c.head_of-head.ensures in
    let answered : answer_in c.admit_open.result ≡ answer_at 16 look a.ledger a.map.now s =
    c.admit_open.ensures.answer ∙
    ap (λ (h : Head). first (open_tests h a.ledger.sheet a.map.now a.self.now.roll.numbers)) head ∙
    sym (open_answer look a.ledger a.map.now s (ap not (eq-eqb _ _ c.if-bytes-ne13.false))) in
    let slot = c.opened.ensures ∙ ap opened_by head in
    (λ i. record { served = record { answer = 0; ledger = a.ledger }; at = c.in_ok-gap.ensures.found i; slot = slot i; number = (head i).number }) ∙
    sym
    (at_accepted 16 look a.self.now.slots a.ledger a.map.now s
    (ok_answers_0 16 look a.self.now.slots a.ledger a.map.now s c.admit_open.result answered _ c.in_ok-gap.was))
