-- A refusal leaves all as it was, and a plan is carried out, which comes to what the message does (`refusal_served`, `plan_carried_out`). That a desk of
-- another length is left as it is the search finds, by the laws that the function names. Assumes nothing.
use mathlib.Core.Path.{sym, ◌∙◌, ap}
use lib.ListN.{length}
use Rattle.std.proofs.lemmas.Result.{err_from_is_err_and}
use Rattle.desk_rules.specs.Inside.{planned_in}
use Rattle.desk_rules.proofs.ServeLaws.{refusal_served, plan_carried_out}
use Rattle.desk.proofs.serve.Goals as goal

pub returns-in_err-plan : goal.returns-in_err-plan
returns-in_err-plan c =
    let a = c.args in
    let p = err_from_is_err_and c.from_residual.result c.from_residual.ensures.1 in
    let planned = ap (planned_in a.ledger (length a.desk.now)) (sym c.in_err-plan.was) ∙ c.planned.ensures in
    rw (p.1, p.2) (refusal_served a.ledger a.map.now a.desk.now a.bytes.now _ planned)

pub returns : goal.returns
returns c =
    let a = c.args in
    let planned = ap (planned_in a.ledger (length a.desk.now)) (sym c.in_ok-plan.was) ∙ c.planned.ensures in
    let done = plan_carried_out a.ledger a.map.now a.desk.now a.bytes.now c.in_ok-plan.plan planned in
    (done.0, c.mark.ensures ∙ done.1, c.slot_put.ensures ∙ done.2)
