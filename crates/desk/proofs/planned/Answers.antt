-- The plan of what is seen is the plan of the desk itself (`plan_seen_is`). Assumes nothing.
use mathlib.Core.Path.{sym, ◌∙◌, ap}
use Rattle.desk_rules.specs.declared.Seen.{Seen}
use Rattle.desk_rules.specs.Inside.{plan_seen, planned_in}
use Rattle.desk_rules.proofs.ServeLaws.{plan_seen_is}
use Rattle.desk.proofs.planned.Goals as goal

pub returns : goal.returns
returns c =
    let a = c.args in
    let s = a.bytes.now in
    let e = c.seen.ensures in
    ap (λ (d : Seen). planned_in a.ledger d.slots c.decide.result) (sym e) ∙
    c.decide.ensures ∙
    ap (λ (d : Seen). plan_seen d a.ledger a.map.now s) e ∙
    plan_seen_is a.ledger a.map.now a.desk.now s
