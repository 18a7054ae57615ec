-- The ledger handed on stands for the words; what `serve` and `settle` make of it is what the definition says. Assumes nothing.
use mathlib.Core.Path.{ap, ◌∙◌}
use Rattle.ledger.specs.declared.Ledger.{Ledger}
use Rattle.desk_rules.specs.Plan.{Served}
use Rattle.desk_rules.specs.Serve.{served_of, map_served, desk_served}
use Rattle.c_words.specs.Header.{headed}
use Rattle.c_words.specs.Inside.{settled}
use Rattle.temelyak.specs.Inside.{handed_back}
use Rattle.temelyak.proofs.ResultLaws.{same_served, same_served_words}
use Rattle.temelyak.proofs.CallLaws.{serve_answer_is, serve_words_is, serve_map_is, serve_desk_is}
use Rattle.temelyak.proofs.temelyak_serve.Goals as goal

pub returns : goal.returns
returns c =
    let a = c.args in
    let ws = a.ledger.now in
    let m = a.map.now in
    let d = a.desk.now in
    let s = a.bytes.now in
    let l = c.lent_ledger-lent.ensures in
    let t = c.serve-served.ensures in
    let x = c.serve-served.result in
    let lent = c.lent_ledger-lent.result in
    let served = t.0 ∙ ap (λ (x : Ledger). served_of x m d s) l in (
      c.settle.ensures.0 ∙ ap (headed a.header) (same_served lent x) ∙ ap (λ (x : Served). headed a.header x.answer) served ∙ serve_answer_is a.header ws m d s,
      c.settle.ensures.1 ∙ same_served_words a.header ws lent x ∙ ap (λ (x : Served). settled a.header ws (handed_back x)) served ∙ serve_words_is a.header ws m d s,
      t.1 ∙ ap (λ (x : Ledger). map_served x m d s) l ∙ serve_map_is a.header ws m d s,
      t.2 ∙ ap (λ (x : Ledger). desk_served x m d s) l ∙ serve_desk_is a.header ws m d s,
    )
