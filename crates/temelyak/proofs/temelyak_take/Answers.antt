-- The ledger handed on stands for the words; what `take` and `settle` make of it is what the definition says. Assumes nothing.
use mathlib.Core.Path.{ap, ◌∙◌}
use Rattle.ledger.specs.declared.Ledger.{Ledger}
use Rattle.ledger.specs.Take.{Taken, map_after, taken_of}
use Rattle.c_words.specs.Header.{headed}
use Rattle.c_words.specs.Inside.{settled}
use Rattle.temelyak.proofs.ResultLaws.{same_answer, same_words}
use Rattle.temelyak.proofs.CallLaws.{take_answer_is, take_words_is, take_map_is}
use Rattle.temelyak.proofs.temelyak_take.Goals as goal

pub returns : goal.returns
returns c =
    let a = c.args in
    let ws = a.ledger.now in
    let m = a.map.now in
    let s = a.bytes.now in
    let l = c.lent_ledger.ensures in
    let t = c.take-taken.ensures in
    let x = c.take-taken.result in
    let lent = c.lent_ledger.result in
    let taken = t.0 ∙ ap (λ (x : Ledger). taken_of x m s) l in (
      c.settle.ensures.0 ∙ ap (headed a.header) (same_answer lent x) ∙ ap (λ (x : Taken). headed a.header x.answer) taken ∙ take_answer_is a.header ws m s,
      c.settle.ensures.1 ∙ same_words a.header ws lent x ∙ ap (settled a.header ws) taken ∙ take_words_is a.header ws m s,
      t.1 ∙ ap (λ (x : Ledger). map_after x m s) l ∙ take_map_is a.header ws m s,
    )
