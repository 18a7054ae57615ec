-- Words of another number are refused; else an empty ledger is written. Assumes nothing.
use mathlib.Core.Path.{ap, ◌∙◌}
use lib.ListN.{length}
use borrow.Author.Tests.{eq-eqb, ne_eqb}
use Rattle.ledger.specs.declared.Ledger.{Ledger}
use Rattle.c_words.specs.Words.{ledger_words}
use Rattle.c_words.specs.Inside.{settled}
use Rattle.temelyak.proofs.CallLaws.{empty_answer_is, empty_words_is, empty_unsized}
use Rattle.temelyak.proofs.temelyak_empty.Goals as goal

pub returns-then-ledger-ne-WORDS : goal.returns-then-ledger-ne-WORDS
returns-then-ledger-ne-WORDS c =
    let a = c.args in
    let u = empty_unsized a.header a.ledger.now (ne_eqb (length a.ledger.now) ledger_words c.if-ledger-ne-WORDS.true) in
    (c.answer_by.ensures ∙ u.0, u.1)

pub returns : goal.returns
returns c =
    let a = c.args in
    let size = eq-eqb (length a.ledger.now) ledger_words c.if-ledger-ne-WORDS.false in
    let settle = c.settle.ensures in (
      settle.0 ∙ empty_answer_is a.header a.ledger.now size,
      settle.1 ∙ ap (λ (l : Ledger). settled a.header a.ledger.now (record { answer = 0; ledger = l })) c.empty.ensures ∙ empty_words_is a.header a.ledger.now size,
    )
