-- The header is looked at first, as in the definition. Assumes nothing.
use mathlib.Core.Path.{sym, ap}
use mathlib.Core.Bool.{cond}
use borrow.Author.Tests.{eq-eqb, ne_eqb}
use Rattle.c_words.specs.Header.{header_word}
use Rattle.c_words.proofs.answer_by.Goals as goal

pub returns-then-header-eq-HEADER : goal.returns-then-header-eq-HEADER
returns-then-header-eq-HEADER c =
    let a = c.args in
    sym (ap (λ t. cond t a.answer 254) (eq-eqb a.header header_word c.if-header-eq-HEADER.true))

pub returns : goal.returns
returns c =
    let a = c.args in
    sym (ap (λ t. cond t a.answer 254) (ne_eqb a.header header_word c.if-header-eq-HEADER.false))
