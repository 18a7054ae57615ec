-- The mark decides the word: none told, a line, and else pieces. Assumes nothing.
use borrow.Author.Tests.{eq-eqb, ne_eqb}
use Rattle.element_line.proofs.with_per.Goals as goal

pub returns-then-stock-eq0 : goal.returns-then-stock-eq0
returns-then-stock-eq0 c = rw (eq-eqb c.args.stock 0 c.if-stock-eq0.true) c.with_byte.ensures

pub returns-then-stock-eq2 : goal.returns-then-stock-eq2
returns-then-stock-eq2 c =
    let s = c.args.stock in
    rw (ne_eqb s 0 c.if-stock-eq0.false, eq-eqb s 2 c.if-stock-eq2.true) c.with_words.ensures

pub returns : goal.returns
returns c =
    let s = c.args.stock in
    rw (ne_eqb s 0 c.if-stock-eq0.false, ne_eqb s 2 c.if-stock-eq2.false) c.with_words-2.ensures
