-- Seven stores, then the cells; where there are not as many words nothing is done. Assumes nothing.
use mathlib.Core.Path.{sym, ap, ◌∙◌}
use mathlib.Core.List.{[], ◌∷◌, ◌++◌}
use mathlib.Core.Bool.{cond}
use lib.ListN.{length, length-set}
use native.Mathlib.Omega.{arith}
use borrow.Author.Tests.{eq-eqb, ne_eqb}
use Rattle.c_words.specs.Words.{ledger_words, words_of, words_before, cell_words, cells_in}
use Rattle.c_words.specs.Inside.{written}
use Rattle.c_words.proofs.WordLaws.{seven_set, flag_byte}
use Rattle.c_words.proofs.write.Goals as goal

pub returns-then-words-ne-WORDS : goal.returns-then-words-ne-WORDS
unfolding written
returns-then-words-ne-WORDS c =
    let a = c.args in
    sym (ap (λ t. cond t (words_of a.ledger) a.words.now) (ne_eqb (length a.words.now) ledger_words c.if-words-ne-WORDS.true))

pub bounds-words-3 : goal.bounds-words-3
bounds-words-3 c = simp length-set (omega (arith, c.if-words-ne-WORDS.false))

pub bounds-words-4 : goal.bounds-words-4
bounds-words-4 c = simp length-set (omega (arith, c.if-words-ne-WORDS.false))

pub bounds-words-5 : goal.bounds-words-5
bounds-words-5 c = simp length-set (omega (arith, c.if-words-ne-WORDS.false))

pub bounds-words-6 : goal.bounds-words-6
bounds-words-6 c = simp length-set (omega (arith, c.if-words-ne-WORDS.false))

pub write_rows-requires : goal.write_rows-requires
write_rows-requires c = simp length-set c.if-words-ne-WORDS.false

pub shape_of-words : goal.shape_of-words
shape_of-words c = c.words-1.given ∙ simp length-set

pub returns : goal.returns
unfolding written words_of
returns c =
    let a = c.args in
    let ws = a.words.now in
    let l = a.ledger in
    let rest = cell_words (cells_in l.rows) in
    let size = c.if-words-ne-WORDS.false in
    c.write_rows.ensures ∙
    ap (λ us. us ++ rest) (seven_set ws c.from.result c.from-2.result c.from-3.result c.from-4.result c.from-5.result c.from-6.result c.from-7.result size) ∙
    (λ i. ((c.from.ensures ∙ flag_byte l.sheet.there) i ∷ c.from-2.ensures i ∷ c.from-3.ensures i ∷ c.from-4.ensures i ∷ c.from-5.ensures i ∷ c.from-6.ensures i ∷ c.from-7.ensures i ∷ []) ++ rest) ∙
    sym (ap (λ t. cond t (words_before l ++ rest) ws) (eq-eqb (length ws) ledger_words size))
