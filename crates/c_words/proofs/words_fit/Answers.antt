-- The number of words is looked at first, so that each word is there. Assumes nothing.
use lib.ListN.{length}
use borrow.Author.Tests.{eq-eqb, ne_eqb}
use Rattle.c_words.specs.Words.{ledger_words, words_fit}
use Rattle.c_words.proofs.words_fit.Goals as goal

pub returns-then-words-ne-WORDS : goal.returns-then-words-ne-WORDS
unfolding words_fit
returns-then-words-ne-WORDS c = rw (ne_eqb (length c.args.words.now) ledger_words c.if-words-ne-WORDS.true)

pub returns : goal.returns
unfolding words_fit
returns c =
    rw (eq-eqb (length c.args.words.now) ledger_words c.if-words-ne-WORDS.false)
