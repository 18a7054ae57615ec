-- The header is looked at first, then the words. Assumes nothing.
use mathlib.Core.Path.{◌≡◌, sym, ◌∙◌}
use mathlib.Core.Bool.{true}
use Rattle.c_words.specs.Words.{words_fit}
use Rattle.c_words.proofs.WordLaws.{fit}
use Rattle.c_words.proofs.LentLaws.{lent_other, lent_unfit, lent_fits}
use Rattle.c_words.proofs.lent_ledger.Goals as goal

pub returns-then-header-ne-HEADER : goal.returns-then-header-ne-HEADER
returns-then-header-ne-HEADER c =
    let a = c.args in
    c.no_ledger.ensures ∙ sym (lent_other a.header a.words.now c.if-header-ne-HEADER.true)

pub returns-then-not-words_fit : goal.returns-then-not-words_fit
returns-then-not-words_fit c =
    let a = c.args in
    c.no_ledger-then-not-words_fit.ensures ∙ sym (lent_unfit a.header a.words.now c.if-header-ne-HEADER.false (sym c.words_fit.ensures ∙ c.if-not-words_fit.true))

pub ledger_in-requires : goal.ledger_in-requires
ledger_in-requires c =
    let hold : words_fit c.args.words.now ≡ true = sym c.words_fit.ensures ∙ c.if-not-words_fit.false in
    fit c.args.words.now hold

pub returns : goal.returns
returns c =
    let hold : words_fit c.args.words.now ≡ true = sym c.words_fit.ensures ∙ c.if-not-words_fit.false in
    let a = c.args in
    c.ledger_in.ensures ∙ sym (lent_fits a.header a.words.now c.if-header-ne-HEADER.false hold)
