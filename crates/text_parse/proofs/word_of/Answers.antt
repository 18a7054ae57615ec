-- The words are tried in the order of `word_of`, each by its bytes. Assumes nothing.
use mathlib.Core.Path.{sym, ◌∙◌}
use Rattle.text_parse.proofs.EntryLaws.{word_first, word_second, word_third, word_fourth, word_none}
use Rattle.text_parse.proofs.word_of.Goals as goal

pub returns-then-is_word-clause-word : goal.returns-then-is_word-clause-word
returns-then-is_word-clause-word c = sym (word_first c.args.s.now (sym c.is_word.ensures ∙ c.if-is_word.true))

pub returns-then-is_word-2-clause-word : goal.returns-then-is_word-2-clause-word
returns-then-is_word-2-clause-word c = sym (word_second c.args.s.now (sym c.is_word.ensures ∙ c.if-is_word.false) (sym c.is_word-2.ensures ∙ c.if-is_word-2.true))

pub returns-then-is_word-3-clause-word : goal.returns-then-is_word-3-clause-word
returns-then-is_word-3-clause-word c = sym (word_third c.args.s.now (sym c.is_word.ensures ∙ c.if-is_word.false) (sym c.is_word-2.ensures ∙ c.if-is_word-2.false) (sym c.is_word-3.ensures ∙ c.if-is_word-3.true))

pub returns-then-is_word-4-clause-word : goal.returns-then-is_word-4-clause-word
returns-then-is_word-4-clause-word c = sym (word_fourth c.args.s.now (sym c.is_word.ensures ∙ c.if-is_word.false) (sym c.is_word-2.ensures ∙ c.if-is_word-2.false) (sym c.is_word-3.ensures ∙ c.if-is_word-3.false) (sym c.is_word-4.ensures ∙ c.if-is_word-4.true))

pub returns-clause-word : goal.returns-clause-word
returns-clause-word c = sym (word_none c.args.s.now (sym c.is_word.ensures ∙ c.if-is_word.false) (sym c.is_word-2.ensures ∙ c.if-is_word-2.false) (sym c.is_word-3.ensures ∙ c.if-is_word-3.false) (sym c.is_word-4.ensures ∙ c.if-is_word-4.false))
