-- A line that is as long as the word begins with it where each pair of their bytes is the same in whichever letters; a shorter one does not. Assumes nothing.
use mathlib.Core.Path.{sym, ◌∙◌}
use lib.ListN.{length}
use borrow.Author.Tests.{lt-leb}
use Rattle.std.proofs.Common.{rules, tests}
use Rattle.std.proofs.lemmas.Iterator.{YieldsList-from_slice, YieldsList-from_zip}
use Rattle.std.proofs.lemmas.Iterator.Search.{all_from_yields_List}
use Rattle.likeness.proofs.LikenessLaws.{same_letters, alike_short, alike_all}
use Rattle.likeness.proofs.begins_alike.Goals as goal

pub returns-then-word-s : goal.returns-then-word-s
returns-then-word-s c =
    let a = c.args in
    all_from_yields_List same_letters c.all.new.self _ c.all.result c.all.ensures.ran
    (YieldsList-from_zip (YieldsList-from_slice a.s.now cc) (YieldsList-from_slice a.word.now cc)) (λ x b q k. search (rules, tests)) ∙
    alike_all a.s.now a.word.now c.if-word-s.true

pub returns-else-word-s : goal.returns-else-word-s
returns-else-word-s c =
    let a = c.args in
    lt-leb (length a.word.now) (length a.s.now) c.if-word-s.false ∙ sym (alike_short a.s.now a.word.now c.if-word-s.false)
