-- The word stands in front where the line begins with it and what follows it is parted from it. Assumes nothing.
use mathlib.Core.Path.{sym, ap, ◌∙◌}
use lib.ListN.{length}
use Rattle.text_scan.specs.Scan.{parted_here}
use Rattle.text_scan.proofs.ScanLaws.{part_is_rest}
use Rattle.text_parse.proofs.EntryLaws.{begins_is, no_word, word_parted}
use Rattle.text_parse.proofs.is_word.Goals as goal

pub returns-then-starts_with : goal.returns-then-starts_with
returns-then-starts_with c =
    let a = c.args in
    c.parted_here.ensures ∙ ap parted_here (c.part.ensures ∙ part_is_rest a.s.now (length a.word.now)) ∙
    word_parted a.s.now a.word.now (sym (begins_is a.s.now a.word.now) ∙ sym c.starts_with.ensures.value ∙ c.if-starts_with.true)

pub returns-else-starts_with : goal.returns-else-starts_with
returns-else-starts_with c =
    let a = c.args in
    c.if-starts_with.false ∙ no_word a.s.now a.word.now (sym (begins_is a.s.now a.word.now) ∙ sym c.starts_with.ensures.value ∙ c.if-starts_with.false)
