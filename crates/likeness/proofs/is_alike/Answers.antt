-- The word stands in front where the line begins with it in whichever letters and what follows it is parted from it. Assumes nothing.
use mathlib.Core.Path.{sym, ap, ◌∙◌}
use lib.ListN.{length}
use Rattle.text_scan.specs.Scan.{parted_here}
use Rattle.text_scan.proofs.ScanLaws.{part_is_rest}
use Rattle.likeness.proofs.LikenessLaws.{not_alike, alike_parted}
use Rattle.likeness.proofs.is_alike.Goals as goal

pub returns-then-begins_alike : goal.returns-then-begins_alike
returns-then-begins_alike c =
    let a = c.args in
    c.parted_here.ensures ∙ ap parted_here (c.part.ensures ∙ part_is_rest a.s.now (length a.word.now)) ∙
    alike_parted a.s.now a.word.now (sym c.begins_alike.ensures ∙ c.if-begins_alike.true)

pub returns-else-begins_alike : goal.returns-else-begins_alike
returns-else-begins_alike c =
    let a = c.args in
    c.if-begins_alike.false ∙ not_alike a.s.now a.word.now (sym c.begins_alike.ensures ∙ c.if-begins_alike.false)
