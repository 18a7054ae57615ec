use mathlib.Core.Path.{◌≡◌}
use lib.ListN.{take}
use Rattle.text.specs.Text.{pushed_all}
use Rattle.report.proofs.ReportLaws.{level_lines, set_lines}
use Rattle.report.proofs.with_lines.Given as goal

abbrev pub invariant-loop-level : goal.invariant-loop-level
invariant-loop-level l = l.lines ≡ pushed_all l.initial.lines (level_lines l.ledger l.set (take l.level-index l.level-items))

abbrev pub invariant-loop-set : goal.invariant-loop-set
invariant-loop-set l = l.lines ≡ pushed_all l.fn.t (set_lines l.ledger (take l.set-index l.set-items))
