-- At each turn the entries seen differ from all that follow them, and what is left of the table differs by itself. Assumes nothing.
use mathlib.Core.Path.{◌≡◌}
use mathlib.Core.Bool.{◌&&◌}
use lib.ListN.{length, drop}
use Rattle.desk_scan.specs.Desk.{differ}
use Rattle.desk_scan.proofs.numbers_differ.Given as goal

abbrev pub invariant-loop-i : goal.invariant-loop-i
invariant-loop-i l = (differ l.table ≡ (l.ok && differ (drop l.i l.table))) × (length l.table ≡ 32)
