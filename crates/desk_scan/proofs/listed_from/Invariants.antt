-- At each turn the number is listed from the start on if it was hit so far or is listed in what is left to be counted. Assumes nothing.
use mathlib.Core.Path.{◌≡◌}
use mathlib.Core.Bool.{◌||◌}
use lib.ListN.{length, drop}
use Rattle.base.specs.Lists.{listed}
use Rattle.desk_scan.proofs.TableLaws.{standing}
use Rattle.desk_scan.proofs.listed_from.Given as goal

abbrev pub invariant-loop-i : goal.invariant-loop-i
invariant-loop-i l =
    (listed l.number (drop l.start l.table) ≡ (l.hit || listed l.number (drop (standing l.start l.i) l.table))) × (length l.table ≡ 32)
