use mathlib.Core.Path.{◌≡◌}
use lib.ListN.{drop}
use Rattle.codes.specs.Codes.{level_in}
use Rattle.codes.proofs.level_in.Given as goal

abbrev pub invariant-loop-row : goal.invariant-loop-row
invariant-loop-row l = level_in l.voltage l.table ≡ level_in l.voltage (drop l.row-index l.table)
