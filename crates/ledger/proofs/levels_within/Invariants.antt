use mathlib.Core.Path.{◌≡◌}
use mathlib.Core.Bool.{◌&&◌}
use lib.ListN.{drop}
use Rattle.base.specs.Lists.{every}
use Rattle.ledger.specs.Sound.{cell_within}
use Rattle.ledger.proofs.levels_within.Given as goal

abbrev pub invariant-loop-cell : goal.invariant-loop-cell
invariant-loop-cell l = every (cell_within l.events) l.fn.levels ≡ (l.ok && every (cell_within l.events) (drop l.cell-index l.fn.levels))
