use mathlib.Core.Path.{◌≡◌}
use mathlib.Core.Bool.{◌&&◌}
use lib.ListN.{drop}
use Rattle.base.specs.Lists.{every}
use Rattle.ledger.specs.Sound.{row_within}
use Rattle.ledger.proofs.rows_within.Given as goal

abbrev pub invariant-loop-row : goal.invariant-loop-row
invariant-loop-row l = every (row_within l.events) l.fn.rows ≡ (l.ok && every (row_within l.events) (drop l.row-index l.fn.rows))
