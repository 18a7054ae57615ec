use mathlib.Core.Path.{◌≡◌}
use Rattle.index.specs.Sums.{sum_to, held_cell}
use Rattle.index.proofs.level_sum.Given as goal

abbrev pub invariant-loop-row : goal.invariant-loop-row
invariant-loop-row l = l.sum ≡ sum_to (held_cell l.rows l.level l.set) l.row
