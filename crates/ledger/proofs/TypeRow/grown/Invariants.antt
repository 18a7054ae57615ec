use mathlib.Core.Path.{◌≡◌}
use Rattle.ledger.proofs.CellLaws.{grown_below}
use Rattle.ledger.proofs.TypeRow.grown.Given as goal

-- the cells of the levels so far are grown
abbrev pub invariant-loop-level : goal.invariant-loop-level
invariant-loop-level l = l.self.levels ≡ grown_below l.level l.figures l.fn.self.levels
