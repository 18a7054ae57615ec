-- Each figure has room for one event more. Assumes nothing.
use native.Mathlib.Omega.{arith}
use Rattle.annex.specs.Figure.{Off, Halves}
use Rattle.ledger.proofs.Cell.grown.Goals as goal

pub overflow_add-result : goal.overflow_add-result
overflow_add-result c = let p = c.requires in omega (arith, p.0 Off, p.1)

pub overflow_add-result-2 : goal.overflow_add-result-2
overflow_add-result-2 c = let p = c.requires in omega (arith, p.0 Halves, p.2)
