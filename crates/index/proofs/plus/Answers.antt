-- Both sums fit, as is asked. Assumes nothing.
use native.Mathlib.Omega.{arith}
use Rattle.annex.specs.Figure.{Off, Halves}
use Rattle.index.proofs.plus.Goals as goal

pub overflow_add-result : goal.overflow_add-result
overflow_add-result c = omega (arith, c.requires Off)

pub overflow_add-result-2 : goal.overflow_add-result-2
overflow_add-result-2 c = omega (arith, c.requires Halves)
