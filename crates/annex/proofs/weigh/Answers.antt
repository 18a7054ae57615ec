-- `annex::weigh` meets its contract. The product is at most that of the two bounds, which fits 64 bits. Assumes nothing.
use mathlib.Core.Path.{refl}
use native.Mathlib.Nat.{mul-le-mul_right}
use native.Mathlib.Omega.{arith}
use Rattle.annex.proofs.weigh.Goals as goal

pub overflow_mul-result : goal.overflow_mul-result
overflow_mul-result c = omega (arith, mul-le-mul_right c.args.minutes c.requires.0)

pub returns : goal.returns
returns c = (refl, mul-le-mul_right c.args.minutes c.requires.0)
