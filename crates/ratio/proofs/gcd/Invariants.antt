use Prim.Native.Nat.{ℕ}
use Rattle.ratio.proofs.Euclid.{IsGcd}
use Rattle.ratio.proofs.gcd.Given as goal

abbrev pub invariant-loop-y : goal.invariant-loop-y
invariant-loop-y l = (g : ℕ) → IsGcd l.x l.y g → IsGcd l.a l.b g

abbrev pub decreases-loop-y : goal.decreases-loop-y
decreases-loop-y l = l.y
