use Prim.Native.Nat.{◌+◌, ◌*◌, ◌<◌, ◌≤◌}
use mathlib.Core.Path.{◌≡◌}
use Rattle.decimal.proofs.tenfold.Given as goal

abbrev pub invariant-loop-k : goal.invariant-loop-k
invariant-loop-k l = (l.digit ≤ l._k) × (l.sum < l.d) × (l._k * l.rest ≡ l.digit * l.d + l.sum)
