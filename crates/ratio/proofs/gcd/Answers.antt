-- Each turn keeps the common divisors of the two numbers, so the last of them is the greatest common divisor; there is only one.
use borrow.Author.Rules.{rules}
use mathlib.Core.Path.{◌≡◌}
use native.Mathlib.Omega.{arith}
use native.Mathlib.Nat.{mod-lt}
use Rattle.ratio.proofs.Euclid.{gcd_step, gcd_unique, gcd_with_zero, gcd_is}
use Rattle.ratio.proofs.gcd.Goals as goal

pub loop-y-init : goal.loop-y-init
loop-y-init c = λ g h. h

pub loop-y-smaller : goal.loop-y-smaller
loop-y-smaller c = mod-lt _ (omega arith)

pub loop-y-preserved : goal.loop-y-preserved
loop-y-preserved c = λ g h. c.loop-y.invariant g (gcd_step c.loop-y.x c.loop-y.y g h)

pub returns : goal.returns
returns c =
    let a = c.args in
    let x = c.loop-y.x in
    let z : c.loop-y.y ≡ 0 = search rules in
    gcd_unique a.a a.b _ _ (c.loop-y.invariant x (rw z (gcd_with_zero x))) (gcd_is a.a a.b)
