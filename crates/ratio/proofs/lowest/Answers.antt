-- Both are divided by the greatest common divisor, as `lowest_of` says; where that is 0 the definition's quotients by 0 are 0, and so is the answer.
use Prim.Native.Nat.{◌/◌}
use mathlib.Core.Path.{◌≡◌, sym, ◌∙◌}
use native.Mathlib.Nat.{div-zero}
use Rattle.ratio.specs.Lowest.{gcd_of, lowest_of}
use Rattle.ratio.proofs.lowest.Goals as goal

pub returns-then-g-eq0 : goal.returns-then-g-eq0
unfolding lowest_of
returns-then-g-eq0 c =
    let a = c.args in
    let e : gcd_of a.n a.d ≡ 0 = sym c.gcd-g.ensures ∙ c.if-g-eq0.true in
    sym ((λ i. record { top = a.n / e i; bottom = a.d / e i }) ∙ (λ i. record { top = div-zero a.n i; bottom = div-zero a.d i }))

pub returns : goal.returns
unfolding lowest_of
returns c =
    let a = c.args in
    λ i. record { top = a.n / c.gcd-g.ensures i; bottom = a.d / c.gcd-g.ensures i }
