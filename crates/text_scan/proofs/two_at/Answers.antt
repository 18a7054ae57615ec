-- Where two digits stand their place is below 16, their bytes are read, and a digit's number is its byte less 0's. Assumes nothing.
use Prim.Native.Nat.{ℕ, ◌+◌, ◌-◌}
use mathlib.Core.Path.{◌≡◌, sym, ap, ◌∙◌}
use native.Mathlib.Omega.{arith}
use Rattle.wire.specs.Numbers.{byte_at}
use Rattle.text_scan.specs.Scan.{two_at}
use Rattle.text_scan.proofs.ScanLaws.{near_stand}
use Rattle.text_scan.proofs.two_at.Goals as goal

pub returns-then-not-two_stand : goal.returns-then-not-two_stand
unfolding two_at
returns-then-not-two_stand c = rw (two_at, ← c.two_stand.ensures, c.if-not-two_stand.true)

pub overflow_add-at : goal.overflow_add-at
overflow_add-at c = omega (arith, near_stand c.args.s.now c.args.at (sym c.two_stand.ensures ∙ c.if-not-two_stand.false))

pub returns : goal.returns
unfolding two_at
returns c =
    let a = c.args in
    let s = a.s.now in
    let stand = c.two_stand in
    let high : c.digit_of.result ≡ byte_at s a.at - 48 = c.digit_of.ensures ∙ ap (λ (b : ℕ). b - 48) c.byte_at.ensures in
    let low : c.digit_of-2.result ≡ byte_at s (a.at + 1) - 48 = c.digit_of-2.ensures ∙ ap (λ (b : ℕ). b - 48) c.byte_at-2.ensures in
    rw (two_at, ← stand.ensures, c.if-not-two_stand.false, high, low)
