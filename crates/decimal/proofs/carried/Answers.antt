-- Digits below the power stand as they are; digits that have come to the power are one more whole.
use borrow.Author.Rules.{rules}
use Prim.Native.Nat.{◌<◌}
use mathlib.Core.Path.{sym}
use native.Mathlib.Omega.{arith}
use Rattle.decimal.proofs.DivisionLaws.{split_under, split_full}
use Rattle.decimal.proofs.carried.Goals as goal

pub returns-then-digits-power : goal.returns-then-digits-power
returns-then-digits-power c =
    let a = c.args in
    sym (rw c.if-digits-power.true (split_full a.whole a.power (search rules)))

pub returns : goal.returns
returns c =
    let a = c.args in
    let h : a.digits < a.power = omega arith in
    sym (split_under a.whole a.power a.digits h)
