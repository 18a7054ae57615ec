-- Each turn takes one digit more: the power, the digits and the rest stay a division of m by d with k digits.
use borrow.Author.Rules.{rules}
use Prim.Native.Nat.{◌<◌, ◌≤◌}
use mathlib.Core.Path.{◌≡◌, refl}
use native.Mathlib.Omega.{arith}
use Rattle.decimal.proofs.DivisionLaws.{digit_more, six_digits_small}
use Rattle.decimal.proofs.divide.Goals as goal

pub loop-k-init : goal.loop-k-init
loop-k-init c = record { power = refl; split = omega arith; less = search rules; fits = omega arith }

pub tenfold-t-requires : goal.tenfold-t-requires
tenfold-t-requires c = c.loop-k.invariant.less

pub overflow_mul-x : goal.overflow_mul-x
overflow_mul-x c =
    let small : (c.loop-k.x.power ≤ 1000000) × (c.loop-k.x.digits < 1000000) = let a = c.args in
    let l = c.loop-k in
    six_digits_small a.m a.d l._k l.x l.invariant (omega arith) in
    omega (arith, small)

pub overflow_mul-x-in-loop-k : goal.overflow_mul-x-in-loop-k
overflow_mul-x-in-loop-k c =
    let small : (c.loop-k.x.power ≤ 1000000) × (c.loop-k.x.digits < 1000000) = let a = c.args in
    let l = c.loop-k in
    six_digits_small a.m a.d l._k l.x l.invariant (omega arith) in
    omega (arith, small)

pub overflow_add-x : goal.overflow_add-x
overflow_add-x c =
    let small : (c.loop-k.x.power ≤ 1000000) × (c.loop-k.x.digits < 1000000) = let a = c.args in
    let l = c.loop-k in
    six_digits_small a.m a.d l._k l.x l.invariant (omega arith) in
    omega (arith, small, c.tenfold-t.ensures.digit)

pub loop-k-preserved : goal.loop-k-preserved
loop-k-preserved c =
    let a = c.args in
    let l = c.loop-k in
    let t = c.tenfold-t in
    digit_more a.m a.d l._k l.x l.invariant t.result t.ensures

pub returns : goal.returns
returns c =
    let e : c.loop-k._k ≡ c.args.digits = omega arith in
    rw e at c.loop-k.invariant
