-- After k turns the digit and the sum split k times the rest by d; the sum stays below d, so ten times the rest has one digit.
use borrow.Author.Rules.{rules}
use Prim.Native.Nat.{ℕ, ◌+◌, ◌*◌, ◌<◌}
use mathlib.Core.Path.{◌≡◌, ◌∙◌, ap}
use native.Mathlib.Omega.{arith}
use native.Mathlib.Nat.{lt_of_mul-lt-mul_right}
use Rattle.decimal.proofs.DivisionLaws.{one_more_time}
use Rattle.decimal.proofs.tenfold.Goals as goal
use Rattle.decimal.proofs.tenfold.Goals.{then-d-rest, else-d-rest}

pub loop-k-init : goal.loop-k-init
loop-k-init c = (search rules, search rules, omega arith)

pub loop-k-preserved : goal.loop-k-preserved
loop-k-preserved c =
    let a = c.args in
    let l = c.loop-k in
    let turn : (l._k + 1) * a.rest ≡ l._k * a.rest + a.rest = one_more_time l._k a.rest in
    let carry : (l.digit + 1) * a.d ≡ l.digit * a.d + a.d = one_more_time l.digit a.d in
    elim c.if-d-rest.branch [
      | then-d-rest w ↦
          let e : c.if-d-rest.digit * a.d ≡ l.digit * a.d + a.d = ap (λ (x : ℕ). x * a.d) w.digit-is ∙ carry in
          (omega arith, omega arith, omega arith)
      | else-d-rest w ↦
          let e : c.if-d-rest.digit * a.d ≡ l.digit * a.d = ap (λ (x : ℕ). x * a.d) w.digit-is in
          (omega arith, omega arith, omega arith)
    ]

pub returns : goal.returns
returns c =
    let a = c.args in
    let l = c.loop-k in
    let ten : l._k ≡ 10 = omega arith in
    let split : 10 * a.rest ≡ l.digit * a.d + l.sum = rw ten at l.invariant.2 in
    let small : l.digit < 10 = lt_of_mul-lt-mul_right a.d (omega arith) in
    record { split = split; less = search rules; digit = small }
