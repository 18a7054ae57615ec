-- Long division, a digit at a time, and the whole part put back before its digits. Assumes nothing.
use Prim.Native.Nat.{ℕ, ◌+◌, ◌*◌, ◌/◌, ◌%◌, ◌^◌, ◌<◌, ◌≤◌}
use mathlib.Core.Path.{◌≡◌, ap, ◌∙◌, sym}
use native.Mathlib.Omega.{arith}
use native.Mathlib.Numerals.{add-one}
use native.Mathlib.Nat.{suc-mul, pow-suc, pow-le-pow_right, mul_assoc, mul_right_comm, add-mul, div-add-mod', mul-le-mul_left}
use lib.Arith.{digits_div, digits_mod}
use Rattle.decimal.specs.declared.Digit.{Digit}
use Rattle.decimal.specs.declared.Division.{Division}
use Rattle.decimal.specs.Decimal.{split_at, Tenfold, Divided}

-- k + 1 times a number is k times it, and once more
pub one_more_time : (k x : ℕ) → (k + 1) * x ≡ k * x + x
one_more_time k x = rw add-one (suc-mul k x)

pub ten_power_pos : (k : ℕ) → 0 < 10 ^ k
ten_power_pos k = let h : 10 ^ 0 ≤ 10 ^ k = pow-le-pow_right {n = 10} (omega arith) {i = 0} {j = k} (omega arith) in omega arith

module _ (m d k : ℕ) (x : Division) (h : Divided m d k x) where
  -- a division with k digits, and ten times its rest divided: the division with k + 1 digits
  pub digit_more :
      (t : Digit) → Tenfold x.rest d t →
      Divided m d (k + 1) (record { power = x.power * 10; digits = x.digits * 10 + t.digit; rest = t.rest })
  digit_more t s =
      let p : 10 ^ (k + 1) ≡ 10 ^ k * 10 = rw add-one (pow-suc 10 k) in
      let e : m * 10 ^ k ≡ x.digits * d + x.rest = h.split in
      let f : x.power ≡ 10 ^ k = h.power in
      let g : x.digits < 10 ^ k = h.fits in
      let v : 10 * x.rest ≡ t.digit * d + t.rest = s.split in
      let u : t.digit < 10 = s.digit in
      let a : m * 10 ^ (k + 1) ≡ m * 10 ^ k * 10 = ap (λ (y : ℕ). m * y) p ∙ sym (mul_assoc m (10 ^ k) 10) in
      let b : (x.digits * 10 + t.digit) * d ≡ x.digits * 10 * d + t.digit * d = add-mul (x.digits * 10) t.digit d in
      let c : x.digits * 10 * d ≡ x.digits * d * 10 = mul_right_comm x.digits 10 d in
      record { power = omega arith; split = omega arith; less = s.less; fits = omega arith }

  -- of up to six digits the power is at most a million, and the digits are below a million
  pub six_digits_small : k ≤ 6 → (x.power ≤ 1000000) × (x.digits < 1000000)
  six_digits_small l =
      let f : x.power ≡ 10 ^ k = h.power in
      let u : x.digits < 10 ^ k = h.fits in
      let g : 10 ^ k ≤ 10 ^ 6 = pow-le-pow_right {n = 10} (omega arith) l in
      (omega arith, omega arith)

-- digits below the power are split off as they are; as many as the power are one whole more and no digits
pub split_under : (whole power digits : ℕ) → digits < power → split_at (whole * power + digits) power ≡ record { whole = whole; digits = digits }
split_under whole power digits l = λ i. record { whole = digits_div whole l i; digits = digits_mod whole l i }

pub split_full : (whole power : ℕ) → 0 < power → split_at (whole * power + power) power ≡ record { whole = whole + 1; digits = 0 }
split_full whole power l =
    let e : whole * power + power ≡ (whole + 1) * power + 0 = let b = one_more_time whole power in omega arith in
    ap (λ (x : ℕ). split_at x power) e ∙ split_under (whole + 1) power 0 l

-- the division of the rest carries on that of the whole number
pub whole_before_digits : (n d k digits rest : ℕ) → n % d * 10 ^ k ≡ digits * d + rest →
    n * 10 ^ k ≡ (n / d * 10 ^ k + digits) * d + rest
whole_before_digits n d k digits rest e =
    let p = 10 ^ k in
    let q = n / d in
    let a : q * d + n % d ≡ n = div-add-mod' n d in
    let b : n * p ≡ (q * d + n % d) * p = ap (λ (x : ℕ). x * p) (sym a) in
    let c : (q * d + n % d) * p ≡ q * d * p + n % d * p = add-mul (q * d) (n % d) p in
    let f : q * d * p ≡ q * p * d = mul_right_comm q d p in
    let g : (q * p + digits) * d ≡ q * p * d + digits * d = add-mul (q * p) digits d in
    omega arith

-- a quotient by a divisor of 2 or more, as a rest of half of it shows, is small enough to grow by one
pub quotient_has_room : (n d rest : ℕ) → n < 18446744073709551616 → rest < d → d ≤ 2 * rest → n / d < 18446744073709551615
quotient_has_room n d rest h l u =
    let a : n / d * d + n % d ≡ n = div-add-mod' n d in
    let b : n / d * 2 ≤ n / d * d = mul-le-mul_left (n / d) (omega arith) in
    omega arith
