-- `rounded` is the one number of units that is nearest, and what a decimal shows is that number. Assumes nothing.
use Prim.Native.Nat.{ℕ, ◌+◌, ◌*◌, ◌/◌, ◌%◌, ◌^◌, ◌<◌, ◌≤◌}
use Rattle.std.specs.Prelude.{Ok, Err}
use mathlib.Core.Path.{◌≡◌, refl, sym, ◌∙◌, ap, subst}
use native.Mathlib.Omega.{arith}
use native.Mathlib.Nat.{add_assoc, mul_assoc, mul_left_comm, mul_right_comm, add-mul, mul-le-mul_right, eq_of_mul-eq-mul_right, div-add-mod', mod-lt}
use borrow.Author.Tests.{eq-eqb, ne_eqb, lt-ltb, le-ltb}
use Rattle.ratio.specs.declared.Fraction.{Fraction}
use Rattle.ratio.specs.Lowest.{gcd_of, lowest_of}
use Rattle.ratio.proofs.Euclid.{gcd_pos, parts_times_gcd, lowest_lowest}
use Rattle.decimal.specs.declared.Division.{Division}
use Rattle.refusals.specs.declared.Refusal.TheVariants.{Nobody, Digits}
use Rattle.decimal.specs.Decimal.{Nearest, rounded, split_at, decimal_of, shown_of, Divided}
use Rattle.decimal.proofs.DivisionLaws.{one_more_time, ten_power_pos, split_under, whole_before_digits}

pub rounded_nearest : (n d k : ℕ) → 0 < d → Nearest n d k (rounded n d k)
unfolding rounded
rounded_nearest n d k p =
    let s = 2 * (n * 10 ^ k) + d in
    let v = s / (2 * d) in
    let e : v * (2 * d) + s % (2 * d) ≡ s = div-add-mod' s (2 * d) in
    let l : s % (2 * d) < 2 * d = mod-lt s (omega arith) in
    let t : v * (2 * d) ≡ 2 * (v * d) = mul_left_comm v 2 d in
    record { not_far_above = omega arith; not_far_below = omega arith; tie_upward = λ z. omega arith }

-- the larger of two is a whole unit above the smaller, and not both can be near
nearest_not_less : (n d k v w : ℕ) → Nearest n d k v → Nearest n d k w → v < w → ⊥
nearest_not_less n d k v w p q l =
    let a : 2 * (w * d) ≤ 2 * (n * 10 ^ k) + d = q.not_far_above in
    let b : 2 * (n * 10 ^ k) ≤ 2 * (v * d) + d = p.not_far_below in
    let c : 2 * (n * 10 ^ k) ≡ 2 * (v * d) + d → ⊥ = p.tie_upward in
    let e : (v + 1) * d ≡ v * d + d = one_more_time v d in
    let f : (v + 1) * d ≤ w * d = mul-le-mul_right d (omega arith) in
    omega arith

pub nearest_unique : (n d k v w : ℕ) → Nearest n d k v → Nearest n d k w → v ≡ w
nearest_unique n d k v w p q =
    let a : v < w → ⊥ = nearest_not_less n d k v w p q in
    let b : w < v → ⊥ = nearest_not_less n d k w v q p in
    omega arith

-- the same fraction in larger terms has the same nearest
module _ (n d k v g : ℕ) (p : 0 < g) (h : Nearest n d k v) where
  value_times : 2 * (n * g * 10 ^ k) ≡ 2 * (n * 10 ^ k) * g
  value_times = ap (λ (x : ℕ). 2 * x) (mul_right_comm n g (10 ^ k)) ∙ sym (mul_assoc 2 (n * 10 ^ k) g)

  shown_times : 2 * (v * (d * g)) ≡ 2 * (v * d) * g
  shown_times = ap (λ (x : ℕ). 2 * x) (sym (mul_assoc v d g)) ∙ sym (mul_assoc 2 (v * d) g)

  pub nearest_times : Nearest (n * g) (d * g) k v
  nearest_times =
      let x = 2 * (n * 10 ^ k) in
      let y = 2 * (v * d) in
      let a : y * g ≤ (x + d) * g = mul-le-mul_right g h.not_far_above in
      let b : x * g ≤ (y + d) * g = mul-le-mul_right g h.not_far_below in
      let e : (x + d) * g ≡ x * g + d * g = add-mul x d g in
      let f : (y + d) * g ≡ y * g + d * g = add-mul y d g in
      record {
        not_far_above = rw (value_times, shown_times) (omega arith);
        not_far_below = rw (value_times, shown_times) (omega arith);
        tie_upward = λ z. h.tie_upward (eq_of_mul-eq-mul_right g p x (y + d) (sym value_times ∙ z ∙ ap (λ (t : ℕ). t + d * g) shown_times ∙ sym f));
      }

-- what is nearest to a fraction in lowest terms is nearest to the fraction
pub lowest_nearest : (n d k v : ℕ) → 0 < d → Nearest (lowest_of n d).top (lowest_of n d).bottom k v → Nearest n d k v
unfolding lowest_of
lowest_nearest n d k v p h =
    let g = gcd_of n d in
    let m = parts_times_gcd n d in
    let t : Nearest (n / g * g) (d / g * g) k v = nearest_times (n / g) (d / g) k v g (gcd_pos n d p) h in
    subst (λ (x : ℕ). Nearest x d k v) m.0 (subst (λ (y : ℕ). Nearest (n / g * g) y k v) m.1 t)

-- the rounding of a number of units, by the rest that its division leaves
module _ (n d k q r : ℕ) (e : n * 10 ^ k ≡ q * d + r) (l : r < d) where
  is_rounded : (v : ℕ) → Nearest n d k v → rounded n d k ≡ v
  is_rounded v h = nearest_unique n d k (rounded n d k) v (rounded_nearest n d k (omega arith)) h

  pub below_half_down : 2 * r < d → rounded n d k ≡ q
  below_half_down h = is_rounded q (record { not_far_above = omega arith; not_far_below = omega arith; tie_upward = λ z. omega arith })

  pub half_upward : d ≤ 2 * r → rounded n d k ≡ q + 1
  half_upward h =
      let a : (q + 1) * d ≡ q * d + d = one_more_time q d in
      is_rounded (q + 1) (record { not_far_above = omega arith; not_far_below = omega arith; tie_upward = λ z. omega arith })

-- the decimal, by the long division of what the whole part leaves
module _ (f : Fraction) (k : ℕ) (x : Division) (h : Divided (f.top % f.bottom) f.bottom k x) where
  abbrev units : ℕ
  units = f.top / f.bottom * 10 ^ k + x.digits

  units_split : f.top * 10 ^ k ≡ units * f.bottom + x.rest
  units_split = whole_before_digits f.top f.bottom k x.digits x.rest h.split

  pub below_half_cut_off : 2 * x.rest < f.bottom → decimal_of f k ≡ record { whole = f.top / f.bottom; digits = x.digits }
  unfolding decimal_of
  below_half_cut_off l =
      ap (λ (v : ℕ). split_at v (10 ^ k)) (below_half_down f.top f.bottom k units x.rest units_split h.less l) ∙
      split_under (f.top / f.bottom) (10 ^ k) x.digits h.fits

  pub half_carried : f.bottom ≤ 2 * x.rest → decimal_of f k ≡ split_at (f.top / f.bottom * x.power + (x.digits + 1)) x.power
  unfolding decimal_of
  half_carried l =
      ap (λ (v : ℕ). split_at v (10 ^ k))
      (half_upward f.top f.bottom k units x.rest units_split h.less l ∙ add_assoc (f.top / f.bottom * 10 ^ k) x.digits 1) ∙
      (λ i. split_at (f.top / f.bottom * sym h.power i + (x.digits + 1)) (sym h.power i))

-- the k digits after the whole part are below 10^k
pub digits_below : (f : Fraction) (k : ℕ) → (decimal_of f k).digits < 10 ^ k
unfolding decimal_of
digits_below f k = mod-lt (rounded f.top f.bottom k) (ten_power_pos k)

-- whole part and digits are together the rounded number of units
pub decimal_value : (f : Fraction) (k : ℕ) →
    (decimal_of f k).whole * 10 ^ k + (decimal_of f k).digits ≡ rounded f.top f.bottom k
unfolding decimal_of
decimal_value f k = div-add-mod' (rounded f.top f.bottom k) (10 ^ k)

-- and a fraction in lowest terms is shown as the fraction
pub lowest_decimal : (n d k : ℕ) → 0 < d → decimal_of (lowest_of n d) k ≡ decimal_of (record { top = n; bottom = d }) k
unfolding decimal_of
lowest_decimal n d k p =
    let f = lowest_of n d in
    let exists : f.bottom ≡ 0 → ⊥ = (lowest_lowest n d p).exists in
    let near = lowest_nearest n d k (rounded f.top f.bottom k) p (rounded_nearest f.top f.bottom k (omega arith)) in
    ap (λ (v : ℕ). split_at v (10 ^ k)) (nearest_unique n d k (rounded f.top f.bottom k) (rounded n d k) near (rounded_nearest n d k p))

-- without a bottom 17; else with more than 6 digits 18; else the decimal
pub no_bottom_17 : (f : Fraction) (k : ℕ) → f.bottom ≡ 0 → shown_of f k ≡ Err Nobody
unfolding shown_of
no_bottom_17 f k e = rw (eq-eqb f.bottom 0 e) refl

pub too_many_18 : (f : Fraction) (k : ℕ) → (f.bottom ≡ 0 → ⊥) → 6 < k → shown_of f k ≡ Err Digits
unfolding shown_of
too_many_18 f k exists h = rw (ne_eqb f.bottom 0 exists, lt-ltb 6 k h) refl

pub else_shown : (f : Fraction) (k : ℕ) → (f.bottom ≡ 0 → ⊥) → k ≤ 6 → shown_of f k ≡ Ok (decimal_of f k)
unfolding shown_of
else_shown f k exists h = rw (ne_eqb f.bottom 0 exists, le-ltb 6 k h) refl
