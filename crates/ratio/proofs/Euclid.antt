-- Euclid's rule gives the greatest common divisor; divided by it a fraction is in lowest terms, and is the only such fraction of its value.
-- Assumes nothing.
use Prim.Native.Nat.{ℕ, zero, suc, ◌*◌, ◌/◌, ◌%◌, ◌<◌, ◌∣◌}
use mathlib.Core.Path.{◌≡◌, refl, sym, ◌∙◌, ap}
use mathlib.Core.Bool.{Bool, true, false}
use lib.Dec.{eqb}
use native.Mathlib.Omega.{arith}
use native.Mathlib.Nat.{dvd_refl, dvd-zero, dvd-mul_left, dvd-mul_right, dvd-mod_iff, dvd_antisymm, dvd_of_mul-dvd-mul_right, mul-dvd-mul_right, pos_of_dvd_of_pos, eq-one_of_dvd-one}
use native.Mathlib.Nat.{not-suc-le-zero, mod-lt, div-mul_cancel, div_self, zero-div, zero-mul, one-mul, mul_comm, mul_assoc, eq_of_mul-eq-mul_right}
use borrow.Author.Tests.{eqb-true, eqb-false}
use Rattle.ratio.specs.declared.Fraction.{Fraction}
use Rattle.ratio.specs.Fraction.{Same}
use Rattle.ratio.specs.Lowest.{Lowest, euclid, gcd_of, lowest_of}
use Rattle.ratio.proofs.SameLaws.{same_transitive}

-- g divides both, and whatever divides both divides g
pub record IsGcd (a b g : ℕ) : Type 0 where
  pub left : g ∣ a
  pub right : g ∣ b
  pub most : (d : ℕ) → d ∣ a → d ∣ b → d ∣ g

-- of a number and 0 the greatest common divisor is the number
pub gcd_with_zero : (x : ℕ) → IsGcd x 0 x
gcd_with_zero x = record { left = dvd_refl x; right = dvd-zero x; most = λ d p q. p }

-- y and x % y have the common divisors of x and y
pub gcd_step : (x y g : ℕ) → IsGcd y (x % y) g → IsGcd x y g
gcd_step x y g h =
    record {
      left = (dvd-mod_iff g {m = x} {n = y} h.left).0 h.right;
      right = h.left;
      most = λ d p q. h.most d q ((dvd-mod_iff d {m = x} {n = y} q).1 p);
    }

pub gcd_unique : (a b g h : ℕ) → IsGcd a b g → IsGcd a b h → g ≡ h
gcd_unique a b g h p q = dvd_antisymm (q.most g p.left p.right) (p.most h q.left q.right)

euclid_step : (k x y : ℕ) → y < suc k → (x % y < k → IsGcd y (x % y) (euclid k y (x % y))) → (b : Bool) → eqb y 0 ≡ b →
    IsGcd x y (elim b as (λ _. ℕ) [ true ↦ x | false ↦ euclid k y (x % y) ])
euclid_step k x y h ih true e = let z : y ≡ 0 = eqb-true _ _ e in rw z (gcd_with_zero x)
euclid_step k x y h ih false e =
    let p : 0 < y = let n : y ≡ 0 → ⊥ = eqb-false _ _ e in omega arith in
    let q = mod-lt x p in
    gcd_step x y _ (ih (omega arith))

euclid_is : (k x y : ℕ) → y < k → IsGcd x y (euclid k x y)
unfolding euclid
euclid_is zero x y h = absurd (not-suc-le-zero h)
euclid_is (suc k) x y h = euclid_step k x y h (λ p. euclid_is k y (x % y) p) (eqb y 0) refl

-- Euclid's rule comes to the greatest common divisor
pub gcd_is : (a b : ℕ) → IsGcd a b (gcd_of a b)
unfolding gcd_of
gcd_is a b = euclid_is (suc b) a b (omega arith)

pub gcd_pos : (n d : ℕ) → 0 < d → 0 < gcd_of n d
gcd_pos n d p = pos_of_dvd_of_pos (gcd_is n d).right p

-- a part divided by the greatest common divisor, and times it, is the part again
pub parts_times_gcd : (n d : ℕ) → (n / gcd_of n d * gcd_of n d ≡ n) × (d / gcd_of n d * gcd_of n d ≡ d)
parts_times_gcd n d = (div-mul_cancel (gcd_of n d) (gcd_is n d).left, div-mul_cancel (gcd_of n d) (gcd_is n d).right)

-- brought to lowest terms a fraction keeps its value, and is in lowest terms where its bottom is above 0
pub lowest_same : (n d : ℕ) → Same (lowest_of n d) (record { top = n; bottom = d })
unfolding lowest_of
lowest_same n d =
    let g = gcd_of n d in
    let m = parts_times_gcd n d in
    ap (λ (x : ℕ). n / g * x) (sym m.1) ∙ ap (λ (x : ℕ). n / g * x) (mul_comm (d / g) g) ∙
    sym (mul_assoc (n / g) g (d / g)) ∙
    ap (λ (x : ℕ). x * (d / g)) m.0

pub lowest_lowest : (n d : ℕ) → 0 < d → Lowest (lowest_of n d)
unfolding lowest_of
lowest_lowest n d p =
    let g = gcd_of n d in
    let m = parts_times_gcd n d in
    record {
      exists = λ e. (let z : d ≡ 0 = sym m.1 ∙ ap (λ (x : ℕ). x * g) e ∙ zero-mul g in omega arith);
      coprime = λ e q r.
          eq-one_of_dvd-one
          (dvd_of_mul-dvd-mul_right {k = g} e (gcd_pos n d p)
          (rw one-mul
          ((gcd_is n d).most (e * g) (rw m.0 at (mul-dvd-mul_right e q g)) (rw m.1 at (mul-dvd-mul_right e r g)))));
    }

pub zero-is-0/1 : (d : ℕ) → 0 < d → lowest_of 0 d ≡ record { top = 0; bottom = 1 }
unfolding lowest_of
zero-is-0/1 d p =
    let e : gcd_of 0 d ≡ d = gcd_unique 0 d (gcd_of 0 d) d (gcd_is 0 d) (record { left = dvd-zero d; right = dvd_refl d; most = λ _ _ q. q }) in
    (λ i. record { top = 0 / e i; bottom = d / e i }) ∙ (λ i. record { top = zero-div d i; bottom = div_self p i })

-- what has no bottom has none in lowest terms
pub no_bottom_stays : (n : ℕ) → (lowest_of n 0).bottom ≡ 0
unfolding lowest_of
no_bottom_stays n = zero-div (gcd_of n 0)

-- what has no divisor in common with a number divides the other factor
pub coprime_divides : (a b k : ℕ) → 0 < k → ((d : ℕ) → d ∣ a → d ∣ b → d ≡ 1) → b ∣ a * k → b ∣ k
coprime_divides a b k p alone h =
    let g = gcd_of (a * k) (b * k) in
    let is = gcd_is (a * k) (b * k) in
    let k_in_g : k ∣ g = is.most k (dvd-mul_left k a) (dvd-mul_left k b) in
    let e : g / k * k ≡ g = div-mul_cancel k k_in_g in
    let in_a : g / k * k ∣ a * k = rw e is.left in
    let in_b : g / k * k ∣ b * k = rw e is.right in
    let one : g / k ≡ 1 =
    alone (g / k) (dvd_of_mul-dvd-mul_right {k = k} (g / k) p in_a) (dvd_of_mul-dvd-mul_right {k = k} (g / k) p in_b) in
    let f : g ≡ k = sym e ∙ ap (λ (x : ℕ). x * k) one ∙ one-mul k in
    rw f at (is.most b h (dvd-mul_right b k))

-- two fractions in lowest terms of one value are the same
pub lowest_unique : (f g : Fraction) → Lowest f → Lowest g → Same f g → f ≡ g
lowest_unique f g l m s =
    let positive : (h : Fraction) → Lowest h → 0 < h.bottom = λ h n. (let z : h.bottom ≡ 0 → ⊥ = n.exists in omega arith) in
    let up : f.bottom ∣ g.bottom =
    coprime_divides f.top f.bottom g.bottom (positive g m) l.coprime (rw s (dvd-mul_left f.bottom g.top)) in
    let down : g.bottom ∣ f.bottom =
    coprime_divides g.top g.bottom f.bottom (positive f l) m.coprime (rw (sym s) (dvd-mul_left g.bottom f.top)) in
    let b : f.bottom ≡ g.bottom = dvd_antisymm up down in
    let t : f.top ≡ g.top = eq_of_mul-eq-mul_right g.bottom (positive g m) f.top g.top (s ∙ ap (λ (x : ℕ). g.top * x) b) in
    λ i. record { top = t i; bottom = b i }

-- where d is above 0, what is in lowest terms and of the value of n / d is what n / d is brought to
pub lowest_decides : (n d : ℕ) → 0 < d → (f : Fraction) → Lowest f → Same f (record { top = n; bottom = d }) → f ≡ lowest_of n d
lowest_decides n d p f l s =
    lowest_unique f (lowest_of n d) l (lowest_lowest n d p)
    (same_transitive f (record { top = n; bottom = d }) (lowest_of n d) s (sym (lowest_same n d)) (λ e. omega arith))
