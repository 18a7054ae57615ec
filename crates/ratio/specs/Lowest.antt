-- "Lowest terms, zero as 0/1" (01, "Indices").
use Rattle.std.specs.Prelude.{ℕ, zero, suc, ◌/◌, ◌%◌, ◌≡◌, true, false, eqb}
use Rattle.std.specs.Int.{◌∣◌}
use Rattle.ratio.specs.declared.Fraction.{Fraction}

-- the bottom is not 0, and top and bottom have no common divisor above 1
pub record Lowest (f : Fraction) : Type 0 where
  pub exists : f.bottom ≡ 0 → ⊥
  pub coprime : (d : ℕ) → d ∣ f.top → d ∣ f.bottom → d ≡ 1

-- Euclid's rule, at most k times
unfoldable pub euclid : ℕ → ℕ → ℕ → ℕ
euclid zero x y = x
euclid (suc k) x y = elim (eqb y 0) [ true ↦ x | false ↦ euclid k y (x % y) ]

unfoldable pub gcd_of : ℕ → ℕ → ℕ
gcd_of a b = euclid (suc b) a b

unfoldable pub lowest_of : ℕ → ℕ → Fraction
lowest_of n d = record { top = n / gcd_of n d; bottom = d / gcd_of n d }
