-- Sums taken in another order. Assumes nothing.
use Prim.Native.Nat.{ℕ, ◌+◌}
use mathlib.Core.Path.{◌≡◌, refl}
use mathlib.Core.List.{List, [], ◌∷◌, map}
use native.Mathlib.Omega.{arith}
use Rattle.base.specs.Lists.{sum}
use Rattle.index.specs.declared.Level.{Level}
use Rattle.index.specs.declared.Level.TheVariants.{NN, VN, VVN, Network}
use Rattle.law_adding.specs.Parts.{across}

module _ {A : Type 0} where
  -- a sum of sums of three
  sum_of_three :
      (f g h : A → ℕ) (xs : List A) → sum (map (λ (x : A). f x + g x + h x) xs) ≡ sum (map f xs) + sum (map g xs) + sum (map h xs)
  sum_of_three f g h [] = refl
  sum_of_three f g h (x ∷ xs) = omega (arith, sum_of_three f g h xs)

  -- first over the levels and then along the list, or the other way round
  pub sum_across :
      (level : Level) (f : A → Level → ℕ) (xs : List A) →
      sum (map (λ (x : A). across level (f x)) xs) ≡ across level (λ (h : Level). sum (map (λ (x : A). f x h) xs))
  sum_across NN f xs = refl
  sum_across VN f xs = refl
  sum_across VVN f xs = refl
  sum_across Network f xs = sum_of_three (λ (x : A). f x NN) (λ (x : A). f x VN) (λ (x : A). f x VVN) xs

-- of each level, or of the network, the same
pub across_alike : (level : Level) (f g : Level → ℕ) → f NN ≡ g NN → f VN ≡ g VN → f VVN ≡ g VVN → across level f ≡ across level g
across_alike NN f g p q r = p
across_alike VN f g p q r = q
across_alike VVN f g p q r = r
across_alike Network f g p q r = λ i. p i + q i + r i
