-- Fractions over one bottom that exists add by their tops, however many there are. Assumes nothing.
use Prim.Native.Nat.{ℕ, ◌+◌, ◌*◌, ◌<◌}
use mathlib.Core.Path.{◌≡◌, refl, sym, ap, subst, ◌∙◌}
use mathlib.Core.List.{List, [], ◌∷◌, map}
use native.Mathlib.Nat.{mul_assoc, zero-mul, add-mul, add-zero, mul-pos}
use native.Mathlib.Omega.{arith}
use Rattle.base.specs.Lists.{sum}
use Rattle.ratio.specs.declared.Fraction.{Fraction}
use Rattle.ratio.specs.Fraction.{plus, Same}
use Rattle.ratio.specs.Lowest.{lowest_of}
use Rattle.ratio.proofs.Euclid.{lowest_same}
use Rattle.ratio.proofs.SameLaws.{same_transitive, plus_same}
use Rattle.law_adding.specs.Parts.{plus_all}

-- fractions that exist have a sum
pub all_exist : {A : Type 0} (f : A → Fraction) → ((x : A) → (f x).bottom ≡ 0 → ⊥) → (xs : List A) → (plus_all (map f xs)).bottom ≡ 0 → ⊥
all_exist f e [] z = omega (arith, z)
all_exist f e (x ∷ xs) z =
    let first : 0 < (f x).bottom = omega (arith, e x) in
    let others : 0 < (plus_all (map f xs)).bottom = omega (arith, all_exist f e xs) in
    let both = mul-pos {m = (f x).bottom} {n = (plus_all (map f xs)).bottom} first others in
    omega (arith, both, z)

module _ (n : ℕ) (exists : n ≡ 0 → ⊥) where
  abbrev pub over_n : ℕ → Fraction
  over_n top = record { top = top; bottom = n }

  square_exists : n * n ≡ 0 → ⊥
  square_exists e = let z : 0 < n * n = mul-pos {m = n} {n = n} (omega arith) (omega arith) in omega arith

  tops_add : (x y : ℕ) → Same (over_n (x + y)) (plus (over_n x) (over_n y))
  tops_add x y = sym (mul_assoc (x + y) n n) ∙ ap (λ (z : ℕ). z * n) (add-mul x y n)

  -- whatever fractions have the values that are added
  pub values_add : (x y : ℕ) (f g : Fraction) → Same f (over_n x) → Same g (over_n y) → Same (over_n (x + y)) (plus f g)
  values_add x y f g p q =
      same_transitive (over_n (x + y)) (plus (over_n x) (over_n y)) (plus f g) (tops_add x y) (plus_same (over_n x) f (over_n y) g (sym p) (sym q))
      square_exists

  -- one after the other
  pub all_add :
      {A : Type 0} (top : A → ℕ) (f : A → Fraction) →
      ((x : A) → Same (f x) (over_n (top x))) →
      (xs : List A) →
      Same (over_n (sum (map top xs))) (plus_all (map f xs))
  all_add top f e [] = sym (zero-mul n)
  all_add top f e (x ∷ xs) = values_add (top x) (sum (map top xs)) (f x) (plus_all (map f xs)) (e x) (sym (all_add top f e xs))

  -- the same of a sum in lowest terms
  pub lowest_adds : (all x y : ℕ) → x + y ≡ all → Same (lowest_of all n) (plus (lowest_of x n) (over_n y))
  lowest_adds all x y e =
      same_transitive (lowest_of all n) (over_n all) (plus (lowest_of x n) (over_n y)) (lowest_same all n)
      (subst (λ (t : ℕ). Same (over_n t) (plus (lowest_of x n) (over_n y))) e (values_add x y (lowest_of x n) (over_n y) (lowest_same x n) refl))
      exists

  pub lowest_adds_all :
      (all : ℕ) (top : ℕ → ℕ) (xs : List ℕ) →
      all ≡ sum (map top xs) →
      Same (lowest_of all n) (plus_all (map (λ (x : ℕ). over_n (top x + 0)) xs))
  lowest_adds_all all top xs e =
      same_transitive (lowest_of all n) (over_n all) (plus_all (map (λ (x : ℕ). over_n (top x + 0)) xs)) (lowest_same all n)
      (subst (λ (t : ℕ). Same (over_n t) (plus_all (map (λ (x : ℕ). over_n (top x + 0)) xs))) (sym e)
      (all_add top (λ (x : ℕ). over_n (top x + 0)) (λ x. ap (λ (t : ℕ). t * n) (add-zero (top x))) xs))
      exists
