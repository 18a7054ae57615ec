-- Sums over a list: term by term, of two lists, and of those that are kept. Assumes nothing.
use Prim.Native.Nat.{ℕ, ◌+◌}
use mathlib.Core.Path.{◌≡◌, refl, ap, sym, ◌∙◌}
use mathlib.Core.List.{List, [], ◌∷◌, ◌++◌, map}
use mathlib.Core.Bool.{Bool, true, false, cond}
use lib.ListN.{length}
use native.Mathlib.Nat.{zero-add}
use native.Mathlib.Omega.{arith}
use Rattle.base.specs.Lists.{All, sum, keep}
use Rattle.base.specs.Perm.{Perm, done, swap, then}
use Rattle.base.specs.Perm as perm
use Rattle.base.proofs.ListLaws.{keep_append}

module _ {A : Type 0} where
  pub sum_append : (g : A → ℕ) (xs ys : List A) → sum (map g (xs ++ ys)) ≡ sum (map g xs) + sum (map g ys)
  sum_append g [] ys = sym (zero-add (sum (map g ys)))
  sum_append g (x ∷ xs) ys = let h : sum (map g (xs ++ ys)) ≡ sum (map g xs) + sum (map g ys) = sum_append g xs ys in omega arith

  -- in any order
  pub sum_perm : (g : A → ℕ) {xs ys : List A} → Perm xs ys → sum (map g xs) ≡ sum (map g ys)
  sum_perm g done = refl
  sum_perm g (perm.keep {a = x} p) = ap (λ n. g x + n) (sum_perm g p)
  sum_perm g swap = omega arith
  sum_perm g (then p q) = sum_perm g p ∙ sum_perm g q

  -- a sum of sums of two
  pub sum_of_two : (f g : A → ℕ) (xs : List A) → sum (map (λ (x : A). f x + g x) xs) ≡ sum (map f xs) + sum (map g xs)
  sum_of_two f g [] = refl
  sum_of_two f g (x ∷ xs) = omega (arith, sum_of_two f g xs)

  -- the same sum, term by term
  pub sum_alike : (f g : A → ℕ) → ((x : A) → f x ≡ g x) → (xs : List A) → sum (map f xs) ≡ sum (map g xs)
  sum_alike f g e [] = refl
  sum_alike f g e (x ∷ xs) = λ i. e x i + sum_alike f g e xs i

  -- of which some count: those that do not add 0
  pub sum_kept : (f : A → Bool) (g : A → ℕ) (xs : List A) → sum (map (λ x. cond (f x) (g x) 0) xs) ≡ sum (map g (keep f xs))
  sum_kept f g [] = refl
  sum_kept f g (x ∷ xs) = go (f x) (sum_kept f g xs)
    where
      go :
          (t : Bool) →
          sum (map (λ x. cond (f x) (g x) 0) xs) ≡ sum (map g (keep f xs)) →
          cond t (g x) 0 + sum (map (λ x. cond (f x) (g x) 0) xs) ≡ sum (map g (cond t (x ∷ keep f xs) (keep f xs)))
      go true h = ap (λ n. g x + n) h
      go false h = zero-add _ ∙ h

  -- a 1 for each element adds up to the length; a 1 for each that passes, to how many are kept
  pub sum_of_ones : (xs : List A) → sum (map (λ x. 1) xs) ≡ length xs
  sum_of_ones [] = refl
  sum_of_ones (x ∷ xs) = omega (arith, sum_of_ones xs)

  pub count_kept : (f : A → Bool) (xs : List A) → sum (map (λ x. cond (f x) 1 0) xs) ≡ length (keep f xs)
  count_kept f xs = sum_kept f (λ x. 1) xs ∙ sum_of_ones (keep f xs)

  pub sum_kept_append :
      (f : A → Bool) (g : A → ℕ) (xs ys : List A) → sum (map g (keep f (xs ++ ys))) ≡ sum (map g (keep f xs)) + sum (map g (keep f ys))
  sum_kept_append f g xs ys = ap (λ (zs : List A). sum (map g zs)) (keep_append f xs ys) ∙ sum_append g (keep f xs) (keep f ys)

  -- where each value counts under a test as under two others together, so do the sums
  pub sum_of_parts :
      (both left right : A → Bool) (v : A → ℕ) →
      ((x : A) → cond (both x) (v x) 0 ≡ cond (left x) (v x) 0 + cond (right x) (v x) 0) →
      (xs : List A) →
      sum (map v (keep both xs)) ≡ sum (map v (keep left xs)) + sum (map v (keep right xs))
  sum_of_parts both left right v e xs =
      sym (sum_kept both v xs) ∙
      sum_alike (λ (x : A). cond (both x) (v x) 0) (λ (x : A). cond (left x) (v x) 0 + cond (right x) (v x) 0) e xs ∙
      sum_of_two (λ (x : A). cond (left x) (v x) 0) (λ (x : A). cond (right x) (v x) 0) xs ∙
      (λ i. sum_kept left v xs i + sum_kept right v xs i)

  -- a sum of nothing
  pub sum_none :
      (P : A → Type 0) (v : A → ℕ) (f : A → Bool) → ((x : A) → P x → v x ≡ 0) → (xs : List A) → All P xs → sum (map v (keep f xs)) ≡ 0
  sum_none P v f e [] n = refl
  sum_none P v f e (x ∷ xs) n = go (f x) (sum_none P v f e xs n.1)
    where
      go : (t : Bool) → sum (map v (keep f xs)) ≡ 0 → sum (map v (cond t (x ∷ keep f xs) (keep f xs))) ≡ 0
      go true r = omega (arith, e x n.0, r)
      go false r = r
