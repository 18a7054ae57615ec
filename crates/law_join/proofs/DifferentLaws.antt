-- Different numbers from 1 to k are at most k: with k taken out, one fewer at most, those left are from 1 to k - 1. (k is below 65,536, as `Different` tells
-- numbers of two bytes apart.) Assumes nothing.
use Prim.Native.Nat.{ℕ, zero, suc, ◌<◌, ◌≤◌}
use mathlib.Core.Path.{◌≡◌, refl, sym, ap, subst}
use mathlib.Core.List.{List, [], ◌∷◌, ◌++◌}
use mathlib.Core.Bool.{Bool, true, false, not, cond}
use lib.ListN.{length}
use lib.Dec.{eqb}
use native.Mathlib.Omega.{arith}
use borrow.Author.Tests.{eqb-true, eqb-false, ne_eqb}
use Rattle.base.specs.Lists.{All, listed, keep}
use Rattle.base.proofs.ListLaws.{all_append, all_back, all_kept}
use Rattle.base.proofs.TestLaws.{or_left, or_right, or_both}
use Rattle.law_order.specs.Each.{Apart, Different}

abbrev Within : ℕ → ℕ → Type 0
Within k x = (1 ≤ x) × (x ≤ k)

-- a list without the number k
abbrev without : ℕ → List ℕ → List ℕ
without k xs = keep (λ (x : ℕ). not (eqb x k)) xs

different_without : (k : ℕ) (xs : List ℕ) → Different xs → Different (without k xs)
different_without k [] d = tt
different_without k (x ∷ xs) d = go (eqb x k) (different_without k xs d.1)
  where
    go : (t : Bool) → Different (without k xs) → Different (cond (not t) (x ∷ without k xs) (without k xs))
    go true h = h
    go false h = (all_kept (Apart x) (λ (x : ℕ). not (eqb x k)) xs d.0, h)

within_without : (k : ℕ) (xs : List ℕ) → All (Within (suc k)) xs → All (Within k) (without (suc k) xs)
within_without k [] a = tt
within_without k (x ∷ xs) a = go (eqb x (suc k)) refl (within_without k xs a.1)
  where
    less : x ≤ suc k → (x ≡ suc k → ⊥) → x ≤ k
    less l n = omega arith

    go :
        (t : Bool) →
        eqb x (suc k) ≡ t →
        All (Within k) (without (suc k) xs) →
        All (Within k) (cond (not t) (x ∷ without (suc k) xs) (without (suc k) xs))
    go true e h = h
    go false e h = ((a.0.0, less a.0.1 (eqb-false x (suc k) e)), h)

-- a number that does not stand there takes nothing out
without_none : (k : ℕ) (xs : List ℕ) → k < 65536 → All (Apart k) xs → length (without k xs) ≡ length xs
without_none k [] l a = refl
without_none k (x ∷ xs) l a = go (eqb x k) refl (without_none k xs l a.1)
  where
    go : (t : Bool) → eqb x k ≡ t → length (without k xs) ≡ length xs → length (cond (not t) (x ∷ without k xs) (without k xs)) ≡ suc (length xs)
    go true e h = absurd (a.0 l (sym (eqb-true x k e)))
    go false e h = ap suc h

-- one that stands there once takes one out
without_one : (k : ℕ) (xs : List ℕ) → k < 65536 → Different xs → length xs ≤ suc (length (without k xs))
without_one k [] l d = omega arith
without_one k (x ∷ xs) l d = go (eqb x k) refl (without_one k xs l d.1)
  where
    go :
        (t : Bool) →
        eqb x k ≡ t →
        length xs ≤ suc (length (without k xs)) →
        suc (length xs) ≤ suc (length (cond (not t) (x ∷ without k xs) (without k xs)))
    go true e h =
        let apart : All (Apart k) xs = subst (λ (v : ℕ). All (Apart v) xs) (eqb-true x k e) d.0 in
        omega (arith, without_none k xs l apart)
    go false e h = omega arith

-- different numbers from 1 to k, for a k below 65,536, are at most k
pub at_most : (k : ℕ) (xs : List ℕ) → k < 65536 → Different xs → All (λ (x : ℕ). (1 ≤ x) × (x ≤ k)) xs → length xs ≤ k
at_most zero [] l d a = omega arith
at_most zero (x ∷ xs) l d a = absurd (omega (arith, a.0.0, a.0.1))
at_most (suc k) xs l d a =
    let few : length (without (suc k) xs) ≤ k =
    at_most k (without (suc k) xs) (omega arith) (different_without (suc k) xs d) (within_without k xs a) in
    omega (arith, without_one (suc k) xs l d)

-- two lists, one after the other: all different where each is and no number stands in both, and only then
module _ (x : ℕ) (xs : List ℕ) where
  first_apart : (ys : List ℕ) → All (λ (v : ℕ). listed v (x ∷ xs) ≡ false) ys → All (Apart x) ys
  first_apart [] a = tt
  first_apart (y ∷ ys) a = ((λ _ e. eqb-false y x (or_left (eqb y x) (listed y xs) a.0) (sym e)), first_apart ys a.1)

  not_in_rest : (ys : List ℕ) → All (λ (v : ℕ). listed v (x ∷ xs) ≡ false) ys → All (λ (v : ℕ). listed v xs ≡ false) ys
  not_in_rest [] a = tt
  not_in_rest (y ∷ ys) a = (or_right (eqb y x) (listed y xs) a.0, not_in_rest ys a.1)

  one_more : (ys : List ℕ) → x < 65536 → All (Apart x) ys → All (λ (v : ℕ). listed v xs ≡ false) ys → All (λ (v : ℕ). listed v (x ∷ xs) ≡ false) ys
  one_more [] l a b = tt
  one_more (y ∷ ys) l a b = (or_both (eqb y x) (listed y xs) (ne_eqb y x (λ e. a.0 l (sym e))) b.0, one_more ys l a.1 b.1)

-- where each list is of different numbers and no number of the second stands in the first, all are different
pub different_append : (xs ys : List ℕ) → Different xs → Different ys → All (λ (v : ℕ). listed v xs ≡ false) ys → Different (xs ++ ys)
different_append [] ys d e a = e
different_append (x ∷ xs) ys d e a =
    (all_append (Apart x) xs ys d.0 (first_apart x xs ys a), different_append xs ys d.1 e (not_in_rest x xs ys a))

pub none_listed : (ys : List ℕ) → All (λ (v : ℕ). listed v [] ≡ false) ys
none_listed [] = tt
none_listed (y ∷ ys) = (refl, none_listed ys)

-- where all are different, and the first list's numbers are below 65,536, no number of the second stands in the first
pub different_shares_none : (xs ys : List ℕ) → All (λ (v : ℕ). v < 65536) xs → Different (xs ++ ys) → All (λ (v : ℕ). listed v xs ≡ false) ys
different_shares_none [] ys l d = none_listed ys
different_shares_none (x ∷ xs) ys l d =
    one_more x xs ys l.0 (all_back (Apart x) xs ys d.0) (different_shares_none xs ys l.1 d.1)
