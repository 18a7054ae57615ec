-- A search in a table of numbers, entry by entry, as a loop meets it. Assumes nothing.
use Prim.Native.Nat.{ℕ, suc, ◌+◌, ◌<◌, ◌≤◌, suc-le-suc}
use mathlib.Core.Path.{◌≡◌, refl, sym, ◌∙◌, ap}
use mathlib.Core.Bool.{Bool, true, false, cond}
use mathlib.Core.List.{List, [], ◌∷◌}
use lib.ListN.{length, get_or, drop, drop_of_length-le}
use lib.Seq.{drop-cons}
use lib.Dec.{eqb}
use native.Mathlib.Numerals.{add-one}
use native.Mathlib.Omega.{arith}
use native.Mathlib.Nat.{not-suc-le-zero, le_of_suc-le-suc, le_refl}
use borrow.Author.Tests.{eqb-true, eq-eqb, ne_eqb}
use Rattle.base.specs.Lists.{place}

-- the search has come to index i: it has passed i entries
abbrev pub Come : ℕ → List ℕ → ℕ → Type 0
Come v t i = (i ≤ length t) × (place v t ≡ i + place v (drop i t))

pub begins : (v : ℕ) (t : List ℕ) → Come v t 0
begins v t = (omega arith, omega arith)

module _ (v : ℕ) (t : List ℕ) (i : ℕ) (l : i < length t) where
  one : place v (drop i t) ≡ cond (eqb v (get_or t i 0)) 0 (suc (place v (drop (i + 1) t)))
  one = rw (add-one, drop-cons t i 0 l) refl

  -- another number stands at i: the search passes it
  pub passes_on : Come v t i → (v ≡ get_or t i 0 → ⊥) → Come v t (i + 1)
  passes_on c differs =
      let e : place v (drop i t) ≡ suc (place v (drop (i + 1) t)) = one ∙ ap (λ b. cond b 0 (suc (place v (drop (i + 1) t)))) (ne_eqb v (get_or t i 0) differs) in
      (omega (arith, l), omega (arith, c.1, e))

  -- the number stands at i: the search ends
  pub found : Come v t i → v ≡ get_or t i 0 → i ≡ place v t
  found c same =
      let e : place v (drop i t) ≡ 0 = one ∙ ap (λ b. cond b 0 (suc (place v (drop (i + 1) t)))) (eq-eqb v (get_or t i 0) same) in
      omega (arith, c.1, e)

-- where the end of the table is reached, the place is its length
pub ended : (v : ℕ) (t : List ℕ) (i : ℕ) → Come v t i → length t ≤ i → length t ≡ place v t
ended v t i c over = omega (arith, c.0, c.1, over, ap (place v) (drop_of_length-le t over))

-- the search passes at most the whole table, and a place of the table where it ends holds the number
pub number_at_most : (v : ℕ) (t : List ℕ) → place v t ≤ length t
number_at_most v [] = le_refl 0
number_at_most v (w ∷ t) = go (eqb v w) (number_at_most v t)
  where
    go : (here : Bool) → place v t ≤ length t → cond here 0 (suc (place v t)) ≤ suc (length t)
    go true k = omega arith
    go false k = suc-le-suc k

pub number_found_lem : (v : ℕ) (t : List ℕ) → place v t < length t → get_or t (place v t) 0 ≡ v
number_found_lem v [] l = absurd (not-suc-le-zero l)
number_found_lem v (w ∷ t) l = go (eqb v w) refl l (number_found_lem v t)
  where
    go :
        (here : Bool) →
        eqb v w ≡ here →
        cond here 0 (suc (place v t)) < suc (length t) →
        (place v t < length t → get_or t (place v t) 0 ≡ v) →
        get_or (w ∷ t) (cond here 0 (suc (place v t))) 0 ≡ v
    go true e l k = sym (eqb-true v w e)
    go false e l k = k (le_of_suc-le-suc l)
