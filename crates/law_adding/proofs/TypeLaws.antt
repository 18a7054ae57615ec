-- A type's row is its own: two types of one row are one, and the events of a list of different types are those of its first type and those of the
-- others. Assumes nothing.
use Prim.Native.Nat.{ℕ, ◌+◌, ◌<◌}
use mathlib.Core.Path.{◌≡◌, refl, sym, ap, ◌∙◌}
use mathlib.Core.List.{List, [], ◌∷◌, map}
use mathlib.Core.Bool.{Bool, true, false, ◌&&◌, ◌||◌, not, cond, or-false}
use lib.ListN.{get_or}
use lib.Dec.{eqb, ltb}
use native.Mathlib.Nat.{zero-add, add-zero}
use native.Mathlib.Omega.{arith}
use borrow.Author.Tests.{eqb-true, eqb-false, eq-eqb, ne_eqb, ltb-true, not-true}
use Rattle.base.specs.Lists.{sum, listed, place}
use Rattle.base.proofs.TestLaws.{Tested, holds, fails, test, and_left, and_right}
use Rattle.codes.specs.Codes.{types, rows, row_of}
use Rattle.annex.specs.Annex.{short_event}
use Rattle.fields.specs.Fields.{head_in}
use Rattle.law_sums.specs.Accepted.{event_in, row_in, counted_in}
use Rattle.law_adding.specs.Parts.{each_once, counted}
use Rattle.base.proofs.SumLaws.{sum_of_parts}
use Rattle.base.proofs.ListLaws.{keep_alike}
use Rattle.base.proofs.PlaceLaws.{number_found_lem}

-- a number has the row of a type just where it is the type
pub row_of_type : (x typ : ℕ) → row_of typ < rows → eqb (row_of x) (row_of typ) ≡ eqb x typ
unfolding row_of
row_of_type x typ b = go (test (eqb x typ))
  where
    go : Tested (eqb x typ) → eqb (place x types) (place typ types) ≡ eqb x typ
    go (holds e) = eq-eqb (place x types) (place typ types) (ap (λ (y : ℕ). place y types) (eqb-true x typ e)) ∙ sym e
    go (fails e) = ne_eqb (place x types) (place typ types) apart ∙ sym e
      where
        apart : place x types ≡ place typ types → ⊥
        apart p =
            eqb-false x typ e
            (sym (number_found_lem x types (omega (arith, p, b))) ∙ ap (λ (i : ℕ). get_or types i 0) p ∙ number_found_lem typ types b)

-- the counted events of a type are those of its row
pub counted_by_row : (typ : ℕ) → row_of typ < rows → (events : List (List ℕ)) → counted (typ ∷ []) events ≡ counted_in (row_of typ) events
counted_by_row typ b events =
    keep_alike
    (λ (s : List ℕ). (eqb (head_in s).typ typ || false) && not (short_event (event_in s)))
    (λ (s : List ℕ). eqb (row_in s) (row_of typ) && not (short_event (event_in s)))
    (λ s. ap (λ (t : Bool). t && not (short_event (event_in s))) (or-false (eqb (head_in s).typ typ) ∙ sym (row_of_type (head_in s).typ typ b)))
    events

-- what a value counts for where one of two tests that exclude each other passes
either_counts :
    (a b long : Bool) (n : ℕ) →
    (a ≡ true → b ≡ false) →
    cond ((a || b) && long) n 0 ≡ cond ((a || false) && long) n 0 + cond (b && long) n 0
either_counts true b true n apart = rw (apart refl) (sym (add-zero n))
either_counts true b false n apart = rw (apart refl) refl
either_counts false b long n apart = sym (zero-add (cond (b && long) n 0))

-- one type more: its events are counted beside those of the others
pub counted_one_more :
    (typ : ℕ) (ts : List ℕ) →
    listed typ ts ≡ false →
    (v : List ℕ → ℕ) (events : List (List ℕ)) →
    sum (map v (counted (typ ∷ ts) events)) ≡ sum (map v (counted (typ ∷ []) events)) + sum (map v (counted ts events))
counted_one_more typ ts new v events =
    sum_of_parts
    (λ (s : List ℕ). (eqb (head_in s).typ typ || listed (head_in s).typ ts) && not (short_event (event_in s)))
    (λ (s : List ℕ). (eqb (head_in s).typ typ || false) && not (short_event (event_in s)))
    (λ (s : List ℕ). listed (head_in s).typ ts && not (short_event (event_in s)))
    v
    (λ s.
    either_counts (eqb (head_in s).typ typ) (listed (head_in s).typ ts) (not (short_event (event_in s))) (v s)
    (λ e. ap (λ (x : ℕ). listed x ts) (eqb-true (head_in s).typ typ e) ∙ new))
    events

-- no type: no event
pub counted_none : (events : List (List ℕ)) → counted [] events ≡ []
counted_none [] = refl
counted_none (s ∷ events) = counted_none events

-- what a list of different types says of its first
module _ (typ : ℕ) (ts : List ℕ) (e : each_once (typ ∷ ts) ≡ true) where
  pub first_is_type : row_of typ < rows
  first_is_type = ltb-true _ _ (and_left _ _ (and_left _ _ e))

  pub first_is_new : listed typ ts ≡ false
  first_is_new = not-true _ (and_right (ltb (row_of typ) rows) _ (and_left _ _ e))

  pub others_once : each_once ts ≡ true
  others_once = and_right (ltb (row_of typ) rows && not (listed typ ts)) _ e
