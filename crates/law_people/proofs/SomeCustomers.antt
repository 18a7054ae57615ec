-- There are always customers that agree, so nothing is ever said of none: as many customers as the largest count, of which the first n are off in a
-- step whose count is n. Assumes nothing.
use Prim.Native.Nat.{ℕ, zero, suc, ◌≤◌, min}
use mathlib.Core.Path.{◌≡◌, sym, ap, ◌∙◌}
use mathlib.Core.List.{List, [], ◌∷◌, map}
use mathlib.Core.Bool.{Bool, cond}
use lib.ListN.{length, get_or, length-map, get_or-map}
use lib.Dec.{ltb}
use native.Mathlib.Omega.{arith}
use borrow.Author.Tests.{ltb-true, ltb-false, le-ltb}
use Rattle.base.specs.Lists.{keep, largest, All}
use Rattle.base.proofs.TestLaws.{Tested, holds, fails, test}
use Rattle.annex.specs.declared.Step.{Step}
use Rattle.annex.specs.Annex.{counts_of}
use Rattle.law_people.specs.People.{was_off, off_in, Agrees}

-- customer i is off where i is below the count
abbrev customer : List ℕ → ℕ → List Bool
customer counts i = map (λ n. ltb i n) counts

-- customers 0 to n - 1
abbrev first_ones : List ℕ → ℕ → List (List Bool)
first_ones counts zero = []
first_ones counts (suc n) = customer counts n ∷ first_ones counts n

module _ (counts : List ℕ) where
  one_for_each : (steps : ℕ) → length counts ≡ steps → (n : ℕ) → All (λ (c : List Bool). length c ≡ steps) (first_ones counts n)
  one_for_each steps e zero = tt
  one_for_each steps e (suc n) = (length-map counts (λ c. ltb n c) ∙ e, one_for_each steps e n)

  off_below : (i k : ℕ) → was_off k (customer counts i) ≡ ltb i (get_or counts k 0)
  off_below i k = ap (get_or (customer counts i) k) (sym (le-ltb i 0 (omega arith))) ∙ get_or-map (λ n. ltb i n) counts k 0

  -- of the first n customers, as many are off in step k as its count says, or all of them
  off_of : (n k : ℕ) → off_in k (first_ones counts n) ≡ min n (get_or counts k 0)
  off_of zero k = omega arith
  off_of (suc n) k = ap with_last_lem (off_below n k) ∙ go (test (ltb n (get_or counts k 0))) (off_of n k)
    where
      before : List (List Bool)
      before = keep (was_off k) (first_ones counts n)

      with_last_lem : Bool → ℕ
      with_last_lem off = length (cond off (customer counts n ∷ before) before)

      go :
          Tested (ltb n (get_or counts k 0)) →
          length before ≡ min n (get_or counts k 0) →
          with_last_lem (ltb n (get_or counts k 0)) ≡ min (suc n) (get_or counts k 0)
      go (holds e) h = rw e (omega (arith, h, ltb-true n (get_or counts k 0) e))
      go (fails e) h = rw e (omega (arith, h, ltb-false n (get_or counts k 0) e))

below_largest : (ns : List ℕ) (k : ℕ) → get_or ns k 0 ≤ largest ns
below_largest [] k = omega arith
below_largest (n ∷ ns) zero = omega arith
below_largest (n ∷ ns) (suc k) = omega (arith, below_largest ns k)

-- whatever the counts of a level are, there are customers that agree with them
pub there_is_a_list : (h : ℕ) (ss : List Step) → (customers : List (List Bool)) × Agrees h ss customers
there_is_a_list h ss = (
  first_ones counts (largest counts),
  record {
    entries = one_for_each counts (length ss) (length-map ss (λ (s : Step). get_or s.counts h 0)) (largest counts);
    counts = λ k l. off_of counts (largest counts) k ∙ omega (arith, below_largest counts k);
  },
)
  where
    counts : List ℕ
    counts = counts_of h ss
