-- Taking all records, over any state and any step. Assumes nothing.
use Prim.Native.Nat.{ℕ, ◌+◌, ◌≤◌}
use mathlib.Core.Path.{◌≡◌, refl, ap, ◌∙◌}
use mathlib.Core.List.{List, [], ◌∷◌, ◌++◌}
use mathlib.Core.Bool.{Bool, true, false, cond}
use lib.ListN.{length}
use lib.Dec.{eqb}
use native.Mathlib.Omega.{arith}
use borrow.Author.Tests.{eqb-true, ne_eqb}
use Rattle.base.proofs.TestLaws.{Tested, holds, fails, test}
use Rattle.wire.specs.Cut.{records_of}
use Rattle.refusals.specs.declared.Refusal.{Refusal}
use Rattle.refusals.specs.Refusals.{number_of}
use Rattle.refusals.proofs.NumberLaws.{no_refusal_0}
use Rattle.wire.proofs.CutLaws.{few_records}
use Rattle.records.specs.Records.{take_all, one_if_refused}

module _ {S : Type 0} (step : S → List ℕ → S) where
  pub take_all_append : (st : S) (xs ys : List (List ℕ)) → take_all step st (xs ++ ys) ≡ take_all step (take_all step st xs) ys
  take_all_append st [] ys = refl
  take_all_append st (x ∷ xs) ys = take_all_append (step st x) xs ys

  -- what each record keeps, all of them keep
  pub all_keep : (P : S → Type 0) → ((st : S) (s : List ℕ) → P st → P (step st s)) → (st : S) (ss : List (List ℕ)) → P st → P (take_all step st ss)
  all_keep P kept st [] p = p
  all_keep P kept st (s ∷ ss) p = all_keep P kept (step st s) ss (kept st s p)

  -- a measure that each record raises by its gain, all of them raise by the sum of their gains
  module _ (measure : S → ℕ) (gain : S → List ℕ → ℕ) (grows : (st : S) (s : List ℕ) → measure (step st s) ≡ measure st + gain st s) where
    abbrev pub gains : S → List (List ℕ) → ℕ
    gains st [] = 0
    gains st (s ∷ ss) = gain st s + gains (step st s) ss

    pub all_add : (st : S) (ss : List (List ℕ)) → measure (take_all step st ss) ≡ measure st + gains st ss
    all_add st [] = omega arith
    all_add st (s ∷ ss) = omega (arith, all_add (step st s) ss, grows st s)

-- what becomes of a part of the state, by a step on that part alone
module _ {S T : Type 0} (step : S → List ℕ → S) (less : T → List ℕ → T) (part : S → T) (same : (st : S) (s : List ℕ) → part (step st s) ≡ less (part st) s) where
  pub all_forget : (st : S) (ss : List (List ℕ)) → part (take_all step st ss) ≡ take_all less (part st) ss
  all_forget st [] = refl
  all_forget st (s ∷ ss) = all_forget (step st s) ss ∙ ap (λ (t : T). take_all less t ss) (same st s)

-- a record is counted as at most one refusal
pub one_at_most : (answer : ℕ) → one_if_refused answer ≤ 1
one_at_most answer = go (eqb answer 0)
  where
    go : (t : Bool) → cond t 0 1 ≤ 1
    go true = omega arith
    go false = omega arith

-- and as one exactly where it is refused
pub refusal_counts : (refusal : Refusal) → one_if_refused (number_of refusal) ≡ 1
refusal_counts refusal = ap (λ (t : Bool). cond t 0 1) (ne_eqb _ 0 (no_refusal_0 refusal))

-- the refused records, where a step counts them by its answer
module _
    {S : Type 0}
    (step : S → List ℕ → S)
    (refused : S → ℕ)
    (answer : S → List ℕ → ℕ)
    (counts : (st : S) (s : List ℕ) → refused (step st s) ≡ refused st + one_if_refused (answer st s))
  where
    -- at most every record is refused, and there are no more of them than bytes
    refused_at_most : (st : S) (ss : List (List ℕ)) → refused (take_all step st ss) ≤ refused st + length ss
    refused_at_most st [] = omega arith
    refused_at_most st (s ∷ ss) = omega (arith, refused_at_most (step st s) ss, counts st s, one_at_most (answer st s))

    -- the records of a file add at most as many refusals as it has bytes
    pub refused_below : (st : S) (file : List ℕ) → refused (take_all step st (records_of file)) ≤ refused st + length file
    refused_below st file = omega (arith, refused_at_most st (records_of file), few_records file)

    -- they never become fewer
    refused_grows : (st : S) (ss : List (List ℕ)) → refused st ≤ refused (take_all step st ss)
    refused_grows st [] = omega arith
    refused_grows st (s ∷ ss) = omega (arith, refused_grows (step st s) ss, counts st s)

    -- so where none is refused, the first is not
    pub first_accepted : (st : S) (s : List ℕ) (ss : List (List ℕ)) → refused (take_all step st (s ∷ ss)) ≡ refused st → answer st s ≡ 0
    first_accepted st s ss e = go (test (eqb (answer st s) 0))
      where
        go : Tested (eqb (answer st s) 0) → answer st s ≡ 0
        go (holds a) = eqb-true _ _ a
        go (fails a) =
            let one : refused (step st s) ≡ refused st + 1 = counts st s ∙ ap (λ t. refused st + cond t 0 1) a in
            absurd (omega (arith, e, one, refused_grows (step st s) ss))
