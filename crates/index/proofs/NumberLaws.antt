-- An index and its decimal in 01's numbers: they tell an answer apart from every other; 1, 5, 17 and 18 are answered exactly then; and a decimal is the
-- one nearest to 01's formula. Assumes nothing.
use Prim.Native.Nat.{ℕ, ◌^◌, ◌≤◌}
use Rattle.std.specs.Prelude.{Result, Ok, Err}
use mathlib.Core.Path.{◌≡◌, refl, sym, ap, subst, ◌∙◌}
use mathlib.Core.Logic.{◌↔◌}
use mathlib.Core.List.{List, [], ◌∷◌}
use mathlib.Core.Bool.{Bool, true, false, not, cond}
use lib.ListN.{length, get_or}
use lib.Dec.{ltb, eqb}
use native.Mathlib.Omega.{arith}
use borrow.Author.Tests.{eqb-false, ne_eqb, ltb-true, ltb-false}
use Rattle.base.specs.First.{Foremost}
use Rattle.base.proofs.TestLaws.{Tested, holds, fails, test}
use Rattle.refusals.specs.declared.Refusal.{Refusal}
use Rattle.refusals.specs.declared.Refusal.TheVariants as refusal
use Rattle.refusals.proofs.NumberLaws.{same_refusal}
use Rattle.ratio.specs.declared.Fraction.{Fraction}
use Rattle.ratio.specs.Lowest.{lowest_of}
use Rattle.ratio.proofs.Euclid.{lowest_lowest}
use Rattle.decimal.specs.declared.Decimal.{Decimal}
use Rattle.decimal.specs.Decimal.{split_at, decimal_of, shown_of, decimally, numbers_by, answer_number, shown_numbers}
use Rattle.decimal.proofs.DivisionLaws.{split_under}
use Rattle.decimal.proofs.RoundLaws.{rounded_nearest, nearest_unique, digits_below, decimal_value, lowest_decimal, too_many_18, else_shown}
use Rattle.decimal.proofs.NumberLaws.{decimally_decides, shown_numbers_lem, numbers_exactly}
use Rattle.codes.specs.declared.Set.{Set}
use Rattle.ledger.specs.declared.Ledger.{Ledger}
use Rattle.ledger.specs.Sound.{sound_ledger}
use Rattle.index.specs.declared.Level.{Level}
use Rattle.index.specs.declared.Index.{Index}
use Rattle.index.specs.Index.{formula_of, divided_by, index_rules, decimal_rules, index_of, exactly, index_numbers, decimal_numbers, shown_answer, shown_index}
use Rattle.index.specs.Answered.{Way, unsound, sheetless, divides_by_nobody, answered, Rounded}
use Rattle.index.proofs.IndexLaws.{weighted_exists, index_exactly}

-- two answers of the same numbers are the same
pub exactly_decides : (a b : Result Fraction Refusal) → exactly a ≡ exactly b → a ≡ b
exactly_decides (Ok f) (Ok g) p =
    let top : f.top ≡ g.top = ap (λ (ns : List ℕ). get_or ns 1 0) p in
    let bottom : f.bottom ≡ g.bottom = ap (λ (ns : List ℕ). get_or ns 2 0) p in
    λ i. Ok (record { top = top i; bottom = bottom i })
exactly_decides (Ok f) (Err n) p = absurd (let z : ◌≡◌ {A = ℕ} 3 1 = ap length p in omega arith)
exactly_decides (Err m) (Ok g) p = absurd (let z : ◌≡◌ {A = ℕ} 1 3 = ap length p in omega arith)
exactly_decides (Err m) (Err n) p = ap Err (same_refusal m n (ap (λ (ns : List ℕ). get_or ns 0 0) p))

module _ (l : Ledger) (index : Index) (level : Level) (set : Set) where
  abbrev formula : Fraction
  formula = formula_of l index level set

  abbrev lowest : Fraction
  lowest = lowest_of formula.top formula.bottom

  -- an index has the numbers that its rules give
  pub index_numbers_lem : exactly (index_of l index level set) ≡ index_numbers l index level set
  unfolding index_of index_numbers
  index_numbers_lem = go (not (sound_ledger l)) (not l.sheet.there) (eqb (divided_by l index level set) 0)
    where
      go :
          (a b c : Bool) →
          exactly (cond a (Err refusal.Unsound) (cond b (Err refusal.Sheet) (cond c (Err refusal.Nobody) (Ok lowest)))) ≡
          numbers_by ((1, a) ∷ (5, b) ∷ (17, c) ∷ []) (lowest.top ∷ lowest.bottom ∷ [])
      go true b c = refl
      go false true c = refl
      go false false true = refl
      go false false false = refl

  -- the answer has these numbers, and what has them is the answer
  pub index_told : (r : Result Fraction Refusal) → r ≡ index_of l index level set → exactly r ≡ index_numbers l index level set
  index_told r e = ap exactly e ∙ index_numbers_lem

  pub index_is : (r : Result Fraction Refusal) → exactly r ≡ index_numbers l index level set → r ≡ index_of l index level set
  index_is r e = exactly_decides r (index_of l index level set) (e ∙ sym index_numbers_lem)

  -- a number is answered exactly where its rule applies and none before it does, and 0 exactly where none applies
  pub index_exactly_then : (n : ℕ) → (answer_number (exactly (index_of l index level set)) ≡ n) ↔ Foremost n (index_rules l index level set)
  unfolding index_numbers
  index_exactly_then n =
      subst (λ (ns : List ℕ). (answer_number ns ≡ n) ↔ Foremost n (index_rules l index level set)) (sym index_numbers_lem)
      (numbers_exactly (index_rules l index level set) (lowest.top ∷ lowest.bottom ∷ []) (tt, (tt, (tt, tt))) n)

  -- where the index divides by somebody, its fraction in lowest terms is refused with 18 alone, and is shown as 01's formula
  shown_lowest :
      (digits : ℕ) →
      (divided_by l index level set ≡ 0 → ⊥) →
      decimally (shown_of lowest digits) ≡
      numbers_by ((18, ltb 6 digits) ∷ []) ((decimal_of formula digits).whole ∷ (decimal_of formula digits).digits ∷ [])
  unfolding shown_numbers
  shown_lowest digits somebody =
      let exists : formula.bottom ≡ 0 → ⊥ = weighted_exists index (divided_by l index level set) somebody in
      let none : eqb lowest.bottom 0 ≡ false = ne_eqb lowest.bottom 0 (lowest_lowest formula.top formula.bottom (omega arith)).exists in
      let same : decimal_of lowest digits ≡ decimal_of formula digits = lowest_decimal formula.top formula.bottom digits (omega arith) in
      shown_numbers_lem lowest digits ∙
      (λ i. numbers_by ((17, none i) ∷ (18, ltb 6 digits) ∷ []) ((same i).whole ∷ (same i).digits ∷ []))

  module _ (digits : ℕ) where
    -- the decimal has the numbers that its rules give
    pub decimal_numbers_lem : decimally (shown_index l index level set digits) ≡ decimal_numbers l index level set digits
    unfolding index_of decimal_numbers
    decimal_numbers_lem = go (not (sound_ledger l)) (not l.sheet.there) (eqb (divided_by l index level set) 0) refl
      where
        d : Decimal
        d = decimal_of formula digits

        go :
            (a b c : Bool) →
            eqb (divided_by l index level set) 0 ≡ c →
            decimally (shown_answer (cond a (Err refusal.Unsound) (cond b (Err refusal.Sheet) (cond c (Err refusal.Nobody) (Ok lowest)))) digits) ≡
            numbers_by ((1, a) ∷ (5, b) ∷ (17, c) ∷ (18, ltb 6 digits) ∷ []) (d.whole ∷ d.digits ∷ [])
        go true b c e = refl
        go false true c e = refl
        go false false true e = refl
        go false false false e = shown_lowest digits (eqb-false _ _ e)

    -- what has these numbers is the decimal
    pub decimal_is : (r : Result Decimal Refusal) → decimally r ≡ decimal_numbers l index level set digits → r ≡ shown_index l index level set digits
    decimal_is r e = decimally_decides r (shown_index l index level set digits) (e ∙ sym decimal_numbers_lem)

    -- a number is answered exactly where its rule applies and none before it does, and 0 exactly where none applies
    pub decimal_exactly_then :
        (n : ℕ) → (answer_number (decimally (shown_index l index level set digits)) ≡ n) ↔ Foremost n (decimal_rules l index level set digits)
    unfolding decimal_numbers
    decimal_exactly_then n =
        let d = decimal_of formula digits in
        subst (λ (ns : List ℕ). (answer_number ns ≡ n) ↔ Foremost n (decimal_rules l index level set digits)) (sym decimal_numbers_lem)
        (numbers_exactly (decimal_rules l index level set digits) (d.whole ∷ d.digits ∷ []) (tt, (tt, (tt, (tt, tt)))) n)

    -- what is shown is 01's formula, rounded to nearest, a tie upward
    module _ (d : Decimal) (e : shown_index l index level set digits ≡ Ok d) where
      refuses_no_decimal : (n : Refusal) → shown_index l index level set digits ≡ Err n → ⊥
      refuses_no_decimal n r = let z : ◌≡◌ {A = ℕ} 0 1 = cc in omega arith

      rounded_formula : digits ≤ 6 → (formula.bottom ≡ 0 → ⊥) → decimal_of formula digits ≡ d → Rounded l index level set digits d
      rounded_formula few exists is =
          record {
            few = few;
            below = rw (← is) (digits_below formula digits);
            nearest = rw (← is) (rw (decimal_value formula digits) (rounded_nearest formula.top formula.bottom digits (omega arith)));
            exists = exists;
          }

      pub decimal_nearest : Rounded l index level set digits d
      decimal_nearest = go (index_exactly l index level set) (test (ltb 6 digits))
        where
          go : Way l index level set (index_of l index level set) → Tested (ltb 6 digits) → Rounded l index level set digits d
          go (unsound s r) t = absurd (refuses_no_decimal refusal.Unsound (ap (λ a. shown_answer a digits) r))
          go (sheetless s u r) t = absurd (refuses_no_decimal refusal.Sheet (ap (λ a. shown_answer a digits) r))
          go (divides_by_nobody s u n r) t = absurd (refuses_no_decimal refusal.Nobody (ap (λ a. shown_answer a digits) r))
          go (answered s u n r) (holds t) =
              let exists = weighted_exists index (divided_by l index level set) n in
              let low = (lowest_lowest formula.top formula.bottom (omega arith)).exists in
              absurd (refuses_no_decimal refusal.Digits (ap (λ a. shown_answer a digits) r ∙ too_many_18 lowest digits low (ltb-true _ _ t)))
          go (answered s u n r) (fails t) =
              let exists = weighted_exists index (divided_by l index level set) n in
              let low = (lowest_lowest formula.top formula.bottom (omega arith)).exists in
              let few : digits ≤ 6 = ltb-false _ _ t in
              let is : Ok (decimal_of lowest digits) ≡ Ok d = sym (else_shown lowest digits low few) ∙ sym (ap (λ a. shown_answer a digits) r) ∙ e in
              let same : decimal_of lowest digits ≡ d = cc in
              rounded_formula few exists (sym (lowest_decimal formula.top formula.bottom digits (omega arith)) ∙ same)

      -- no other decimal is
      pub decimal_only : (other : Decimal) → Rounded l index level set digits other → other ≡ d
      decimal_only other r =
          sym (split_under other.whole (10 ^ digits) other.digits r.below) ∙
          ap (λ (v : ℕ). split_at v (10 ^ digits))
          (nearest_unique formula.top formula.bottom digits _ _ r.nearest decimal_nearest.nearest) ∙
          split_under d.whole (10 ^ digits) d.digits decimal_nearest.below
