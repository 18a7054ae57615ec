-- A decimal in 01's numbers: they tell it apart from every other, and 17 and 18 are answered exactly then. Assumes nothing.
use Prim.Native.Nat.{ℕ}
use Rattle.std.specs.Prelude.{Result, Ok, Err}
use mathlib.Core.Path.{◌≡◌, refl, sym, ap, subst, ◌∙◌}
use mathlib.Core.Logic.{◌↔◌}
use mathlib.Core.List.{List, [], ◌∷◌}
use mathlib.Core.Bool.{Bool, true, false, cond}
use lib.ListN.{length, get_or}
use lib.Dec.{ltb, eqb}
use native.Mathlib.Omega.{arith}
use borrow.Author.Tests.{eqb-true}
use Rattle.base.specs.First.{Rule, first, Foremost, Rising}
use Rattle.base.proofs.FirstLaws.{exactly_then}
use Rattle.ratio.specs.declared.Fraction.{Fraction}
use Rattle.refusals.specs.declared.Refusal.{Refusal}
use Rattle.refusals.specs.declared.Refusal.TheVariants.{Nobody, Digits}
use Rattle.refusals.proofs.NumberLaws.{same_refusal}
use Rattle.decimal.specs.declared.Decimal.{Decimal}
use Rattle.decimal.specs.Decimal.{decimal_of, shown_of, decimally, shown_rules, numbers_by, answer_number, shown_numbers}

-- two answers of the same numbers are the same
pub decimally_decides : (a b : Result Decimal Refusal) → decimally a ≡ decimally b → a ≡ b
decimally_decides (Ok d) (Ok e) p =
    let whole : d.whole ≡ e.whole = ap (λ (ns : List ℕ). get_or ns 1 0) p in
    let digits : d.digits ≡ e.digits = ap (λ (ns : List ℕ). get_or ns 2 0) p in
    λ i. Ok (record { whole = whole i; digits = digits i })
decimally_decides (Ok d) (Err n) p = absurd (let z : ◌≡◌ {A = ℕ} 3 1 = ap length p in omega arith)
decimally_decides (Err m) (Ok e) p = absurd (let z : ◌≡◌ {A = ℕ} 1 3 = ap length p in omega arith)
decimally_decides (Err m) (Err n) p = ap Err (same_refusal m n (ap (λ (ns : List ℕ). get_or ns 0 0) p))

-- an answer by rules begins with the first number that applies, so that each is given exactly then
module _ (rules : List Rule) (values : List ℕ) where
  pub numbers_first : answer_number (numbers_by rules values) ≡ first rules
  numbers_first = go (first rules) (eqb (first rules) 0) refl
    where
      go : (n : ℕ) (t : Bool) → eqb n 0 ≡ t → answer_number (cond t (0 ∷ values) (n ∷ [])) ≡ n
      go n true e = sym (eqb-true n 0 e)
      go n false e = refl

  pub numbers_exactly : Rising 0 rules → (n : ℕ) → (answer_number (numbers_by rules values) ≡ n) ↔ Foremost n rules
  numbers_exactly rising n = subst (λ (m : ℕ). (m ≡ n) ↔ Foremost n rules) (sym numbers_first) (exactly_then n rules rising)

module _ (f : Fraction) (k : ℕ) where
  -- a fraction's decimal has the numbers that its rules give
  pub shown_numbers_lem : decimally (shown_of f k) ≡ shown_numbers f k
  unfolding shown_of shown_numbers
  shown_numbers_lem = go (eqb f.bottom 0) (ltb 6 k)
    where
      go :
          (none many : Bool) →
          decimally (cond none (Err Nobody) (cond many (Err Digits) (Ok (decimal_of f k)))) ≡
          numbers_by ((17, none) ∷ (18, many) ∷ []) ((decimal_of f k).whole ∷ (decimal_of f k).digits ∷ [])
      go true many = refl
      go false true = refl
      go false false = refl

  -- what has these numbers is the decimal
  pub shown_is : (r : Result Decimal Refusal) → decimally r ≡ shown_numbers f k → r ≡ shown_of f k
  shown_is r e = decimally_decides r (shown_of f k) (e ∙ sym shown_numbers_lem)

  -- a number is answered exactly where its rule applies and none before it does, and 0 exactly where none applies
  pub shown_exactly : (n : ℕ) → (answer_number (shown_numbers f k) ≡ n) ↔ Foremost n (shown_rules f k)
  unfolding shown_numbers
  shown_exactly = numbers_exactly (shown_rules f k) ((decimal_of f k).whole ∷ (decimal_of f k).digits ∷ []) (tt, (tt, tt))
