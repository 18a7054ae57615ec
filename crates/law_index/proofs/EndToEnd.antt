-- The theorem *each index is that formula's exact fraction in lowest terms*, of an accepted book: it has no bytes, or a sheet and events; then 01's
-- formula over its ledger is the annex's fraction. Assumes nothing.
use Prim.Native.Nat.{ℕ, ◌+◌, ◌*◌, ◌^◌}
use Rattle.std.specs.Prelude.{Result, Ok, Err}
use mathlib.Core.Path.{◌≡◌, refl, sym, ap, subst, ◌∙◌}
use mathlib.Core.List.{List, [], ◌∷◌}
use mathlib.Core.Bool.{true, false}
use lib.ListN.{length}
use lib.Dec.{eqb}
use native.Mathlib.Omega.{arith}
use native.Mathlib.Nat.{mul-zero}
use borrow.Author.Tests.{eqb-true, eqb-false}
use Rattle.base.proofs.TestLaws.{Tested, holds, fails, test}
use Rattle.wire.specs.Cut.{cut_in, records_of}
use Rattle.refusals.specs.declared.Refusal.{Refusal}
use Rattle.refusals.specs.declared.Refusal.TheVariants as refusal
use Rattle.refusals.specs.Refusals.{number_of}
use Rattle.ratio.specs.declared.Fraction.{Fraction}
use Rattle.ratio.specs.Fraction.{Same}
use Rattle.ratio.specs.Lowest.{lowest_of}
use Rattle.decimal.specs.declared.Decimal.{Decimal}
use Rattle.decimal.specs.Decimal.{Nearest, decimal_of}
use Rattle.decimal.proofs.RoundLaws.{else_shown}
use Rattle.codes.specs.declared.Set.{Set}
use Rattle.ledger.specs.declared.Ledger.{Ledger}
use Rattle.law_sums.specs.Accepted.{Accepted}
use Rattle.law_sums.specs.Theorem.{book_ledger}
use Rattle.index.specs.declared.Level.{Level}
use Rattle.index.specs.declared.Index.{Index}
use Rattle.index.specs.Index.{weight_of, divided_by, formula_of, shown_answer, shown_index}
use Rattle.index.proofs.IndexLaws.{weighted_exists, sheetless_refused, nobody_refused, somebody_answered, index_exact}
use Rattle.index.proofs.NumberLaws.{decimal_nearest}
use Rattle.law_order.proofs.ShapeLaws.{Shape, no_bytes, sheet_then, accepted_shape}
use Rattle.law_adding.proofs.BookLaws.{book_sound}
use Rattle.law_index.specs.Formulas.{annex_fraction}
use Rattle.law_index.specs.Theorem.{answer_for, IsAnnex, EndToEnd, NearAnnex, DecimalToEnd}
use Rattle.law_index.proofs.FormulaLaws.{ledger_sheet, formula_is}

same_number : (m n : Refusal) → ◌≡◌ {A = Result Fraction Refusal} (Err m) (Err n) → number_of m ≡ number_of n
same_number m n e = let same : m ≡ n = cc in ap number_of same

no_number : (n : Refusal) (f : Fraction) → ◌≡◌ {A = Result Fraction Refusal} (Ok f) (Err n) → ⊥
no_number n f e = let z : ◌≡◌ {A = ℕ} 0 1 = cc in omega arith

no_records : records_of [] ≡ []
unfolding cut_in records_of
no_records = refl

no_sheet_lem : (book_ledger []).sheet.there ≡ false
unfolding cut_in records_of
no_sheet_lem = refl

module _ (book : List ℕ) (index : Index) (level : Level) (set : Set) where
  abbrev answer : Result Fraction Refusal
  answer = answer_for book index level set

  abbrev below : ℕ
  below = (annex_fraction index book level set).bottom

  -- without bytes there is no sheet
  none : book ≡ [] → EndToEnd book index level set
  none e =
      let five : answer ≡ Err refusal.Sheet =
      sheetless_refused (book_ledger book) index level set (book_sound book)
      (ap (λ (b : List ℕ). (book_ledger b).sheet.there) e ∙ no_sheet_lem) in
      record {
        exactly_5 = (λ r. e, λ b. five);
        exactly_17 = (λ r. absurd (let z = same_number refusal.Sheet refusal.Nobody (sym five ∙ r) in omega arith), λ p. absurd (p.0 e));
        else_exact = λ some. absurd (some e);
      }

  -- with a sheet, once the answer is known
  module _ (some : book ≡ [] → ⊥) where
    refused_17 : below ≡ 0 → answer ≡ Err refusal.Nobody → EndToEnd book index level set
    refused_17 z r =
        record {
          exactly_5 = (λ q. absurd (let n = same_number refusal.Nobody refusal.Sheet (sym r ∙ q) in omega arith), λ b. absurd (some b));
          exactly_17 = (λ q. (some, z), λ p. r);
          else_exact = λ b n. absurd (n z);
        }

    exact : (below ≡ 0 → ⊥) → (f : Fraction) → answer ≡ Ok f → IsAnnex index book level set f → EndToEnd book index level set
    exact n f r is =
        record {
          exactly_5 = (λ q. absurd (no_number refusal.Sheet f (sym r ∙ q)), λ b. absurd (some b));
          exactly_17 = (λ q. absurd (no_number refusal.Nobody f (sym r ∙ q)), λ p. absurd (n p.1));
          else_exact = λ b m. (f, r, is);
        }

    -- the ledger's formula is the annex's fraction
    module _ (there : (book_ledger book).sheet.there ≡ true) (same : formula_of (book_ledger book) index level set ≡ annex_fraction index book level set) where
      abbrev divisor : ℕ
      divisor = divided_by (book_ledger book) index level set

      weighed : weight_of index * divisor ≡ below
      weighed = ap (λ (f : Fraction). f.bottom) same

      with_sheet_lem : Tested (eqb divisor 0) → EndToEnd book index level set
      with_sheet_lem (holds t) =
          let z : divisor ≡ 0 = eqb-true divisor 0 t in
          refused_17 (sym weighed ∙ ap (λ (d : ℕ). weight_of index * d) z ∙ mul-zero (weight_of index))
          (nobody_refused (book_ledger book) index level set (book_sound book) there z)
      with_sheet_lem (fails t) =
          let n : divisor ≡ 0 → ⊥ = eqb-false divisor 0 t in
          let formula = formula_of (book_ledger book) index level set in
          let f = lowest_of formula.top formula.bottom in
          let r : answer ≡ Ok f = somebody_answered (book_ledger book) index level set (book_sound book) there n in
          let is = index_exact (book_ledger book) index level set f r in
          exact (λ z. weighted_exists index divisor n (weighed ∙ z)) f r
          (record { lowest = is.lowest; same = subst (λ (g : Fraction). Same f g) same is.same })

-- each index of an accepted book, of any level and set, is answered 5, 17 or the annex's fraction in lowest terms, as EndToEnd says
pub end_to_end : (book : List ℕ) → Accepted book → (index : Index) (level : Level) (set : Set) → EndToEnd book index level set
end_to_end book accepted index level set = go (accepted_shape book accepted)
  where
    some_records : (s : List ℕ) (ss : List (List ℕ)) → records_of book ≡ s ∷ ss → book ≡ [] → ⊥
    some_records s ss e b =
        let z : length (s ∷ ss) ≡ 0 = ap length (sym e ∙ ap records_of b ∙ no_records) in
        omega arith

    go : Shape book → EndToEnd book index level set
    go (no_bytes e) = none book index level set e
    go (sheet_then s ss e j told) =
        with_sheet_lem book index level set (some_records s ss e)
        (ap (λ sheet. sheet.there) (ledger_sheet book accepted s ss e told))
        (formula_is book accepted s ss e told level set index)
        (test (eqb (divided_by (book_ledger book) index level set) 0))

-- a decimal of an index is one of its fraction, which is nearest to 01's formula: the annex's fraction
pub decimal_to_end :
    (book : List ℕ) → Accepted book → (index : Index) (level : Level) (set : Set) (digits : ℕ) → DecimalToEnd book index level set digits
decimal_to_end book accepted index level set digits some exists few = go (accepted_shape book accepted)
  where
    l : Ledger
    l = book_ledger book

    answered : (f : Fraction) × (answer_for book index level set ≡ Ok f) × IsAnnex index book level set f
    answered = (end_to_end book accepted index level set).else_exact some exists

    f : Fraction
    f = answered.0

    shows : shown_index l index level set digits ≡ Ok (decimal_of f digits)
    shows = ap (λ (a : Result Fraction Refusal). shown_answer a digits) answered.1 ∙ else_shown f digits answered.2.lowest.exists few

    go : Shape book → (d : Decimal) × (shown_index l index level set digits ≡ Ok d) × NearAnnex index book level set digits d
    go (no_bytes e) = absurd (some e)
    go (sheet_then s ss e j told) =
        let near = decimal_nearest l index level set digits (decimal_of f digits) shows in (
          decimal_of f digits,
          shows,
          record {
            below = near.below;
            nearest =
                subst (λ (g : Fraction). Nearest g.top g.bottom digits ((decimal_of f digits).whole * 10 ^ digits + (decimal_of f digits).digits))
                (formula_is book accepted s ss e told level set index)
                near.nearest;
          },
        )
