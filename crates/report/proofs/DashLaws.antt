-- The report's lines are those of a sound ledger with a sheet, and two digits are not too many: 17 alone is left to be answered, and a decimal has more
-- bytes than one. Assumes nothing.
use Prim.Native.Nat.{◌+◌}
use Rattle.std.specs.Prelude.{Result, Ok}
use mathlib.Core.Path.{◌≡◌, sym, ap, ◌∙◌}
use mathlib.Core.Bool.{true}
use mathlib.Core.List.{◌∷◌, ◌++◌}
use lib.ListN.{length, length-append}
use lib.Dec.{eqb}
use native.Mathlib.Omega.{arith}
use borrow.Author.Tests.{eqb-true, eqb-false}
use Rattle.base.proofs.TestLaws.{Tested, holds, fails, test}
use Rattle.refusals.specs.declared.Refusal.{Refusal}
use Rattle.decimal.specs.declared.Decimal.{Decimal}
use Rattle.ratio.specs.Lowest.{lowest_of}
use Rattle.ratio.proofs.Euclid.{lowest_lowest}
use Rattle.decimal.specs.Decimal.{decimal_of}
use Rattle.decimal.proofs.RoundLaws.{else_shown}
use Rattle.codes.specs.declared.Set.{Set}
use Rattle.ledger.specs.declared.Ledger.{Ledger}
use Rattle.ledger.specs.Sound.{sound_ledger}
use Rattle.index.specs.declared.Level.{Level}
use Rattle.index.specs.declared.Index.{Index}
use Rattle.index.specs.Index.{formula_of, divided_by, shown_answer, shown_index}
use Rattle.index.proofs.IndexLaws.{weighted_exists, nobody_refused, somebody_answered}
use Rattle.index.proofs.NumberLaws.{decimal_nearest}
use Rattle.text.specs.Text.{number_text, two_text}
use Rattle.report.specs.Report.{figure_text, index_text}
use Rattle.report.specs.Dashes.{dash, decimal_text, Dashes}

decimal_no_dash : (d : Decimal) → decimal_text d ≡ dash → ⊥
decimal_no_dash d e =
    let two : length (decimal_text d) ≡ 2 = ap length e in
    let more : length (number_text d.whole ++ (46 ∷ two_text d.digits)) ≡ length (number_text d.whole) + 3 = length-append (number_text d.whole) (46 ∷ two_text d.digits) in
    omega arith

module _ (l : Ledger) (sound : sound_ledger l ≡ true) (there : l.sheet.there ≡ true) (index : Index) (level : Level) (set : Set) where
  nobody_dashed : divided_by l index level set ≡ 0 → index_text l index level set ≡ dash
  nobody_dashed n = ap (λ a. 32 ∷ figure_text (shown_answer a 2)) (nobody_refused l index level set sound there n)

  -- the decimal that is shown
  abbrev shown_decimal : Decimal
  shown_decimal = decimal_of (lowest_of (formula_of l index level set).top (formula_of l index level set).bottom) 2

  somebody_shown : (divided_by l index level set ≡ 0 → ⊥) → shown_index l index level set 2 ≡ Ok shown_decimal
  somebody_shown n =
      let formula = formula_of l index level set in
      let exists = weighted_exists index (divided_by l index level set) n in
      ap (λ a. shown_answer a 2) (somebody_answered l index level set sound there n) ∙
      else_shown (lowest_of formula.top formula.bottom) 2 (lowest_lowest formula.top formula.bottom (omega arith)).exists (omega arith)

  somebody_told : (divided_by l index level set ≡ 0 → ⊥) → index_text l index level set ≡ decimal_text shown_decimal
  somebody_told n = ap (λ (s : Result Decimal Refusal). 32 ∷ figure_text s) (somebody_shown n)

  -- of a sound ledger with a sheet: - stands exactly where the index divides by 0, and else the nearest decimal of two digits
  pub dash_exactly_17 : Dashes l index level set
  dash_exactly_17 =
      record {
        exactly_17 = (λ e. go e (test (eqb (divided_by l index level set) 0)), nobody_dashed);
        else_nearest = λ n. (shown_decimal, somebody_told n, decimal_nearest l index level set 2 shown_decimal (somebody_shown n));
      }
    where
      go : index_text l index level set ≡ dash → Tested (eqb (divided_by l index level set) 0) → divided_by l index level set ≡ 0
      go e (holds t) = eqb-true _ _ t
      go e (fails t) = absurd (decimal_no_dash shown_decimal (sym (somebody_told (eqb-false _ _ t)) ∙ e))
