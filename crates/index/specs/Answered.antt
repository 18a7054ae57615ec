-- The ways in which an index is answered, and what an answer that is a fraction or a decimal says (01, "Indices": "Lowest terms, zero as 0/1"; "rounded
-- to nearest, a tie upward").
use Rattle.std.specs.Prelude.{ℕ, ◌+◌, ◌*◌, ◌^◌, ◌<◌, ◌≤◌, ◌≡◌, true, false, Result, Ok, Err}
use Rattle.refusals.specs.declared.Refusal.{Refusal}
use Rattle.refusals.specs.declared.Refusal.TheVariants as refusal
use Rattle.ratio.specs.declared.Fraction.{Fraction}
use Rattle.ratio.specs.Fraction.{Same}
use Rattle.ratio.specs.Lowest.{Lowest, lowest_of}
use Rattle.decimal.specs.declared.Decimal.{Decimal}
use Rattle.decimal.specs.Decimal.{Nearest}
use Rattle.codes.specs.declared.Set.{Set}
use Rattle.ledger.specs.declared.Ledger.{Ledger}
use Rattle.ledger.specs.Sound.{sound_ledger}
use Rattle.index.specs.declared.Level.{Level}
use Rattle.index.specs.declared.Index.{Index}
use Rattle.index.specs.Index.{formula_of, divided_by}

module _ (l : Ledger) (index : Index) (level : Level) (set : Set) where
  pub data Way (a : Result Fraction Refusal) : Type 0 where
    unsound : sound_ledger l ≡ false → a ≡ Err refusal.Unsound → Way a
    sheetless : sound_ledger l ≡ true → l.sheet.there ≡ false → a ≡ Err refusal.Sheet → Way a
    divides_by_nobody : sound_ledger l ≡ true → l.sheet.there ≡ true → divided_by l index level set ≡ 0 → a ≡ Err refusal.Nobody → Way a
    answered :
        sound_ledger l ≡ true →
        l.sheet.there ≡ true →
        (divided_by l index level set ≡ 0 → ⊥) →
        a ≡ Ok (lowest_of (formula_of l index level set).top (formula_of l index level set).bottom) →
        Way a

-- what an answer that is a fraction says of the ledger
pub record Given (l : Ledger) (index : Index) (level : Level) (set : Set) (f : Fraction) : Type 0 where
  pub sound : sound_ledger l ≡ true
  pub there : l.sheet.there ≡ true
  pub somebody : divided_by l index level set ≡ 0 → ⊥
  pub is : f ≡ lowest_of (formula_of l index level set).top (formula_of l index level set).bottom

-- the answer is in lowest terms and of the value of 01's formula, which exists
pub record Exact (l : Ledger) (index : Index) (level : Level) (set : Set) (f : Fraction) : Type 0 where
  pub lowest : Lowest f
  pub same : Same f (formula_of l index level set)
  pub exists : (formula_of l index level set).bottom ≡ 0 → ⊥

-- a decimal with so many digits is of them and of a whole part, and these are nearest to 01's formula, which exists
pub record Rounded (l : Ledger) (index : Index) (level : Level) (set : Set) (digits : ℕ) (d : Decimal) : Type 0 where
  pub few : digits ≤ 6
  pub below : d.digits < 10 ^ digits
  pub nearest : Nearest (formula_of l index level set).top (formula_of l index level set).bottom digits (d.whole * 10 ^ digits + d.digits)
  pub exists : (formula_of l index level set).bottom ≡ 0 → ⊥
