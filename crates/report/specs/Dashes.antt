-- "- where refusal 17 applies" (01, "Worked year"): what stands in the eight lines of figures in the place of an index.
use Rattle.std.specs.Prelude.{ℕ, ◌≡◌, ◌↔◌, List, [], ◌∷◌, ◌++◌}
use Rattle.decimal.specs.declared.Decimal.{Decimal}
use Rattle.codes.specs.declared.Set.{Set}
use Rattle.ledger.specs.declared.Ledger.{Ledger}
use Rattle.index.specs.declared.Level.{Level}
use Rattle.index.specs.declared.Index.{Index}
use Rattle.index.specs.Index.{divided_by}
use Rattle.index.specs.Answered.{Rounded}
use Rattle.text.specs.Text.{number_text, two_text}
use Rattle.report.specs.Report.{index_text}

-- " -"
abbrev pub dash : List ℕ
dash = 32 ∷ 45 ∷ []

-- " 26.33": a whole part, a point and two digits
abbrev pub decimal_text : Decimal → List ℕ
decimal_text d = 32 ∷ (number_text d.whole ++ (46 ∷ two_text d.digits))

-- - stands exactly where 17 applies, "SAIFI or SAIDI with no customers, CAIDI with no customers interrupted", and for no other refusal; everywhere else
-- the decimal of two digits that is nearest to 01's formula
pub record Dashes (l : Ledger) (index : Index) (level : Level) (set : Set) : Type 0 where
  pub exactly_17 : (index_text l index level set ≡ dash) ↔ (divided_by l index level set ≡ 0)
  pub else_nearest :
      (divided_by l index level set ≡ 0 → ⊥) →
      (d : Decimal) × (index_text l index level set ≡ decimal_text d) × Rounded l index level set 2 d
