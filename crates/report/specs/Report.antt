-- The year report (01, "Worked year"): "First line: year, accepted events (short ones included), short events, refused records. Others: level, set,
-- SAIFI, SAIDI, CAIDI; - where refusal 17 applies." "Without a sheet only the first line is printed, with - for the year."
use Rattle.std.specs.Prelude.{ℕ, List, [], ◌∷◌, ◌++◌, Bool, cond, Result, Ok, Err}
use Rattle.refusals.specs.declared.Refusal.{Refusal}
use Rattle.refusals.specs.Refusals.{number_of}
use Rattle.decimal.specs.declared.Decimal.{Decimal}
use Rattle.codes.specs.declared.Set.{Set}
use Rattle.codes.specs.declared.Set.TheVariants.{All, Std, Unnamed}
use Rattle.ledger.specs.declared.Ledger.{Ledger}
use Rattle.ledger.specs.Sound.{sound_ledger}
use Rattle.index.specs.declared.Level.{Level}
use Rattle.index.specs.declared.Level.TheVariants.{NN, VN, VVN, Network}
use Rattle.index.specs.declared.Index.{Index}
use Rattle.index.specs.declared.Index.TheVariants.{Saifi, Saidi, Caidi}
use Rattle.index.specs.Index.{shown_index}
use Rattle.text.specs.declared.Text.{Text}
use Rattle.text.specs.Text.{text_of, pushed_all, number_text, two_text}

-- the answer number, and the text: 1 and no text for an unsound ledger
pub record Report : Type 0 where
  pub answer : ℕ
  pub text : Text

-- what a text or a refusal is in these words
abbrev pub told : Result Text Refusal → Report
told (Ok t) = record { answer = 0; text = t }
told (Err r) = record { answer = number_of r; text = text_of [] }

-- a figure with two decimals, or "-"
abbrev pub figure_text : Result Decimal Refusal → List ℕ
figure_text (Ok d) = number_text d.whole ++ (46 ∷ two_text d.digits)
figure_text (Err r) = 45 ∷ []

abbrev pub level_word : Level → List ℕ
level_word NN = 78 ∷ 78 ∷ []
level_word VN = 86 ∷ 78 ∷ []
level_word VVN = 86 ∷ 86 ∷ 78 ∷ []
level_word Network = 83 ∷ 89 ∷ 83 ∷ []

abbrev pub set_word : Set → List ℕ
set_word All = 97 ∷ 108 ∷ 108 ∷ []
set_word Std = 115 ∷ 116 ∷ 100 ∷ []
set_word Unnamed = 115 ∷ 116 ∷ 100 ∷ []

-- "NN all"
abbrev pub name_text : Level → Set → List ℕ
name_text level set = level_word level ++ (32 ∷ set_word set)

-- " SAIFI"
abbrev pub index_text : Ledger → Index → Level → Set → List ℕ
index_text l index level set = 32 ∷ figure_text (shown_index l index level set 2)

abbrev pub with_index : Text → Ledger → Index → Level → Set → Text
with_index t l index level set = pushed_all t (index_text l index level set)

-- "NN all 3.00 79.00 26.33"
abbrev pub line_text : Ledger → Level → Set → List ℕ
line_text l level set =
    level_word level ++ (32 ∷ set_word set) ++ index_text l Saifi level set ++ index_text l Saidi level set ++ index_text l Caidi level set ++ (10 ∷ [])

abbrev pub year_text : Bool → ℕ → List ℕ
year_text there year = cond there (number_text year) (45 ∷ [])

-- "year 2009 events 3 short 0 refused 0"
abbrev pub head_text : Ledger → ℕ → List ℕ
head_text l refused =
    (121 ∷ 101 ∷ 97 ∷ 114 ∷ 32 ∷ []) ++ year_text l.sheet.there l.sheet.year ++
    (32 ∷ 101 ∷ 118 ∷ 101 ∷ 110 ∷ 116 ∷ 115 ∷ 32 ∷ []) ++ number_text l.events ++
    (32 ∷ 115 ∷ 104 ∷ 111 ∷ 114 ∷ 116 ∷ 32 ∷ []) ++ number_text l.short ++
    (32 ∷ 114 ∷ 101 ∷ 102 ∷ 117 ∷ 115 ∷ 101 ∷ 100 ∷ 32 ∷ []) ++ number_text refused ++ (10 ∷ [])

abbrev pub lines_text : Ledger → List ℕ
lines_text l =
    line_text l NN All ++ line_text l VN All ++ line_text l VVN All ++ line_text l Network All ++
    line_text l NN Std ++ line_text l VN Std ++ line_text l VVN Std ++ line_text l Network Std

unfoldable pub report_text : Ledger → ℕ → List ℕ
report_text l refused = head_text l refused ++ cond l.sheet.there (lines_text l) []

-- The report's text of an unsound ledger: 1, no text.
unfoldable pub report_of : Ledger → ℕ → Report
report_of l refused =
    cond (sound_ledger l) (record { answer = 0; text = text_of (report_text l refused) }) (record { answer = 1; text = text_of [] })
