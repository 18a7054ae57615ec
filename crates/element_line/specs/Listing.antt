-- The element sheet (02, K1): one line for each of the 62 codes: code, its name in the document's words, outages, rate and mean as exact fractions n/d in
-- lowest terms and as decimals with six digits, - where 17 applies. The parts of a line are parted by tabs, as names have blanks in them. Before the rate
-- stands what it is per, and over the lines what each column is.
use Rattle.std.specs.Prelude.{ℕ, ◌/◌, List, [], ◌∷◌, ◌++◌, not, cond, eqb, Result, Ok, Err}
use Rattle.refusals.specs.declared.Refusal.{Refusal}
use Rattle.refusals.specs.Refusals.{number_of}
use Rattle.ratio.specs.declared.Fraction.{Fraction}
use Rattle.decimal.specs.declared.Decimal.{Decimal}
use Rattle.element_codes.specs.Elements.{element_listed}
use Rattle.element_table.specs.declared.Table.{Table}
use Rattle.element_table.specs.Table.{sound_table}
use Rattle.element_rates.specs.Rates.{row_at, rate_of, mean_of, shown_rate, shown_mean}
use Rattle.text.specs.declared.Text.{Text}
use Rattle.text.specs.Text.{text_of, pushed_all, number_text, two_text}

-- the answer number, and the text: none where the answer is not 0
pub record Line : Type 0 where
  pub answer : ℕ
  pub text : Text

-- what a text or a refusal is in these words
abbrev pub told : Result Text Refusal → Line
told (Ok t) = record { answer = 0; text = t }
told (Err r) = record { answer = number_of r; text = text_of [] }

-- `n/d`, or "-"
abbrev pub fraction_text : Result Fraction Refusal → List ℕ
fraction_text (Ok f) = number_text f.top ++ (47 ∷ number_text f.bottom)
fraction_text (Err r) = 45 ∷ []

-- the whole part, a point and six digits, or "-"
abbrev pub six_text : Result Decimal Refusal → List ℕ
six_text (Ok d) = number_text d.whole ++ (46 ∷ two_text (d.digits / 10000) ++ two_text (d.digits / 100) ++ two_text d.digits)
six_text (Err r) = 45 ∷ []

-- a tab before each
abbrev pub figure_text : Result Fraction Refusal → Result Decimal Refusal → List ℕ
figure_text f s = 9 ∷ fraction_text f ++ (9 ∷ six_text s)

-- "piece"
abbrev pub piece_word : List ℕ
piece_word = 112 ∷ 105 ∷ 101 ∷ 99 ∷ 101 ∷ []

-- "100 km"
abbrev pub hundred_word : List ℕ
hundred_word = 49 ∷ 48 ∷ 48 ∷ 32 ∷ 107 ∷ 109 ∷ []

-- what a rate is per, by the stock's mark: "-" where none was told (0), 100 km of a line (2), else a piece
abbrev pub per_text : ℕ → List ℕ
per_text stock = cond (eqb stock 0) (45 ∷ []) (cond (eqb stock 2) hundred_word piece_word)

abbrev pub line_text : Table → ℕ → List ℕ → List ℕ
line_text t code name =
    number_text code ++ (9 ∷ name) ++ (9 ∷ number_text (row_at t code).outages) ++ (9 ∷ per_text (row_at t code).stock) ++
    figure_text (rate_of t code) (shown_rate t code 6) ++ figure_text (mean_of t code) (shown_mean t code 6) ++ (10 ∷ [])

-- 1 for an unsound table, 7 for an unknown code: no text then
unfoldable pub line_of : Table → ℕ → List ℕ → Line
line_of t code name =
    cond (not (sound_table t)) (record { answer = 1; text = text_of [] })
    (cond (not (element_listed code)) (record { answer = 7; text = text_of [] })
    (record { answer = 0; text = pushed_all (text_of []) (line_text t code name) }))

-- the columns, parted by tabs
abbrev pub heading_text : List ℕ
heading_text =
    -- "code"
    (99 ∷ 111 ∷ 100 ∷ 101 ∷ []) ++
    -- "element"
    (9 ∷ 101 ∷ 108 ∷ 101 ∷ 109 ∷ 101 ∷ 110 ∷ 116 ∷ []) ++
    -- "outages"
    (9 ∷ 111 ∷ 117 ∷ 116 ∷ 97 ∷ 103 ∷ 101 ∷ 115 ∷ []) ++
    -- "per"
    (9 ∷ 112 ∷ 101 ∷ 114 ∷ []) ++
    -- "rate"
    (9 ∷ 114 ∷ 97 ∷ 116 ∷ 101 ∷ []) ++
    -- `rate, decimal`
    (9 ∷ 114 ∷ 97 ∷ 116 ∷ 101 ∷ 44 ∷ 32 ∷ 100 ∷ 101 ∷ 99 ∷ 105 ∷ 109 ∷ 97 ∷ 108 ∷ []) ++
    -- `mean, h`
    (9 ∷ 109 ∷ 101 ∷ 97 ∷ 110 ∷ 44 ∷ 32 ∷ 104 ∷ []) ++
    -- `mean, decimal`
    (9 ∷ 109 ∷ 101 ∷ 97 ∷ 110 ∷ 44 ∷ 32 ∷ 100 ∷ 101 ∷ 99 ∷ 105 ∷ 109 ∷ 97 ∷ 108 ∷ 10 ∷ [])
