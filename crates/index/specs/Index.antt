-- "SAIFI = customers / N; SAIDI = half minutes / (2N); CAIDI = half minutes / (2 x customers)" (01, "Indices"; 003, 4.3.1 and 4.3.2).
use Rattle.std.specs.Prelude.{ℕ, ◌*◌, List, [], ◌∷◌, ◌++◌, not, cond, ltb, eqb, Result, Ok, Err}
use Rattle.base.specs.First.{Rule}
use Rattle.refusals.specs.declared.Refusal.{Refusal}
use Rattle.refusals.specs.declared.Refusal.TheVariants as refusal
use Rattle.refusals.specs.Refusals.{number_of}
use Rattle.ratio.specs.declared.Fraction.{Fraction}
use Rattle.ratio.specs.Lowest.{lowest_of}
use Rattle.decimal.specs.declared.Decimal.{Decimal}
use Rattle.decimal.specs.Decimal.{decimal_of, shown_of, numbers_by}
use Rattle.codes.specs.declared.Set.{Set}
use Rattle.annex.specs.Figure.{Figure, Off, Halves}
use Rattle.ledger.specs.declared.Cell.{Cell}
use Rattle.ledger.specs.declared.Ledger.{Ledger}
use Rattle.ledger.specs.Ledger.{held}
use Rattle.ledger.specs.Sound.{sound_ledger}
use Rattle.index.specs.declared.Level.{Level}
use Rattle.index.specs.declared.Index.{Index}
use Rattle.index.specs.declared.Index.TheVariants.{Saifi, Saidi, Caidi}
use Rattle.index.specs.Sums.{total_of, customers_of}

-- the figure above the line
abbrev pub above_of : Index → Figure
above_of Saifi = Off
above_of Saidi = Halves
above_of Caidi = Halves

abbrev pub top_of : Index → Cell → ℕ
top_of index sum = held (above_of index) sum

-- below the line: the customers served, or those interrupted
abbrev pub divisor_of : Index → Cell → ℕ → ℕ
divisor_of Saifi sum n = n
divisor_of Saidi sum n = n
divisor_of Caidi sum n = held Off sum

-- half minutes are divided by twice the customers
abbrev pub weight_of : Index → ℕ
weight_of Saifi = 1
weight_of Saidi = 2
weight_of Caidi = 2

-- the customers that an index divides by; 17: "SAIFI or SAIDI with no customers, CAIDI with no customers interrupted"
abbrev pub divided_by : Ledger → Index → Level → Set → ℕ
divided_by l index level set = divisor_of index (total_of l.rows level set) (customers_of l.sheet.totals level)

-- 01's formula, before it is brought to lowest terms
abbrev pub formula_of : Ledger → Index → Level → Set → Fraction
formula_of l index level set =
    record { top = top_of index (total_of l.rows level set); bottom = weight_of index * divided_by l index level set }

-- the refusals of an index and of its decimal, in the order of checking: "they check 1 (the ledger), 5 (no sheet), 17, 18"
abbrev pub index_rules : Ledger → Index → Level → Set → List Rule
index_rules l index level set = (1, not (sound_ledger l)) ∷ (5, not l.sheet.there) ∷ (17, eqb (divided_by l index level set) 0) ∷ []

abbrev pub decimal_rules : Ledger → Index → Level → Set → ℕ → List Rule
decimal_rules l index level set digits = index_rules l index level set ++ ((18, ltb 6 digits) ∷ [])

-- 01's formula in lowest terms: 1 comes before 5, and 5 before 17
unfoldable pub index_of : Ledger → Index → Level → Set → Result Fraction Refusal
index_of l index level set =
    cond (not (sound_ledger l)) (Err refusal.Unsound)
    (cond (not l.sheet.there) (Err refusal.Sheet)
    (cond (eqb (divided_by l index level set) 0) (Err refusal.Nobody)
    (Ok (lowest_of (formula_of l index level set).top (formula_of l index level set).bottom))))

-- the answer in 01's numbers: 0, top and bottom; or the refusal
abbrev pub exactly : Result Fraction Refusal → List ℕ
exactly (Ok f) = 0 ∷ f.top ∷ f.bottom ∷ []
exactly (Err r) = number_of r ∷ []

-- an index in 01's numbers
unfoldable pub index_numbers : Ledger → Index → Level → Set → List ℕ
index_numbers l index level set =
    let f = lowest_of (formula_of l index level set).top (formula_of l index level set).bottom in
    numbers_by (index_rules l index level set) (f.top ∷ f.bottom ∷ [])

-- and its decimal: 01's formula, rounded
unfoldable pub decimal_numbers : Ledger → Index → Level → Set → ℕ → List ℕ
decimal_numbers l index level set digits =
    let d = decimal_of (formula_of l index level set) digits in
    numbers_by (decimal_rules l index level set digits) (d.whole ∷ d.digits ∷ [])

-- a decimal of an answer; the refusals of the index come first
abbrev pub shown_answer : Result Fraction Refusal → ℕ → Result Decimal Refusal
shown_answer (Ok f) digits = shown_of f digits
shown_answer (Err r) digits = Err r

abbrev pub shown_index : Ledger → Index → Level → Set → ℕ → Result Decimal Refusal
shown_index l index level set digits = shown_answer (index_of l index level set) digits
