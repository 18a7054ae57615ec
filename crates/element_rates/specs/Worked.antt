-- Worked cases of section 5 of 003, each computed through the definitions that the contracts cite.
use Rattle.std.specs.Prelude.{ℕ, ◌≡◌, List, [], ◌∷◌, true, set, replicate, Result, Ok, Err}
use Rattle.base.specs.Lists.{All}
use Rattle.refusals.specs.declared.Refusal.{Refusal}
use Rattle.refusals.specs.Refusals.{number_of}
use Rattle.ratio.specs.declared.Fraction.{Fraction}
use Rattle.decimal.specs.Decimal.{decimally}
use Rattle.element_codes.specs.Elements.{element_count, row_of}
use Rattle.element_row.specs.declared.Row.{Row}
use Rattle.element_table.specs.declared.Table.{Table}
use Rattle.element_row.specs.Row.{no_row}
use Rattle.element_rates.specs.Rates.{rate_of, mean_of, shown_rate, shown_mean}

-- a table of so many years that knows of one element
abbrev pub table_of : ℕ → ℕ → Row → Table
table_of period code r = record { period = period; seen = true; rows = set (replicate element_count no_row) (row_of code) r }

-- outages with their minutes; pieces; a line in tenths of a kilometre; no stock told
abbrev pub pieces : ℕ → ℕ → ℕ → Row
pieces outages minutes amount = record { outages = outages; minutes = minutes; stock = 1; amount = amount }

abbrev pub line : ℕ → ℕ → ℕ → Row
line outages minutes tenths = record { outages = outages; minutes = minutes; stock = 2; amount = tenths }

abbrev pub untold : ℕ → ℕ → Row
untold outages minutes = record { outages = outages; minutes = minutes; stock = 0; amount = 0 }

-- 40 transformers (code 15) with 3 outages of 400 minutes in all, in 5 years
abbrev pub transformers : Table
transformers = table_of 5 15 (pieces 3 400 40)

-- 12.5 km of cable (code 6) with 7 outages of 2520 minutes in all, in 2 years
abbrev pub cable : Table
cable = table_of 2 6 (line 7 2520 125)

-- a figure in numbers: 0, top and bottom; or the refusal
abbrev pub exactly : Result Fraction Refusal → List ℕ
exactly (Ok f) = 0 ∷ f.top ∷ f.bottom ∷ []
exactly (Err r) = number_of r ∷ []

-- a case: what is computed, and what comes out
pub record Case : Type 0 where
  pub computed : List ℕ
  pub comes_out : List ℕ

-- 3 / (40 x 5) for a year; 7 / (12.5 x 0.01 x 2) for a year and 100 km; 400 minutes over 3 outages in hours
abbrev pub figures : List Case
figures =
    (record { computed = exactly (rate_of transformers 15); comes_out = 0 ∷ 3 ∷ 200 ∷ [] }) ∷
    (record { computed = exactly (rate_of cable 6); comes_out = 0 ∷ 28 ∷ 1 ∷ [] }) ∷
    (record { computed = exactly (mean_of transformers 15); comes_out = 0 ∷ 20 ∷ 9 ∷ [] }) ∷
    (record { computed = exactly (mean_of cable 6); comes_out = 0 ∷ 6 ∷ 1 ∷ [] }) ∷ []

-- the same with 6 digits
abbrev pub decimals : List Case
decimals =
    (record { computed = decimally (shown_rate transformers 15 6); comes_out = 0 ∷ 0 ∷ 15000 ∷ [] }) ∷
    (record { computed = decimally (shown_rate cable 6 6); comes_out = 0 ∷ 28 ∷ 0 ∷ [] }) ∷
    (record { computed = decimally (shown_mean transformers 15 6); comes_out = 0 ∷ 2 ∷ 222222 ∷ [] }) ∷
    (record { computed = decimally (shown_mean cable 6 6); comes_out = 0 ∷ 6 ∷ 0 ∷ [] }) ∷ []

-- 17 of a rate: no stock told, 0 pieces, a line of no length; of a mean: no outage. The other figure is there. Without outages a rate is 0/1
abbrev pub divided : List Case
divided =
    (record { computed = exactly (rate_of (table_of 5 15 (untold 3 400)) 15); comes_out = 17 ∷ [] }) ∷
    (record { computed = exactly (mean_of (table_of 5 15 (untold 3 400)) 15); comes_out = 0 ∷ 20 ∷ 9 ∷ [] }) ∷
    (record { computed = exactly (rate_of (table_of 5 15 (pieces 3 400 0)) 15); comes_out = 17 ∷ [] }) ∷
    (record { computed = exactly (rate_of (table_of 2 6 (line 7 2520 0)) 6); comes_out = 17 ∷ [] }) ∷
    (record { computed = exactly (mean_of (table_of 5 15 (pieces 0 0 40)) 15); comes_out = 17 ∷ [] }) ∷
    (record { computed = exactly (rate_of (table_of 5 15 (pieces 0 0 40)) 15); comes_out = 0 ∷ 0 ∷ 1 ∷ [] }) ∷ []

-- 1 before 7, 7 before 17, 17 before 18: no period, a code that 9.8 does not list, seven digits
abbrev pub refused : List Case
refused =
    (record { computed = exactly (rate_of (table_of 0 15 (pieces 3 400 40)) 31); comes_out = 1 ∷ [] }) ∷
    (record { computed = exactly (mean_of (table_of 0 15 (pieces 3 400 40)) 31); comes_out = 1 ∷ [] }) ∷
    (record { computed = exactly (rate_of transformers 31); comes_out = 7 ∷ [] }) ∷
    (record { computed = exactly (mean_of transformers 31); comes_out = 7 ∷ [] }) ∷
    (record { computed = decimally (shown_rate cable 15 7); comes_out = 17 ∷ [] }) ∷
    (record { computed = decimally (shown_mean cable 15 7); comes_out = 17 ∷ [] }) ∷
    (record { computed = decimally (shown_rate cable 6 7); comes_out = 18 ∷ [] }) ∷
    (record { computed = decimally (shown_mean cable 6 7); comes_out = 18 ∷ [] }) ∷ []

-- each comes out as it is said
abbrev pub Right : List Case → Type 0
Right = All (λ (c : Case). c.computed ≡ c.comes_out)
