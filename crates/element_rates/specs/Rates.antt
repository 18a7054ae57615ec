-- 003, section 5, as 02 (K1) takes it: "outages / (pieces x years), or for lines 1000 x outages / (tenths of km x years) per year and 100 km, and the
-- mean outage in hours as minutes / (60 x outages). All are exact fractions."
use Rattle.std.specs.Prelude.{ℕ, ◌*◌, ◌||◌, not, cond, ◌≡◌, eqb, Result, Ok, Err}
use Rattle.refusals.specs.declared.Refusal.{Refusal}
use Rattle.refusals.specs.declared.Refusal.TheVariants as refusal
use Rattle.ratio.specs.declared.Fraction.{Fraction}
use Rattle.ratio.specs.Fraction.{whole, product, Same}
use Rattle.ratio.specs.Lowest.{lowest_of, Lowest}
use Rattle.decimal.specs.declared.Decimal.{Decimal}
use Rattle.decimal.specs.Decimal.{shown_of}
use Rattle.element_codes.specs.Elements.{element_listed, row_of}
use Rattle.element_row.specs.declared.Row.{Row}
use Rattle.element_table.specs.declared.Table.{Table}
use Rattle.element_table.specs.Table.{row_or, sound_table}

-- the row of a code
abbrev pub row_at : Table → ℕ → Row
row_at t code = row_or t.rows (row_of code)

-- a line's rate is per 100 km, and its length is in tenths of a kilometre
abbrev pub weight_of : ℕ → ℕ
weight_of stock = cond (eqb stock 2) 1000 1

-- 1: an unsound table; 7: an unknown code; 17: a code without stock, stock or length of 0
unfoldable pub rate_of : Table → ℕ → Result Fraction Refusal
rate_of t code =
    cond (not (sound_table t)) (Err refusal.Unsound)
    (cond (not (element_listed code)) (Err refusal.Code)
    (cond (eqb (row_at t code).stock 0 || eqb (row_at t code).amount 0) (Err refusal.Nobody)
    (Ok (lowest_of (weight_of (row_at t code).stock * (row_at t code).outages) ((row_at t code).amount * t.period)))))

-- 17: no outage
unfoldable pub mean_of : Table → ℕ → Result Fraction Refusal
mean_of t code =
    cond (not (sound_table t)) (Err refusal.Unsound)
    (cond (not (element_listed code)) (Err refusal.Code)
    (cond (eqb (row_at t code).outages 0) (Err refusal.Nobody)
    (Ok (lowest_of (row_at t code).minutes (60 * (row_at t code).outages)))))

-- the same as decimals
abbrev pub shown_figure : Result Fraction Refusal → ℕ → Result Decimal Refusal
shown_figure (Ok f) digits = shown_of f digits
shown_figure (Err n) digits = Err n

unfoldable pub shown_rate : Table → ℕ → ℕ → Result Decimal Refusal
shown_rate t code digits = shown_figure (rate_of t code) digits

unfoldable pub shown_mean : Table → ℕ → ℕ → Result Decimal Refusal
shown_mean t code digits = shown_figure (mean_of t code) digits

-- 003, section 5, as printed, with exact fractions: λ = N / (Z · P)
abbrev pub quotient : Fraction → Fraction → Fraction
quotient a b = record { top = a.top * b.bottom; bottom = a.bottom * b.top }

abbrev pub intensity : ℕ → ℕ → ℕ → Fraction
intensity n z p = quotient (whole n) (product (whole z) (whole p))

-- λ = N / (l · 0,01 · P), l in km, told in tenths of a kilometre
abbrev pub kilometres : ℕ → Fraction
kilometres tenths = record { top = tenths; bottom = 10 }

abbrev pub hundredth : Fraction
hundredth = record { top = 1; bottom = 100 }

abbrev pub line_intensity : ℕ → ℕ → ℕ → Fraction
line_intensity n tenths p = quotient (whole n) (product (product (kilometres tenths) hundredth) (whole p))

-- T = Σ t_i / N, t in hours
abbrev pub hours : ℕ → Fraction
hours minutes = record { top = minutes; bottom = 60 }

abbrev pub mean_hours : ℕ → ℕ → Fraction
mean_hours minutes n = quotient (hours minutes) (whole n)

-- the figure is a fraction in lowest terms, of the value of a formula that exists, and no other fraction is
pub record Exact (a : Result Fraction Refusal) (formula : Fraction) : Type 0 where
  pub fraction : Fraction
  pub is : a ≡ Ok fraction
  pub lowest : Lowest fraction
  pub same : Same fraction formula
  pub exists : formula.bottom ≡ 0 → ⊥
  pub only : (g : Fraction) → Lowest g → Same g formula → g ≡ fraction
