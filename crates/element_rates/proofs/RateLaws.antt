-- *Each rate is the exact fraction of 003's formula with its own units*: in lowest terms, of the value that section 5 prints, and the only such
-- fraction. A line's 0.01 per kilometre and its tenths of a kilometre come to 1000, and a mean's hours are minutes over 60. Assumes nothing.
use Prim.Native.Nat.{ℕ, ◌*◌, ◌<◌}
use Rattle.std.specs.Prelude.{Result, Ok}
use mathlib.Core.Path.{◌≡◌, sym, ◌∙◌, ap}
use mathlib.Core.Bool.{true}
use native.Mathlib.Nat.{mul-one, one-mul, mul-pos, mul_comm}
use native.Mathlib.Omega.{arith}
use borrow.Author.Tests.{ne_eqb}
use Rattle.base.proofs.TestLaws.{or_both}
use Rattle.refusals.specs.declared.Refusal.{Refusal}
use Rattle.ratio.specs.declared.Fraction.{Fraction}
use Rattle.ratio.specs.Lowest.{Lowest, lowest_of}
use Rattle.ratio.proofs.Euclid.{lowest_same, lowest_lowest, lowest_decides}
use Rattle.element_codes.specs.Elements.{element_listed}
use Rattle.element_row.specs.declared.Row.{Row}
use Rattle.element_table.specs.declared.Table.{Table}
use Rattle.element_table.specs.Table.{sound_table}
use Rattle.element_table.proofs.BoundLaws.{sound_period}
use Rattle.element_rates.specs.Rates.{row_at, weight_of, rate_of, mean_of, intensity, line_intensity, mean_hours, Exact}
use Rattle.element_rates.proofs.FigureLaws.{rate_in, mean_in, rate_answered, mean_answered}
use Rattle.element_rates.proofs.ExactlyThen.{rate_exactly_fraction, mean_exactly_fraction}

-- so it is where the figure is n / d in lowest terms, and the formula comes to n / d
exactly : (a : Result Fraction Refusal) (formula : Fraction) (n d : ℕ) → a ≡ Ok (lowest_of n d) → formula ≡ record { top = n; bottom = d } → 0 < d → Exact a formula
exactly a formula n d e f p =
    record {
      fraction = lowest_of n d;
      is = e;
      lowest = lowest_lowest n d p;
      same = rw f (lowest_same n d);
      exists = λ z. (let b : d ≡ 0 = sym (ap (λ (g : Fraction). g.bottom) f) ∙ z in omega arith);
      only = λ g l s. lowest_decides n d p g l (rw f at s);
    }

-- the formulas of section 5, each as one fraction
pub pieces_come_to : (n z p : ℕ) → intensity n z p ≡ record { top = 1 * n; bottom = z * p }
pieces_come_to n z p = λ i. record { top = (mul-one n ∙ sym (one-mul n)) i; bottom = one-mul (z * p) i }

pub lines_come_to : (n tenths p : ℕ) → line_intensity n tenths p ≡ record { top = 1000 * n; bottom = tenths * p }
lines_come_to n tenths p =
    λ i. record { top = mul_comm n 1000 i; bottom = (one-mul (tenths * 1 * p) ∙ ap (λ (x : ℕ). x * p) (mul-one tenths)) i }

pub mean_comes_to : (minutes n : ℕ) → mean_hours minutes n ≡ record { top = minutes; bottom = 60 * n }
mean_comes_to minutes n = λ i. record { top = mul-one minutes i; bottom = 60 * n }

module _ (t : Table) (code : ℕ) (sound : sound_table t ≡ true) (known : element_listed code ≡ true) where
  abbrev row : Row
  row = row_at t code

  divisor_exists : (row.amount ≡ 0 → ⊥) → 0 < row.amount * t.period
  divisor_exists some = let years = sound_period t sound in mul-pos {m = row.amount} {n = t.period} (omega arith) (omega arith)

  weighted : (stock : ℕ) → row.stock ≡ stock → (stock ≡ 0 → ⊥) → (row.amount ≡ 0 → ⊥) →
      rate_of t code ≡ Ok (lowest_of (weight_of stock * row.outages) (row.amount * t.period))
  weighted stock e marked some =
      rate_answered t code sound known
      (or_both _ _ (ne_eqb row.stock 0 (λ z. marked (sym e ∙ z))) (ne_eqb row.amount 0 some)) ∙
      (λ i. Ok (lowest_of (weight_of (e i) * row.outages) (row.amount * t.period)))

  -- λ = N / (Z · P), for a year
  pub pieces_rate : row.stock ≡ 1 → (row.amount ≡ 0 → ⊥) → Exact (rate_of t code) (intensity row.outages row.amount t.period)
  pieces_rate e some =
      exactly (rate_of t code) (intensity row.outages row.amount t.period) (1 * row.outages) (row.amount * t.period)
      (weighted 1 e (λ z. omega arith) some)
      (pieces_come_to row.outages row.amount t.period)
      (divisor_exists some)

  -- λ = N / (l · 0,01 · P), for a year and 100 km
  pub line_rate : row.stock ≡ 2 → (row.amount ≡ 0 → ⊥) → Exact (rate_of t code) (line_intensity row.outages row.amount t.period)
  line_rate e some =
      exactly (rate_of t code) (line_intensity row.outages row.amount t.period) (1000 * row.outages) (row.amount * t.period)
      (weighted 2 e (λ z. omega arith) some)
      (lines_come_to row.outages row.amount t.period)
      (divisor_exists some)

  -- T = Σ t / N, in hours
  pub mean_hours_lem : (row.outages ≡ 0 → ⊥) → Exact (mean_of t code) (mean_hours row.minutes row.outages)
  mean_hours_lem some =
      exactly (mean_of t code) (mean_hours row.minutes row.outages) row.minutes (60 * row.outages)
      (mean_answered t code sound known (ne_eqb row.outages 0 some))
      (mean_comes_to row.minutes row.outages)
      (omega arith)

-- whatever fraction is answered is in lowest terms
module _ (t : Table) (code : ℕ) (f : Fraction) where
  pub rate_lowest : rate_of t code ≡ Ok f → Lowest f
  rate_lowest e =
      let g = (rate_exactly_fraction t code).0 (f, e) in
      let answered = rate_answered t code g.0 g.1 (or_both _ _ (ne_eqb (row_at t code).stock 0 g.2) (ne_eqb (row_at t code).amount 0 g.3)) in
      let same : f ≡ rate_in t code = cc in
      rw same (lowest_lowest _ _ (divisor_exists t code g.0 g.1 g.3))

  pub mean_lowest : mean_of t code ≡ Ok f → Lowest f
  mean_lowest e =
      let g = (mean_exactly_fraction t code).0 (f, e) in
      let some : (row_at t code).outages ≡ 0 → ⊥ = g.2 in
      let answered = mean_answered t code g.0 g.1 (ne_eqb (row_at t code).outages 0 g.2) in
      let same : f ≡ mean_in t code = cc in
      rw same (lowest_lowest _ _ (omega arith))
