-- What is shown of a figure: its refusal where it is one, then 18 for more than 6 digits, else the fraction rounded to nearest. Assumes nothing.
use Prim.Native.Nat.{ℕ, ◌<◌, ◌≤◌}
use Rattle.std.specs.Prelude.{Ok, Err}
use mathlib.Core.Path.{◌≡◌, ap, ◌∙◌}
use Rattle.refusals.specs.declared.Refusal.{Refusal}
use Rattle.refusals.specs.declared.Refusal.TheVariants as refusal
use Rattle.ratio.specs.declared.Fraction.{Fraction}
use Rattle.decimal.specs.Decimal.{decimal_of}
use Rattle.decimal.proofs.RoundLaws.{too_many_18, else_shown}
use Rattle.element_table.specs.declared.Table.{Table}
use Rattle.element_rates.specs.Rates.{rate_of, mean_of, shown_figure, shown_rate, shown_mean}
use Rattle.element_rates.proofs.RateLaws.{rate_lowest, mean_lowest}

module _ (t : Table) (code digits : ℕ) where
  -- a refused rate or mean is shown as the same refusal, whatever the digits
  pub shown_rate_refused : (r : Refusal) → rate_of t code ≡ Err r → shown_rate t code digits ≡ Err r
  unfolding shown_rate
  shown_rate_refused r e = ap (λ a. shown_figure a digits) e

  pub shown_mean_refused : (r : Refusal) → mean_of t code ≡ Err r → shown_mean t code digits ≡ Err r
  unfolding shown_mean
  shown_mean_refused r e = ap (λ a. shown_figure a digits) e

  module _ (f : Fraction) where
    -- a fraction is refused with 18 for more than 6 digits, and else shown as its decimal with so many
    pub shown_rate_18 : rate_of t code ≡ Ok f → 6 < digits → shown_rate t code digits ≡ Err refusal.Digits
    unfolding shown_rate
    shown_rate_18 e many = ap (λ a. shown_figure a digits) e ∙ too_many_18 f digits (rate_lowest t code f e).exists many

    pub shown_rate_is : rate_of t code ≡ Ok f → digits ≤ 6 → shown_rate t code digits ≡ Ok (decimal_of f digits)
    unfolding shown_rate
    shown_rate_is e few = ap (λ a. shown_figure a digits) e ∙ else_shown f digits (rate_lowest t code f e).exists few

    pub shown_mean_18 : mean_of t code ≡ Ok f → 6 < digits → shown_mean t code digits ≡ Err refusal.Digits
    unfolding shown_mean
    shown_mean_18 e many = ap (λ a. shown_figure a digits) e ∙ too_many_18 f digits (mean_lowest t code f e).exists many

    pub shown_mean_is : mean_of t code ≡ Ok f → digits ≤ 6 → shown_mean t code digits ≡ Ok (decimal_of f digits)
    unfolding shown_mean
    shown_mean_is e few = ap (λ a. shown_figure a digits) e ∙ else_shown f digits (mean_lowest t code f e).exists few
