-- *Exactly then*: a rate and a mean are refused with 1, 7 and 17 just where what the number stands for applies and nothing that a smaller one stands
-- for does; they are a fraction just where none applies; and no other number is answered. Assumes nothing.
use Prim.Native.Nat.{ℕ}
use Rattle.std.specs.Prelude.{Result, Ok, Err}
use mathlib.Core.Path.{◌≡◌, refl, sym, ap, subst}
use mathlib.Core.Logic.{◌↔◌, ◌⊎◌, ◌≢◌}
use mathlib.Core.List.{List, [], ◌∷◌}
use mathlib.Core.Bool.{Bool, true, false, ◌||◌, true≢false, false≢true}
use lib.Dec.{eqb}
use native.Mathlib.Omega.{arith}
use borrow.Author.Tests.{eqb-true, eqb-false, eq-eqb, ne_eqb}
use Rattle.base.specs.Lists.{listed}
use Rattle.base.proofs.TestLaws.{or_left, or_right, or_both}
use Rattle.refusals.specs.declared.Refusal.{Refusal}
use Rattle.refusals.specs.declared.Refusal.TheVariants as refusal
use Rattle.refusals.specs.Refusals.{number_of}
use Rattle.ratio.specs.declared.Fraction.{Fraction}
use Rattle.element_codes.specs.Elements.{element_listed}
use Rattle.element_row.specs.declared.Row.{Row}
use Rattle.element_table.specs.declared.Table.{Table}
use Rattle.element_table.specs.Table.{sound_table}
use Rattle.element_table.proofs.ConditionLaws.{either}
use Rattle.element_rates.specs.Rates.{row_at, rate_of, mean_of}
use Rattle.element_rates.proofs.FigureLaws.{figure, rate_by0, rate_in, mean_by0, mean_in, rate_is, mean_is}

abbrev pub numbers : List ℕ
numbers = 1 ∷ 7 ∷ 17 ∷ []

same_number : (m n : Refusal) → ◌≡◌ {A = Result Fraction Refusal} (Err m) (Err n) → m ≡ n
same_number m n e = cc

other_number : (m n : Refusal) → number_of m ≢ number_of n → ◌≡◌ {A = Result Fraction Refusal} (Err m) (Err n) → ⊥
other_number m n d e = d (ap number_of (same_number m n e))

no_number : (n : Refusal) (f : Fraction) → ◌≡◌ {A = Result Fraction Refusal} (Ok f) (Err n) → ⊥
no_number n f e = let z : ◌≡◌ {A = ℕ} 0 1 = cc in omega arith

-- when a figure is which answer
record Decided (sound known by-0 : Bool) (a : Result Fraction Refusal) : Type 0 where
  at_1 : (a ≡ Err refusal.Unsound) ↔ (sound ≡ false)
  at_7 : (a ≡ Err refusal.Code) ↔ ((sound ≡ true) × (known ≡ false))
  at_17 : (a ≡ Err refusal.Nobody) ↔ ((sound ≡ true) × (known ≡ true) × (by-0 ≡ true))
  at_fraction : ((f : Fraction) × (a ≡ Ok f)) ↔ ((sound ≡ true) × (known ≡ true) × (by-0 ≡ false))
  at_no_other : (n : Refusal) → a ≡ Err n → listed (number_of n) numbers ≡ true

decided : (sound known by-0 : Bool) (f : Fraction) → Decided sound known by-0 (figure sound known by-0 f)
decided false known by-0 f =
    record {
      at_1 = (λ e. refl, λ e. refl);
      at_7 = (λ e. absurd (other_number refusal.Unsound refusal.Code (λ z. omega arith) e), λ e. absurd (false≢true e.0));
      at_17 = (λ e. absurd (other_number refusal.Unsound refusal.Nobody (λ z. omega arith) e), λ e. absurd (false≢true e.0));
      at_fraction = (λ e. absurd (no_number refusal.Unsound e.0 (sym e.1)), λ e. absurd (false≢true e.0));
      at_no_other = λ n e. subst (λ k. listed (number_of k) numbers ≡ true) (same_number refusal.Unsound n e) refl;
    }
decided true false by-0 f =
    record {
      at_1 = (λ e. absurd (other_number refusal.Code refusal.Unsound (λ z. omega arith) e), λ e. absurd (true≢false e));
      at_7 = (λ e. (refl, refl), λ e. refl);
      at_17 = (λ e. absurd (other_number refusal.Code refusal.Nobody (λ z. omega arith) e), λ e. absurd (false≢true e.1));
      at_fraction = (λ e. absurd (no_number refusal.Code e.0 (sym e.1)), λ e. absurd (false≢true e.1));
      at_no_other = λ n e. subst (λ k. listed (number_of k) numbers ≡ true) (same_number refusal.Code n e) refl;
    }
decided true true true f =
    record {
      at_1 = (λ e. absurd (other_number refusal.Nobody refusal.Unsound (λ z. omega arith) e), λ e. absurd (true≢false e));
      at_7 = (λ e. absurd (other_number refusal.Nobody refusal.Code (λ z. omega arith) e), λ e. absurd (true≢false e.1));
      at_17 = (λ e. (refl, refl, refl), λ e. refl);
      at_fraction = (λ e. absurd (no_number refusal.Nobody e.0 (sym e.1)), λ e. absurd (true≢false e.2));
      at_no_other = λ n e. subst (λ k. listed (number_of k) numbers ≡ true) (same_number refusal.Nobody n e) refl;
    }
decided true true false f =
    record {
      at_1 = (λ e. absurd (no_number refusal.Unsound f e), λ e. absurd (true≢false e));
      at_7 = (λ e. absurd (no_number refusal.Code f e), λ e. absurd (true≢false e.1));
      at_17 = (λ e. absurd (no_number refusal.Nobody f e), λ e. absurd (false≢true e.2));
      at_fraction = (λ e. (refl, refl, refl), λ e. (f, refl));
      at_no_other = λ n e. absurd (no_number n f e);
    }

-- a test of two numbers for 0
one_is_0 : (m n : ℕ) → ((eqb m 0 || eqb n 0) ≡ true) ↔ ((m ≡ 0) ⊎ (n ≡ 0))
one_is_0 m n = either (eqb m 0) (eqb n 0) (eqb-true m 0, eq-eqb m 0) (eqb-true n 0, eq-eqb n 0)

none_is_0 : (m n : ℕ) → ((eqb m 0 || eqb n 0) ≡ false) ↔ ((m ≢ 0) × (n ≢ 0))
none_is_0 m n = (
  λ e. (eqb-false m 0 (or_left (eqb m 0) (eqb n 0) e), eqb-false n 0 (or_right (eqb m 0) (eqb n 0) e)),
  λ e. or_both (eqb m 0) (eqb n 0) (ne_eqb m 0 e.0) (ne_eqb n 0 e.1),
)

module _ (t : Table) (code : ℕ) where
  rate : Decided (sound_table t) (element_listed code) (rate_by0 t code) (rate_of t code)
  rate = rw (rate_is t code) (decided (sound_table t) (element_listed code) (rate_by0 t code) (rate_in t code))

  mean : Decided (sound_table t) (element_listed code) (mean_by0 t code) (mean_of t code)
  mean = rw (mean_is t code) (decided (sound_table t) (element_listed code) (mean_by0 t code) (mean_in t code))

  abbrev row : Row
  row = row_at t code

  -- a rate: 1 of an unsound table, 7 of a code not listed, 17 without stock or with an amount of 0, else a fraction; and no other number
  pub rate_exactly_1 : (rate_of t code ≡ Err refusal.Unsound) ↔ (sound_table t ≡ false)
  rate_exactly_1 = rate.at_1

  pub rate_exactly_7 : (rate_of t code ≡ Err refusal.Code) ↔ ((sound_table t ≡ true) × (element_listed code ≡ false))
  rate_exactly_7 = rate.at_7

  pub rate_exactly_17 : (rate_of t code ≡ Err refusal.Nobody) ↔ ((sound_table t ≡ true) × (element_listed code ≡ true) × ((row.stock ≡ 0) ⊎ (row.amount ≡ 0)))
  rate_exactly_17 = (
    λ e. (let d = rate.at_17.0 e in (d.0, d.1, (one_is_0 row.stock row.amount).0 d.2)),
    λ e. rate.at_17.1 (e.0, e.1, (one_is_0 row.stock row.amount).1 e.2),
  )

  pub rate_exactly_fraction : ((f : Fraction) × (rate_of t code ≡ Ok f)) ↔ ((sound_table t ≡ true) × (element_listed code ≡ true) × (row.stock ≢ 0) × (row.amount ≢ 0))
  rate_exactly_fraction = (
    λ e. (let d = rate.at_fraction.0 e in let n = (none_is_0 row.stock row.amount).0 d.2 in (d.0, d.1, n.0, n.1)),
    λ e. rate.at_fraction.1 (e.0, e.1, (none_is_0 row.stock row.amount).1 (e.2, e.3)),
  )

  pub rate_no_other : (r : Refusal) → rate_of t code ≡ Err r → listed (number_of r) numbers ≡ true
  rate_no_other = rate.at_no_other

  -- a mean: the same, but 17 where there is no outage
  pub mean_exactly_1 : (mean_of t code ≡ Err refusal.Unsound) ↔ (sound_table t ≡ false)
  mean_exactly_1 = mean.at_1

  pub mean_exactly_7 : (mean_of t code ≡ Err refusal.Code) ↔ ((sound_table t ≡ true) × (element_listed code ≡ false))
  mean_exactly_7 = mean.at_7

  pub mean_exactly_17 : (mean_of t code ≡ Err refusal.Nobody) ↔ ((sound_table t ≡ true) × (element_listed code ≡ true) × (row.outages ≡ 0))
  mean_exactly_17 = (
    λ e. (let d = mean.at_17.0 e in (d.0, d.1, eqb-true row.outages 0 d.2)),
    λ e. mean.at_17.1 (e.0, e.1, eq-eqb row.outages 0 e.2),
  )

  pub mean_exactly_fraction : ((f : Fraction) × (mean_of t code ≡ Ok f)) ↔ ((sound_table t ≡ true) × (element_listed code ≡ true) × (row.outages ≢ 0))
  mean_exactly_fraction = (
    λ e. (let d = mean.at_fraction.0 e in (d.0, d.1, eqb-false row.outages 0 d.2)),
    λ e. mean.at_fraction.1 (e.0, e.1, ne_eqb row.outages 0 e.2),
  )

  pub mean_no_other : (r : Refusal) → mean_of t code ≡ Err r → listed (number_of r) numbers ≡ true
  mean_no_other = mean.at_no_other
