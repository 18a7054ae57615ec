-- The four ways in which a rate and a mean are answered: of an unsound table, of an unknown code, where it divides by 0, and by a fraction.
-- Assumes nothing.
use Prim.Native.Nat.{ℕ, ◌*◌}
use Rattle.std.specs.Prelude.{Result, Ok, Err}
use mathlib.Core.Path.{◌≡◌, refl}
use mathlib.Core.Bool.{Bool, true, false, ◌||◌, not, cond}
use lib.Dec.{eqb}
use Rattle.refusals.specs.declared.Refusal.{Refusal}
use Rattle.refusals.specs.declared.Refusal.TheVariants as refusal
use Rattle.ratio.specs.declared.Fraction.{Fraction}
use Rattle.ratio.specs.Lowest.{lowest_of}
use Rattle.element_codes.specs.Elements.{element_listed}
use Rattle.element_table.specs.declared.Table.{Table}
use Rattle.element_table.specs.Table.{sound_table}
use Rattle.element_rates.specs.Rates.{row_at, weight_of, rate_of, mean_of}

-- a fraction, but 1 for an unsound table, 7 for an unknown code and 17 where it divides by 0
abbrev pub figure : Bool → Bool → Bool → Fraction → Result Fraction Refusal
figure sound known by-0 f = cond (not sound) (Err refusal.Unsound) (cond (not known) (Err refusal.Code) (cond by-0 (Err refusal.Nobody) (Ok f)))

module _ (t : Table) (code : ℕ) where
  -- a rate divides by pieces or length, and there are none without stock
  abbrev pub rate_by0 : Bool
  rate_by0 = eqb (row_at t code).stock 0 || eqb (row_at t code).amount 0

  abbrev pub rate_in : Fraction
  rate_in = lowest_of (weight_of (row_at t code).stock * (row_at t code).outages) ((row_at t code).amount * t.period)

  -- a mean divides by outages
  abbrev pub mean_by0 : Bool
  mean_by0 = eqb (row_at t code).outages 0

  abbrev pub mean_in : Fraction
  mean_in = lowest_of (row_at t code).minutes (60 * (row_at t code).outages)

  -- a rate and a mean are such figures, by soundness, the list of codes, and whether what they divide by is 0
  pub rate_is : rate_of t code ≡ figure (sound_table t) (element_listed code) rate_by0 rate_in
  unfolding rate_of
  rate_is = refl

  pub mean_is : mean_of t code ≡ figure (sound_table t) (element_listed code) mean_by0 mean_in
  unfolding mean_of
  mean_is = refl

  -- so each of the four ways by itself
  pub unsound_refused : sound_table t ≡ false → (rate_of t code ≡ Err refusal.Unsound) × (mean_of t code ≡ Err refusal.Unsound)
  unfolding rate_of mean_of
  unsound_refused s = (rw s, rw s)

  module _ (s : sound_table t ≡ true) where
    pub unknown_refused : element_listed code ≡ false → (rate_of t code ≡ Err refusal.Code) × (mean_of t code ≡ Err refusal.Code)
    unfolding rate_of mean_of
    unknown_refused k = (rw (s, k), rw (s, k))

    module _ (k : element_listed code ≡ true) where
      pub rate_refused : rate_by0 ≡ true → rate_of t code ≡ Err refusal.Nobody
      unfolding rate_of
      rate_refused z = rw (s, k, z)

      pub rate_answered : rate_by0 ≡ false → rate_of t code ≡ Ok rate_in
      unfolding rate_of
      rate_answered z = rw (s, k, z)

      pub mean_refused : mean_by0 ≡ true → mean_of t code ≡ Err refusal.Nobody
      unfolding mean_of
      mean_refused z = rw (s, k, z)

      pub mean_answered : mean_by0 ≡ false → mean_of t code ≡ Ok mean_in
      unfolding mean_of
      mean_answered z = rw (s, k, z)
