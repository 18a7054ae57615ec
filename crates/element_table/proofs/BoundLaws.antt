-- What soundness bounds (02, K1: what is not "1 a table past its bounds"), said in numbers: the tests of the period and of a row are those numbers'
-- tests, and a table is sound exactly where its period and each row pass. Assumes nothing.
use Prim.Native.Nat.{ℕ, zero, suc, ◌<◌, ◌≤◌}
use mathlib.Core.Path.{◌≡◌, refl, sym, ap, ◌∙◌}
use mathlib.Core.Logic.{◌↔◌, ◌⊎◌, inl, inr}
use mathlib.Core.List.{List, [], ◌∷◌}
use mathlib.Core.Bool.{true, false, ◌&&◌, true≢false}
use lib.Dec.{leb}
use native.Mathlib.Omega.{arith}
use borrow.Author.Tests.{leb-true, leb-false, le-leb}
use Rattle.std.specs.List.{list_all}
use Rattle.base.specs.Lists.{every}
use Rattle.base.proofs.TestLaws.{Tested, holds, fails, test, and_left, and_right, and_both}
use Rattle.element_row.specs.declared.Row.{Row}
use Rattle.element_table.specs.declared.Table.{Table}
use Rattle.element_row.specs.Row.{row_within, RowSound}
use Rattle.element_row.proofs.RowLaws.{row_exactly}
use Rattle.element_table.specs.Table.{row_or, period_within, sound_table}

-- "an observation period of 1 to 50 whole years"
module _ (period : ℕ) where
  pub period_within_lem : (period_within period ≡ true) ↔ ((1 ≤ period) × (period ≤ 50))
  period_within_lem = (there, back)
    where
      there : period_within period ≡ true → (1 ≤ period) × (period ≤ 50)
      there e = (leb-true _ _ (and_left (leb 1 period) (leb period 50) e), leb-true _ _ (and_right (leb 1 period) (leb period 50) e))

      back : (1 ≤ period) × (period ≤ 50) → period_within period ≡ true
      back (some, few) = and_both (leb 1 period) (leb period 50) (le-leb 1 period some) (le-leb period 50 few)

  pub period_outside : (period_within period ≡ false) ↔ ((period < 1) ⊎ (50 < period))
  period_outside = (there (test (leb 1 period)) (test (leb period 50)), back (test (period_within period)))
    where
      there : Tested (leb 1 period) → Tested (leb period 50) → period_within period ≡ false → (period < 1) ⊎ (50 < period)
      there (fails a) b e = inl (leb-false _ _ a)
      there (holds a) (fails b) e = inr (leb-false _ _ b)
      there (holds a) (holds b) e = absurd (true≢false (sym (and_both (leb 1 period) (leb period 50) a b) ∙ e))

      back : Tested (period_within period) → (period < 1) ⊎ (50 < period) → period_within period ≡ false
      back (holds e) (inl none) = let i = period_within_lem.0 e in absurd (omega arith)
      back (holds e) (inr many) = let i = period_within_lem.0 e in absurd (omega arith)
      back (fails e) o = e

-- the library's test of each row is the definition's
pub all_rows : (rows : List Row) → list_all row_within rows ≡ every row_within rows
all_rows [] = refl
all_rows (r ∷ rows) = ap (λ b. row_within r && b) (all_rows rows)

-- past the last row there is none, and that is within the bounds
each_row : (rows : List Row) → every row_within rows ≡ true → (row : ℕ) → row_within (row_or rows row) ≡ true
each_row [] e row = refl
each_row (r ∷ rows) e zero = and_left (row_within r) (every row_within rows) e
each_row (r ∷ rows) e (suc row) = each_row rows (and_right (row_within r) (every row_within rows) e) row

every_row : (rows : List Row) → ((row : ℕ) → row_within (row_or rows row) ≡ true) → every row_within rows ≡ true
every_row [] f = refl
every_row (r ∷ rows) f = and_both (row_within r) (every row_within rows) (f 0) (every_row rows (λ row. f (suc row)))

-- what soundness says: the period is 1 to 50 years, and each row is within its bounds
module _ (t : Table) where
  pub sound_exactly : (sound_table t ≡ true) ↔ ((1 ≤ t.period) × (t.period ≤ 50) × ((row : ℕ) → RowSound (row_or t.rows row)))
  unfolding sound_table
  sound_exactly = (there, back)
    where
      there : sound_table t ≡ true → (1 ≤ t.period) × (t.period ≤ 50) × ((row : ℕ) → RowSound (row_or t.rows row))
      there e =
          let p = (period_within_lem t.period).0 (and_left (period_within t.period) (every row_within t.rows) e) in
          let rows = and_right (period_within t.period) (every row_within t.rows) e in
          (p.0, p.1, λ row. (row_exactly (row_or t.rows row)).0 (each_row t.rows rows row))

      back : (1 ≤ t.period) × (t.period ≤ 50) × ((row : ℕ) → RowSound (row_or t.rows row)) → sound_table t ≡ true
      back (some, few, rows) =
          and_both (period_within t.period) (every row_within t.rows) ((period_within_lem t.period).1 (some, few))
          (every_row t.rows (λ row. (row_exactly (row_or t.rows row)).1 (rows row)))

  module _ (sound : sound_table t ≡ true) where
    pub sound_period : (1 ≤ t.period) × (t.period ≤ 50)
    sound_period = let all = sound_exactly.0 sound in (all.0, all.1)

    pub sound_row : (row : ℕ) → RowSound (row_or t.rows row)
    sound_row = (sound_exactly.0 sound).2
