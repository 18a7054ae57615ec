-- Two tables of one period whose files share no stocked code and whose outages per code sum to at most 65,535 join into the table with the sums (K1).
use Rattle.std.specs.Prelude.{ℕ, ◌+◌, ◌<◌, ◌≤◌, ◌≡◌, ◌⊎◌, List, ◌++◌}
use Rattle.element_row.specs.declared.Row.{Row}
use Rattle.element_row.specs.Row.{most_outages}
use Rattle.element_table.specs.declared.Table.{Table}
use Rattle.element_table.specs.Table.{row_or, begun}
use Rattle.element_file.specs.Yearly.{after_files, AcceptedFiles}

-- the sums of two rows; where at most one of them has its stock told, stock and amount are that one's
abbrev pub plus_row : Row → Row → Row
plus_row a b =
    record { outages = a.outages + b.outages; minutes = a.minutes + b.minutes; stock = a.stock + b.stock; amount = a.amount + b.amount }

-- what files come to from the beginning of a period
abbrev pub table_of : ℕ → List (List ℕ) → Table
table_of period fs = after_files (begun period) fs

abbrev pub row_in : Table → ℕ → Row
row_in t row = row_or t.rows row

pub record Joinable (period : ℕ) (fs gs : List (List ℕ)) : Type 0 where
  pub first : AcceptedFiles (begun period) fs
  pub second : AcceptedFiles (begun period) gs
  pub apart : (row : ℕ) → row < 62 → ((row_in (table_of period fs) row).stock ≡ 0) ⊎ ((row_in (table_of period gs) row).stock ≡ 0)
  pub room : (row : ℕ) → row < 62 → (row_in (table_of period fs) row).outages + (row_in (table_of period gs) row).outages ≤ most_outages

pub record Joined (period : ℕ) (fs gs : List (List ℕ)) : Type 0 where
  pub accepted : AcceptedFiles (begun period) (fs ++ gs)
  pub years : (table_of period (fs ++ gs)).period ≡ period
  pub rows : (row : ℕ) → row < 62 → row_in (table_of period (fs ++ gs)) row ≡ plus_row (row_in (table_of period fs) row) (row_in (table_of period gs) row)
