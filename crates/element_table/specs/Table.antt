-- "An element table is begun for an observation period of 1 to 50 whole years and fed one or more yearly files" (02, K1): what it holds, when it is
-- sound, how it and a file are begun.
use Rattle.std.specs.Prelude.{ℕ, List, Bool, false, ◌&&◌, cond, get_or, replicate, leb, Result, Ok, Err}
use Rattle.base.specs.Lists.{every}
use Rattle.refusals.specs.declared.Refusal.{Refusal}
use Rattle.refusals.specs.Refusals.{number_of}
use Rattle.element_codes.specs.Elements.{element_count}
use Rattle.element_row.specs.declared.Row.{Row}
use Rattle.element_row.specs.Row.{no_row, row_within}
use Rattle.element_table.specs.declared.Table.{Table}

-- an answer number, and the next table
pub record Filed : Type 0 where
  pub answer : ℕ
  pub table : Table

-- an outcome by number and table: a refusal leaves the table that stands beside it
abbrev pub filed_in : Table → Result Table Refusal → Filed
filed_in left (Ok next) = record { answer = 0; table = next }
filed_in left (Err refusal) = record { answer = number_of refusal; table = left }

abbrev pub begun : ℕ → Table
begun period = record { period = period; seen = false; rows = replicate element_count no_row }

-- "an observation period of 1 to 50 whole years"
abbrev pub period_within : ℕ → Bool
period_within period = leb 1 period && leb period 50

-- 24: "a period outside 1 to 50"; the table that stands beside it has no period, and every call refuses it
unfoldable pub begin_of : ℕ → Filed
begin_of period = cond (period_within period) (record { answer = 0; table = begun period }) (record { answer = 24; table = begun 0 })

-- the row of an element; past the last there is none
abbrev pub row_or : List Row → ℕ → Row
row_or rows at = get_or rows at no_row

-- a table within its bounds: a period of 1 to 50, and every row within its own
unfoldable pub sound_table : Table → Bool
sound_table t = period_within t.period && every row_within t.rows

-- the table with the sheet-seen mark set or cleared
abbrev pub seen_as : Bool → Table → Table
seen_as seen t = record { period = t.period; seen = seen; rows = t.rows }

-- A file is begun by a call of its own, which clears the sheet-seen mark
unfoldable pub file_begun : Table → Filed
file_begun t = cond (sound_table t) (record { answer = 0; table = seen_as false t }) (record { answer = 1; table = t })
