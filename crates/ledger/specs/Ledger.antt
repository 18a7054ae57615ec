-- "The ledger has the year sheet (or none), events taken (short ones included), short events, and for each of 7 types and 3 levels the
-- customers and the half customer-minutes" (01, "What one event adds").
use Rattle.std.specs.Prelude.{ℕ, ◌+◌, ◌<◌, ◌≡◌, List, [], length, get_or, set, replicate}
use Rattle.codes.specs.Codes.{rows, levels}
use Rattle.annex.specs.declared.Customers.{Customers}
use Rattle.annex.specs.declared.HalfMinutes.{HalfMinutes}
use Rattle.annex.specs.declared.Figures.{Figures}
use Rattle.annex.specs.Figures.{customers, half_minutes}
use Rattle.annex.specs.Figure.{Figure, Off, Halves}
use Rattle.fields.specs.Fields.{no_sheet}
use Rattle.verdict.specs.Verdict.{Verdict}
use Rattle.ledger.specs.declared.Cell.{Cell}
use Rattle.ledger.specs.declared.TypeRow.{TypeRow}
use Rattle.ledger.specs.declared.Ledger.{Ledger}

abbrev pub no_cell : Cell
no_cell = record { customers = customers 0; halves = half_minutes 0 }

-- a row of nothing, and the row where there is none
abbrev pub empty_row : TypeRow
empty_row = record { levels = replicate levels no_cell }

abbrev pub no_row : TypeRow
no_row = record { levels = [] }

abbrev pub empty_ledger : Ledger
empty_ledger = record { sheet = no_sheet; events = 0; short = 0; rows = replicate rows empty_row }

-- a ledger of as many rows and levels as there are, as every ledger of code is
pub record Shaped (l : Ledger) : Type 0 where
  pub rows_there : length l.rows ≡ rows
  pub levels_there : (row : ℕ) → row < rows → length (get_or l.rows row no_row).levels ≡ levels

-- the cell of a row and a level
abbrev pub cell_of : Ledger → ℕ → ℕ → Cell
cell_of l row h = get_or (get_or l.rows row no_row).levels h no_cell

-- what a cell holds of a figure
abbrev pub held : Figure → Cell → ℕ
held Off c = c.customers.0
held Halves c = c.halves.0

-- the cell that holds so much of each figure
abbrev pub cell_by : (Figure → ℕ) → Cell
cell_by f = record { customers = customers (f Off); halves = half_minutes (f Halves) }

abbrev pub held_in : Figure → Ledger → ℕ → ℕ → ℕ
held_in x l row h = held x (cell_of l row h)

-- customers to customers, half minutes to half minutes
abbrev pub grown_by : Cell → Customers → HalfMinutes → Cell
grown_by c n h = record { customers = customers (c.customers.0 + n.0); halves = half_minutes (c.halves.0 + h.0) }

-- the cell of a level, with an event's figures of that level
abbrev pub grown_at : ℕ → Figures → List Cell → List Cell
grown_at h f cells = set cells h (grown_by (get_or cells h no_cell) (get_or f.customers h (customers 0)) (get_or f.halves h (half_minutes 0)))

-- the cells of a row with an event's figures: those of NN, of VN and of VVN
abbrev pub grown_levels : Figures → List Cell → List Cell
grown_levels f cells = grown_at 2 f (grown_at 1 f (grown_at 0 f cells))

abbrev pub grown_row : TypeRow → Figures → TypeRow
grown_row r f = record { levels = grown_levels f r.levels }

-- the ledger with what a verdict adds
unfoldable pub added : Ledger → Verdict → Ledger
added l v =
    record {
      sheet = v.sheet;
      events = l.events + v.events;
      short = l.short + v.short;
      rows = set l.rows v.row (grown_row (get_or l.rows v.row no_row) v.figures);
    }
