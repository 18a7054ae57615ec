-- What the numbers of a line lend, and the bytes that a line of docs/TEXT.md stands for. Assumes nothing.
use Rattle.std.specs.Prelude.{ℕ, ◌+◌, ◌%◌, ◌^◌, List, [], ◌∷◌, cond, eqb, ltb, get_or, set}
use Rattle.codes.specs.Codes.{rows, row_of}
use Rattle.annex.specs.Figures.{customers, half_minutes}
use Rattle.fields.specs.declared.Sheet.{Sheet}
use Rattle.ledger.specs.Ledger.{empty_ledger}
use Rattle.ledger.specs.declared.Cell.{Cell}
use Rattle.ledger.specs.declared.Ledger.{Ledger}
use Rattle.ledger.specs.declared.TypeRow.{TypeRow}
use Rattle.pack.specs.Pack.{packed_of}
use Rattle.text_parse.specs.Entry.{parsed_of}

-- customers and half minutes
abbrev pub cell_with : ℕ → ℕ → Cell
cell_with n h = record { customers = customers n; halves = half_minutes h }

-- the two numbers from a place on
abbrev pub cell_lent : List ℕ → ℕ → Cell
cell_lent v at = cell_with (get_or v at 0) (get_or v (at + 1) 0)

-- TYPE, then the cells of NN, VN and VVN
abbrev pub row_lent : List ℕ → TypeRow
row_lent v = record { levels = cell_lent v 1 ∷ cell_lent v 3 ∷ cell_lent v 5 ∷ [] }

-- the rows with that of a type in its place; a type that is not listed has none
abbrev pub rows_lent : List TypeRow → ℕ → TypeRow → List TypeRow
rows_lent all place row = cond (ltb place rows) (set all place row) all

-- THERE, YEAR, then the totals of NN, VN and VVN
abbrev pub sheet_lent : List ℕ → Sheet
sheet_lent v =
    record {
      there = eqb (get_or v 0 0) 1;
      year = get_or v 1 0 % 2 ^ 16;
      totals = get_or v 2 0 % 2 ^ 32 ∷ get_or v 3 0 % 2 ^ 32 ∷ get_or v 4 0 % 2 ^ 32 ∷ [];
    }

-- the sheet's five numbers, then events and short events; the cells are all 0
abbrev pub ledger_lent : List ℕ → Ledger
ledger_lent v =
    record empty_ledger { sheet = sheet_lent v; events = get_or v 5 0 % 2 ^ 16; short = get_or v 6 0 % 2 ^ 16 }

-- the ledger with the row of the type that the numbers begin with
abbrev pub ledger_with : Ledger → List ℕ → Ledger
ledger_with ledger v = record ledger { rows = rows_lent ledger.rows (row_of (get_or v 0 0 % 2 ^ 8)) (row_lent v) }

-- what the line says is packed; of another line nothing is
abbrev pub bytes_told : List ℕ → List ℕ
bytes_told line = cond (eqb (parsed_of line 0).answer 0) (packed_of (parsed_of line 0).entry) []
