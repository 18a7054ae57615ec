-- The sums that an index is made of: over the rows of a set, of a level; "the network adds the levels' sums and the levels' N" (01, "Indices";
-- 003, 4.3.2).
use Rattle.std.specs.Prelude.{ℕ, zero, suc, ◌+◌, List, Bool, cond, get_or}
use Rattle.codes.specs.Codes.{rows, row_held}
use Rattle.codes.specs.declared.Set.{Set}
use Rattle.ledger.specs.declared.Cell.{Cell}
use Rattle.ledger.specs.declared.TypeRow.{TypeRow}
use Rattle.ledger.specs.Ledger.{no_cell, no_row, held, cell_by}
use Rattle.index.specs.declared.Level.{Level}
use Rattle.index.specs.declared.Level.TheVariants.{NN, VN, VVN, Network}

-- customers to customers, half minutes to half minutes
abbrev pub plus_cell : Cell → Cell → Cell
plus_cell a b = cell_by (λ x. held x a + held x b)

-- f 0 + f 1 + .. up to below n
abbrev pub sum_to : (ℕ → Cell) → ℕ → Cell
sum_to f zero = no_cell
sum_to f (suc n) = plus_cell (sum_to f n) (f n)

-- the cell of a level, in the row of a type
abbrev pub cell_at : List TypeRow → ℕ → ℕ → Cell
cell_at rs h row = get_or (get_or rs row no_row).levels h no_cell

abbrev pub held_or : Bool → Cell → Cell
held_or here c = cond here c no_cell

-- the same where the set holds the type
abbrev pub held_cell : List TypeRow → ℕ → Set → ℕ → Cell
held_cell rs h set row = held_or (row_held set row) (cell_at rs h row)

-- Σ over the types of the set
unfoldable pub level_sum : List TypeRow → ℕ → Set → Cell
level_sum rs h set = sum_to (held_cell rs h set) rows

-- of the levels' three cells
abbrev pub over_levels : (ℕ → Cell) → Cell
over_levels f = plus_cell (plus_cell (f 0) (f 1)) (f 2)

abbrev pub total_of : List TypeRow → Level → Set → Cell
total_of rs NN set = level_sum rs 0 set
total_of rs VN set = level_sum rs 1 set
total_of rs VVN set = level_sum rs 2 set
total_of rs Network set = over_levels (λ h. level_sum rs h set)

-- N of a level; the network's is the levels' together
abbrev pub customers_of : List ℕ → Level → ℕ
customers_of totals NN = get_or totals 0 0
customers_of totals VN = get_or totals 1 0
customers_of totals VVN = get_or totals 2 0
customers_of totals Network = get_or totals 0 0 + get_or totals 1 0 + get_or totals 2 0
