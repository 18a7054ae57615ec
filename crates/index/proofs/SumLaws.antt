-- No sum over the cells of a sound ledger is too large for its type: n cells have at most n times the bounds of one. Assumes nothing.
use Prim.Native.Nat.{ℕ, zero, suc, ◌+◌, ◌*◌, ◌≤◌}
use mathlib.Core.Bool.{Bool, true, false}
use mathlib.Core.List.{List}
use native.Mathlib.Omega.{arith}
use Rattle.codes.specs.declared.Set.{Set}
use Rattle.codes.specs.Codes.{rows, levels, row_held}
use Rattle.codes.specs.Ranges.{most_events}
use Rattle.annex.specs.Figure.{Figure, Off, Halves, most_of}
use Rattle.ledger.specs.declared.Cell.{Cell}
use Rattle.ledger.specs.declared.TypeRow.{TypeRow}
use Rattle.ledger.specs.Ledger.{held}
use Rattle.ledger.specs.Inside.{Spare}
use Rattle.index.specs.declared.Level.{Level}
use Rattle.index.specs.declared.Level.TheVariants.{NN, VN, VVN, Network}
use Rattle.index.specs.declared.Index.{Index}
use Rattle.index.specs.declared.Index.TheVariants.{Saifi, Saidi, Caidi}
use Rattle.index.specs.Sums.{plus_cell, sum_to, held_or, held_cell, cell_at, level_sum, total_of}
use Rattle.index.specs.Index.{divisor_of}
use Rattle.index.specs.Inside.{Fit, Low}

-- at most n times the bounds of a cell
abbrev pub Within : ℕ → Cell → Type 0
Within n c = (x : Figure) → held x c ≤ n * (most_events * most_of x)

-- as many cells as a ledger has fit together
pub within_fit : (m n : ℕ) (a b : Cell) → Within m a → Within n b → m + n ≤ rows * levels → Fit a b
within_fit m n a b p q l Off = omega (arith, p Off, q Off)
within_fit m n a b p q l Halves = omega (arith, p Halves, q Halves)

-- two sums, within the bounds of m and of n cells, are together within those of m + n
pub plus_within : (m n : ℕ) (a b : Cell) → Within m a → Within n b → Within (m + n) (plus_cell a b)
plus_within m n a b p q Off = omega (arith, p Off, q Off)
plus_within m n a b p q Halves = omega (arith, p Halves, q Halves)

-- a cell with room for one event more is within the bounds of one cell
pub one_within : (c : Cell) → Spare c → Within 1 c
one_within c s Off = omega (arith, s Off)
one_within c s Halves = omega (arith, s Halves)

-- n such cells are together within the bounds of n
pub sum_within : (f : ℕ → Cell) → ((i : ℕ) → Spare (f i)) → (n : ℕ) → Within n (sum_to f n)
sum_within f low zero Off = omega arith
sum_within f low zero Halves = omega arith
sum_within f low (suc n) Off = omega (arith, sum_within f low n Off, low n Off)
sum_within f low (suc n) Halves = omega (arith, sum_within f low n Halves, low n Halves)

held_or_spare : (here : Bool) (c : Cell) → Spare c → Spare (held_or here c)
held_or_spare true c s x = s x
held_or_spare false c s Off = omega arith
held_or_spare false c s Halves = omega arith

module _ (rs : List TypeRow) (low : Low rs) (h : ℕ) (set : Set) where
  -- where every cell has room, so has each with those that the set leaves out taken as empty
  pub held_spare : (row : ℕ) → Spare (held_cell rs h set row)
  held_spare row = held_or_spare (row_held set row) (cell_at rs h row) (low h row)

  -- and a level's sum is within the bounds of as many cells as there are rows
  pub level_within_lem : Within rows (level_sum rs h set)
  unfolding level_sum
  level_within_lem = sum_within (held_cell rs h set) held_spare rows

wider : (n : ℕ) (c : Cell) → n ≤ rows * levels → Within n c → Within (rows * levels) c
wider n c l w Off = omega (arith, w Off)
wider n c l w Halves = omega (arith, w Halves)

-- the network has the cells of all rows and levels
pub total_within : (rs : List TypeRow) → Low rs → (level : Level) (set : Set) → Within (rows * levels) (total_of rs level set)
total_within rs low NN set = wider rows _ (omega arith) (level_within_lem rs low 0 set)
total_within rs low VN set = wider rows _ (omega arith) (level_within_lem rs low 1 set)
total_within rs low VVN set = wider rows _ (omega arith) (level_within_lem rs low 2 set)
total_within rs low Network set =
    plus_within (rows + rows) rows _ _
    (plus_within rows rows (level_sum rs 0 set) (level_sum rs 1 set) (level_within_lem rs low 0 set) (level_within_lem rs low 1 set))
    (level_within_lem rs low 2 set)

-- what an index divides by is at most the customers that all cells can hold
pub divisor_at_most : (index : Index) (sum : Cell) (n : ℕ) → Within (rows * levels) sum → n ≤ 12884901885 → divisor_of index sum n ≤ rows * levels * (most_events * most_of Off)
divisor_at_most Saifi sum n p q = omega arith
divisor_at_most Saidi sum n p q = omega arith
divisor_at_most Caidi sum n p q = p Off
