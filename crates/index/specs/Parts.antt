-- What the sums add up to: the network's are the levels', over all types they are the types', and the compliance figures and the types that they leave out
-- are all.
use Rattle.std.specs.Prelude.{ℕ, ◌+◌, ◌≡◌, List, not}
use Rattle.codes.specs.Codes.{rows, row_held}
use Rattle.codes.specs.declared.Set.{Set}
use Rattle.codes.specs.declared.Set.TheVariants.{Std}
use Rattle.annex.specs.Figure.{Figure}
use Rattle.ledger.specs.declared.Cell.{Cell}
use Rattle.ledger.specs.declared.TypeRow.{TypeRow}
use Rattle.ledger.specs.Ledger.{held}
use Rattle.index.specs.declared.Level.{Level}
use Rattle.index.specs.declared.Level.TheVariants.{NN, VN, VVN, Network}
use Rattle.index.specs.Sums.{sum_to, cell_at, held_or, over_levels, total_of, customers_of}

-- the network's figures and its N are the levels' together
pub record Levels (rs : List TypeRow) (totals : List ℕ) (set : Set) : Type 0 where
  pub figures : (x : Figure) → held x (total_of rs Network set) ≡ held x (total_of rs NN set) + held x (total_of rs VN set) + held x (total_of rs VVN set)
  pub served : customers_of totals Network ≡ customers_of totals NN + customers_of totals VN + customers_of totals VVN

-- a type's three cells together
abbrev pub type_sum : List TypeRow → ℕ → Cell
type_sum rs row = over_levels (λ h. cell_at rs h row)

-- Σ over the types that the compliance figures leave out
unfoldable pub level_rest : List TypeRow → ℕ → Cell
level_rest rs h = sum_to (λ row. held_or (not (row_held Std row)) (cell_at rs h row)) rows

abbrev pub rest_of : List TypeRow → Level → Cell
rest_of rs NN = level_rest rs 0
rest_of rs VN = level_rest rs 1
rest_of rs VVN = level_rest rs 2
rest_of rs Network = over_levels (level_rest rs)
