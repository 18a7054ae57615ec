-- Inner vocabulary: what no sum of the code passes.
use Rattle.std.specs.Prelude.{ℕ, ◌+◌, ◌^◌, ◌<◌, List}
use Rattle.annex.specs.Figure.{Figure}
use Rattle.ledger.specs.declared.Cell.{Cell}
use Rattle.ledger.specs.declared.TypeRow.{TypeRow}
use Rattle.ledger.specs.Ledger.{held}
use Rattle.ledger.specs.Inside.{Spare}
use Rattle.index.specs.Sums.{cell_at}

-- the two together fit 64 bits
abbrev pub Fit : Cell → Cell → Type 0
Fit a b = (x : Figure) → held x a + held x b < 2 ^ 64

-- every cell is as small as a sound ledger's
abbrev pub Low : List TypeRow → Type 0
Low rs = (h row : ℕ) → Spare (cell_at rs h row)
