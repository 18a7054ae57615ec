-- No sheet, no events, and rows of nothing. Assumes nothing.
use lib.ListN.{replicate}
use Rattle.codes.specs.Codes.{rows}
use Rattle.ledger.proofs.Ledger.empty.Goals as goal

pub returns : goal.returns
returns c = λ i. record { sheet = c.none.ensures i; events = 0; short = 0; rows = replicate rows (c.none-2.ensures i) }
