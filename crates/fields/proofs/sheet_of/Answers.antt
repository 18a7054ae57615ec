-- `sheet_of` meets its contract: each field is the number that `wire` ensures at its offset.
-- Assumes nothing.
use mathlib.Core.Bool.{true}
use Rattle.fields.proofs.sheet_of.Goals as goal

pub returns : goal.returns
returns c =
    λ i. record { there = true; year = c.u16_at.ensures i; totals = c.counts_at.ensures i }
