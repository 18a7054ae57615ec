-- `listed` meets its contract: the same four tests, each code test being what `codes` ensures.
-- Assumes nothing.
use mathlib.Core.Bool.{◌&&◌, not}
use lib.Dec.{eqb, ltb}
use Rattle.codes.specs.Codes.{rows, levels}
use Rattle.fields.proofs.Head.listed.Goals as goal

pub returns : goal.returns
returns c =
    λ i.
    not (eqb c.args.self.number 0) && ltb (c.row_of.ensures i) rows && ltb (c.level_of.ensures i) levels && c.is_cause.ensures i
