-- The sum is that of the level named; the network's is made of the three levels' sums, which fit together. Assumes nothing.
use Prim.Native.Nat.{◌+◌}
use native.Mathlib.Omega.{arith}
use Rattle.codes.specs.Codes.{rows}
use Rattle.index.specs.Sums.{level_sum}
use Rattle.index.proofs.SumLaws.{level_within_lem, within_fit, plus_within}
use Rattle.index.proofs.total_of.Goals as goal

pub plus-requires : goal.plus-requires
plus-requires c =
    let a = c.args in
    rw (c.level_sum-in-Network.ensures, c.level_sum-in-Network-2.ensures)
    (within_fit rows rows _ _ (level_within_lem a.rows c.requires 0 a.set) (level_within_lem a.rows c.requires 1 a.set) (omega arith))

pub plus-requires-in-Network : goal.plus-requires-in-Network
plus-requires-in-Network c =
    let a = c.args in
    rw (c.plus.ensures, c.level_sum-in-Network.ensures, c.level_sum-in-Network-2.ensures, c.level_sum-in-Network-3.ensures)
    (within_fit (rows + rows) rows _ _
    (plus_within rows rows (level_sum a.rows 0 a.set) (level_sum a.rows 1 a.set) (level_within_lem a.rows c.requires 0 a.set) (level_within_lem a.rows c.requires 1 a.set))
    (level_within_lem a.rows c.requires 2 a.set)
    (omega arith))
