use Prim.Native.Nat.{◌-◌}
use lib.ListN.{length}
use Rattle.element_file.proofs.RunLaws.{Going}
use Rattle.element_file.proofs.take_records.Given as goal

abbrev pub invariant-loop-start : goal.invariant-loop-start
invariant-loop-start l = Going l.initial.table l.bytes l.table l.refused l.at

abbrev pub decreases-loop-start : goal.decreases-loop-start
decreases-loop-start l = length l.bytes - l.at
