use Prim.Native.Nat.{◌-◌}
use lib.ListN.{length}
use Rattle.book.proofs.RunLaws.{Going}
use Rattle.book.proofs.take_records.Given as goal

abbrev pub invariant-loop-start : goal.invariant-loop-start
invariant-loop-start l = Going l.initial.ledger l.initial.map l.book l.ledger l.map l.refused l.at

abbrev pub decreases-loop-start : goal.decreases-loop-start
decreases-loop-start l = length l.book - l.at
