use mathlib.Core.Path.{◌≡◌}
use lib.ListN.{take}
use Rattle.unpack.proofs.BytesLaws.{begun}
use Rattle.unpack.proofs.bytes_entry.Given as goal

abbrev pub invariant-loop-k : goal.invariant-loop-k
invariant-loop-k l = l.values ≡ begun (take l.count l.s) l.k
