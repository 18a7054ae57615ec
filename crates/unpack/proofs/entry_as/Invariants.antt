use mathlib.Core.Path.{◌≡◌}
use Rattle.text_items.specs.Sorts.{sort_number}
use Rattle.unpack.proofs.UnpackLaws.{filled}
use Rattle.unpack.proofs.entry_as.Given as goal

abbrev pub invariant-loop-k : goal.invariant-loop-k
invariant-loop-k l = l.values ≡ filled l.k l.s (sort_number l.kind)
