use mathlib.Core.Path.{◌≡◌}
use lib.ListN.{drop}
use Rattle.pen.specs.Pen.{inked}
use Rattle.pack.specs.Pack.{one_each}
use Rattle.pack.proofs.put_bytes.Given as goal

abbrev pub invariant-loop-value : goal.invariant-loop-value
invariant-loop-value l = inked l.initial.pen (one_each l.values) ≡ inked l.pen (one_each (drop l.value-index l.values))
