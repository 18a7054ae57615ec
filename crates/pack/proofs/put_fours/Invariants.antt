use mathlib.Core.Path.{◌≡◌}
use lib.ListN.{drop}
use Rattle.pen.specs.Pen.{inked}
use Rattle.codec.specs.Codec.{four_each}
use Rattle.pack.proofs.put_fours.Given as goal

abbrev pub invariant-loop-value : goal.invariant-loop-value
invariant-loop-value l = inked l.initial.pen (four_each l.values) ≡ inked l.pen (four_each (drop l.value-index l.values))
