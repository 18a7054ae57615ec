use mathlib.Core.Path.{◌≡◌}
use lib.ListN.{drop}
use Rattle.pen.specs.Pen.{inked}
use Rattle.text_items.specs.Sorts.{sort_number}
use Rattle.text_write.specs.Line.{items_text}
use Rattle.text_write.proofs.put_values.Given as goal

abbrev pub invariant-loop-k : goal.invariant-loop-k
invariant-loop-k l = inked l.initial.pen (items_text (sort_number l.kind) l.year 0 l.values) ≡ inked l.pen (items_text (sort_number l.kind) l.year l.k (drop l.k l.values))
