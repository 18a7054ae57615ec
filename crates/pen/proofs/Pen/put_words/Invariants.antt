use mathlib.Core.Path.{◌≡◌}
use lib.ListN.{drop}
use Rattle.pen.specs.Pen.{inked}
use Rattle.pen.proofs.Pen.put_words.Given as goal

abbrev pub invariant-loop-b : goal.invariant-loop-b
invariant-loop-b l = inked l.initial.self l.words ≡ inked l.self (drop l.b-index l.words)
