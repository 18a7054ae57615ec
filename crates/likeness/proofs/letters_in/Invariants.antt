use mathlib.Core.Path.{◌≡◌}
use mathlib.Core.Bool.{false}
use lib.ListN.{drop}
use Rattle.likeness.specs.Likeness.{letters_in}
use Rattle.likeness.proofs.letters_in.Given as goal

abbrev pub invariant-loop-b : goal.invariant-loop-b
invariant-loop-b l = letters_in false l.s ≡ letters_in l.behind (drop l.b-index l.s)
