use mathlib.Core.Path.{◌≡◌}
use lib.ListN.{drop}
use Rattle.text.specs.Text.{pushed_all}
use Rattle.text.proofs.Text.with_words.Given as goal

abbrev pub invariant-loop-b : goal.invariant-loop-b
invariant-loop-b l = pushed_all l.initial.text l.words ≡ pushed_all l.text (drop l.b-index l.words)
