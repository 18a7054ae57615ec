use mathlib.Core.Path.{◌≡◌}
use lib.ListN.{drop}
use Rattle.text_scan.specs.Scan.{separator_of}
use Rattle.text_scan.proofs.separator_of.Given as goal

abbrev pub invariant-loop-b : goal.invariant-loop-b
invariant-loop-b l = separator_of l.line ≡ separator_of (drop l.b-index l.line)
