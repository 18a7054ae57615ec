use mathlib.Core.Path.{◌≡◌}
use lib.ListN.{drop}
use Rattle.text_scan.specs.Scan.{digits_of, digits_from}
use Rattle.text_scan.proofs.digits_of.Given as goal

abbrev pub invariant-loop-b : goal.invariant-loop-b
invariant-loop-b l = (l.run.used ≡ l.b-index) × (digits_of l.s ≡ digits_from l.run.value l.b-index (drop l.b-index l.s))
