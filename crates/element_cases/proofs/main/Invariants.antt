use Rattle.std.proofs.Common.{◌-◌}
use Rattle.element_cases.proofs.main.Given as goal

abbrev pub decreases-loop-start : goal.decreases-loop-start
decreases-loop-start l = l.n - l.start
