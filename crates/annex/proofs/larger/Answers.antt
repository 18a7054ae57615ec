-- `annex::larger` meets its contract. Each branch returns the one that its test found to be the larger. Assumes nothing.
use mathlib.Core.Path.{sym, ap}
use native.Mathlib.Nat.{max-eq_left, max-eq_right, le_of_lt}
use Rattle.annex.specs.Figures.{customers}
use Rattle.annex.proofs.larger.Goals as goal

pub returns-then-c-m : goal.returns-then-c-m
returns-then-c-m c = sym (ap customers (max-eq_right (le_of_lt c.if-c-m.true)))

pub returns-else-c-m : goal.returns-else-c-m
returns-else-c-m c = sym (ap customers (max-eq_left c.if-c-m.false))
