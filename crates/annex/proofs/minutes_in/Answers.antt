-- `annex::minutes_in` meets its contract. Each branch answers as the definition's test does there. Assumes nothing.
use Prim.Native.Nat.{◌%◌}
use mathlib.Core.Path.{sym, ap}
use mathlib.Core.Bool.{cond}
use borrow.Author.Tests.{eq-eqb, ne_eqb}
use Rattle.annex.specs.Times.{minutes_in}
use Rattle.annex.proofs.minutes_in.Goals as goal

pub returns-then-year-eq0 : goal.returns-then-year-eq0
unfolding minutes_in
returns-then-year-eq0 c = sym (ap (λ t. cond t 527040 525600) (eq-eqb (c.args.year % 4) 0 c.if-year-eq0.true))

pub returns-else-year-eq0 : goal.returns-else-year-eq0
unfolding minutes_in
returns-else-year-eq0 c = sym (ap (λ t. cond t 527040 525600) (ne_eqb (c.args.year % 4) 0 c.if-year-eq0.false))
