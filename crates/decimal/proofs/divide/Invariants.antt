use Rattle.decimal.specs.Decimal.{Divided}
use Rattle.decimal.proofs.divide.Given as goal

abbrev pub invariant-loop-k : goal.invariant-loop-k
invariant-loop-k l = Divided l.m l.d l._k l.x
