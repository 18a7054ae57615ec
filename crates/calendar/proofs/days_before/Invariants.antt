use Rattle.calendar.proofs.MonthLaws.{Summed}
use Rattle.calendar.proofs.days_before.Given as goal

abbrev pub invariant-loop-m : goal.invariant-loop-m
invariant-loop-m l = Summed l.year l.month l.m l.days
