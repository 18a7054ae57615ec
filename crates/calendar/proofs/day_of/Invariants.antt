use Rattle.calendar.proofs.MonthLaws.{Dated}
use Rattle.calendar.proofs.day_of.Given as goal

abbrev pub invariant-loop-month : goal.invariant-loop-month
invariant-loop-month l = Dated l.year l.day l.month l.left
