-- The loop adds up the months before the month as the definition does (`Summed`), and ends at it, or past December. Assumes nothing.
use native.Mathlib.Omega.{arith}
use Rattle.calendar.proofs.MonthLaws.{summed_on, summed_end}
use Rattle.calendar.proofs.days_before.Goals as goal

pub loop-m-preserved : goal.loop-m-preserved
loop-m-preserved c =
    let a = c.args in
    let l = c.loop-m in
    rw c.days_in-days.ensures (summed_on a.year a.month l.m l.days l.invariant (omega (arith, c.min-m-end.ensures)) (omega (arith, c.min-m-end.ensures)))

pub returns : goal.returns
returns c =
    let l = c.loop-m in
    summed_end c.args.year c.args.month l.m l.days l.invariant (omega (arith, c.min-m-end.ensures, c.loop-m-test.false))
