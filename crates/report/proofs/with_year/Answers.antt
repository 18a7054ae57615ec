-- The year in digits where there is a sheet, and - where there is none. Assumes nothing.
use Rattle.report.proofs.with_year.Goals as goal

pub returns-then-there : goal.returns-then-there
returns-then-there c = rw c.if-there.true c.with_number.ensures

pub returns : goal.returns
returns c = rw c.if-there.false c.with_byte.ensures
