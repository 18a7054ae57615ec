-- The whole part, a point and two digits after one another are the figure's text; a refusal is one byte. Assumes nothing.
use Rattle.text.proofs.TextLaws.{pushed_all_append}
use Rattle.report.proofs.with_figure.Goals as goal

pub returns-in-Ok : goal.returns-in-Ok
returns-in-Ok c = rw c.in-Ok.is (simp (pushed_all_append, c.with_two.ensures, c.with_byte.ensures, c.with_number.ensures))

pub returns-in-Err : goal.returns-in-Err
returns-in-Err c = rw c.in-Err.is c.with_byte-in-Err.ensures
