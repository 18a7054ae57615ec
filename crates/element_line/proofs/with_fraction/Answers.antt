-- The top, a stroke and the bottom after one another are the fraction's text; a refusal is one byte. Assumes nothing.
use Rattle.text.proofs.TextLaws.{pushed_all_append}
use Rattle.element_line.proofs.with_fraction.Goals as goal

pub returns-in-Ok : goal.returns-in-Ok
returns-in-Ok c = rw c.in-Ok.is (simp (pushed_all_append, c.with_number-in-Ok.ensures, c.with_byte.ensures, c.with_number.ensures))

pub returns-in-Err : goal.returns-in-Err
returns-in-Err c = rw c.in-Err.is c.with_byte-in-Err.ensures
