-- The level's word, a space and the set's, each pushed after the one before. Assumes nothing.
use Rattle.text.proofs.TextLaws.{pushed_all_append}
use Rattle.report.proofs.with_name.Goals as goal

pub returns : goal.returns
returns c = simp (pushed_all_append, c.with_set.ensures, c.with_byte.ensures, c.with_level.ensures)
