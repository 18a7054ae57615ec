-- The pieces of a line in their order, each pushed after the one before. Assumes nothing.
use Rattle.text.proofs.TextLaws.{pushed_all_append}
use Rattle.report.proofs.with_line.Goals as goal

pub returns : goal.returns
returns c =
    simp (
      pushed_all_append,
      c.with_byte.ensures,
      c.with_index.ensures,
      c.with_index-c.ensures,
      c.with_index-b.ensures,
      c.with_name-a.ensures,
    )
