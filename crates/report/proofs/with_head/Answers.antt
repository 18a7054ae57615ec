-- The pieces of the first line in their order, each pushed after the one before. Assumes nothing.
use Rattle.text.proofs.TextLaws.{pushed_all_append}
use Rattle.report.proofs.with_head.Goals as goal

pub returns : goal.returns
returns c =
    simp (
      pushed_all_append,
      c.with_byte.ensures,
      c.with_number.ensures,
      c.with_words-4.ensures,
      c.with_number-c.ensures,
      c.with_words-3.ensures,
      c.with_number-b.ensures,
      c.with_words-2.ensures,
      c.with_year-a.ensures,
      c.with_words.ensures,
    )
