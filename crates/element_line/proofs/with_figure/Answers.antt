-- A tab, the fraction, a tab and the digits, each pushed after the one before. Assumes nothing.
use Rattle.text.proofs.TextLaws.{pushed_all_append}
use Rattle.element_line.proofs.with_figure.Goals as goal

pub returns : goal.returns
returns c =
    simp (
      pushed_all_append,
      c.with_six.ensures,
      c.with_byte-2.ensures,
      c.with_fraction.ensures,
      c.with_byte.ensures,
    )
