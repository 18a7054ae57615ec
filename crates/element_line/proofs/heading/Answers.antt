-- The words are those of the definition, and fit an empty text. Assumes nothing.
use mathlib.Core.Path.{ap, ◌∙◌}
use Rattle.text.specs.declared.Text.{Text}
use Rattle.text.specs.Text.{pushed_all}
use Rattle.element_line.specs.Listing.{heading_text}
use Rattle.element_line.proofs.LineLaws.{heading_fits}
use Rattle.element_line.proofs.heading.Goals as goal

pub returns : goal.returns
returns c = c.with_words.ensures ∙ ap (λ (t : Text). pushed_all t heading_text) c.empty.ensures ∙ heading_fits
