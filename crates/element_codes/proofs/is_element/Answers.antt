-- The printed table has it. Assumes nothing.
use mathlib.Core.Path.{◌∙◌}
use Rattle.element_codes.specs.Elements.{codes, element_listed}
use Rattle.element_codes.proofs.CodeLaws.{listed_any}
use Rattle.element_codes.proofs.is_element.Goals as goal

pub returns : goal.returns
unfolding codes element_listed
returns c = c.contains.ensures.value ∙ listed_any c.args.code codes
