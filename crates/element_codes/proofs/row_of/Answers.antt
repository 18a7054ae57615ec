-- The place in the printed table, and the table's length where it is not there. Assumes nothing.
use mathlib.Core.Path.{ap, ◌∙◌}
use Rattle.std.specs.Prelude.{ℕ, Option}
use Rattle.std.specs.Option.{unwrap_or}
use Rattle.element_codes.specs.Elements.{codes, row_of}
use Rattle.element_codes.proofs.CodeLaws.{placed}
use Rattle.element_codes.proofs.row_of.Goals as goal

pub returns : goal.returns
unfolding codes row_of
returns c = c.unwrap_or.ensures ∙ ap (λ (o : Option ℕ). unwrap_or o 62) c.place_in.ensures ∙ placed c.args.code codes
