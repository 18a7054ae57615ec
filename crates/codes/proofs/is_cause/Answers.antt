-- 0 or an entry of the printed table. Assumes nothing.
use mathlib.Core.Path.{ap, ◌∙◌}
use mathlib.Core.Bool.{◌||◌}
use lib.Dec.{eqb}
use Rattle.codes.specs.Codes.{causes, cause_listed}
use Rattle.codes.proofs.CodeLaws.{listed_by_any}
use Rattle.codes.proofs.is_cause.Goals as goal

pub returns : goal.returns
unfolding causes cause_listed
returns c = ap (λ b. eqb c.args.cause 0 || b) (c.in_table.ensures ∙ listed_by_any c.args.cause causes)
