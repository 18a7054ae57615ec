-- Types 11 to 16 have the rows 0 to 5, type 2 has row 6, and any other number is no type. Assumes nothing.
use mathlib.Core.Path.{sym, ap, ◌∙◌}
use native.Mathlib.Omega.{arith}
use Rattle.codes.specs.Codes.{row_of}
use Rattle.codes.proofs.CodeLaws.{row_of_fault, row_of_planned, row_of_none}
use Rattle.codes.proofs.row_of.Goals as goal

pub returns-in-11-to-16 : goal.returns-in-11-to-16
returns-in-11-to-16 c = sym (row_of_fault c.args.typ (omega arith) (omega arith))

pub returns-in-2 : goal.returns-in-2
returns-in-2 c = sym (ap row_of c.in-2.is ∙ row_of_planned)

pub returns-in_default : goal.returns-in_default
returns-in_default c = sym (row_of_none c.args.typ (grind arith) (λ e. grind arith))

pub returns-in_default-2 : goal.returns-in_default-2
returns-in_default-2 c = sym (row_of_none c.args.typ (grind arith) (λ e. grind arith))
