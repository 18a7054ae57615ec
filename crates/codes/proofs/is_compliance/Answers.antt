-- `codes::is_compliance` meets its contract: the rows it tests for are those of the compliance types. Assumes nothing.
use Rattle.codes.proofs.CodeLaws.{compliance_by_row}
use Rattle.codes.proofs.is_compliance.Goals as goal

pub returns : goal.returns
returns c = compliance_by_row c.args.row
