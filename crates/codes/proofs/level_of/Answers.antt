-- `codes::level_of` meets its contract: it looks the code up in the definition's table. Assumes nothing.
use Rattle.codes.specs.Codes.{level_of}
use Rattle.codes.proofs.level_of.Goals as goal

pub returns : goal.returns
unfolding level_of
returns c = rw c.level_in.ensures
