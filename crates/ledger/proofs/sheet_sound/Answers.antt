-- The two ways a sheet is sound, joined as in the definition. Assumes nothing.
use Rattle.ledger.proofs.sheet_sound.Goals as goal

pub returns : goal.returns
returns c = rw c.in_range.ensures
