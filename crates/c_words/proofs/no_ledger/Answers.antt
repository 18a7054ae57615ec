-- The empty ledger, with a short event. Assumes nothing.
use Rattle.c_words.proofs.no_ledger.Goals as goal

pub returns : goal.returns
returns c = λ i. record { sheet = (c.empty-none.ensures i).sheet; events = (c.empty-none.ensures i).events; short = 1; rows = (c.empty-none.ensures i).rows }
