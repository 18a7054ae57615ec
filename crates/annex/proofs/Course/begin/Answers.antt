-- The last time is T0, and the figures are those of no step. Assumes nothing.
use Rattle.annex.proofs.Course.begin.Goals as goal

pub returns : goal.returns
returns c = λ i. record { last = c.args.t0; figures = c.none.ensures i }
