-- The counts hold since the last time, which is not after the step's: the fold of the figures is the callee's. Assumes nothing.
use Rattle.annex.proofs.Course.with.Goals as goal

pub returns : goal.returns
returns c = λ i. record { last = c.args.step.time; figures = c.with_step.ensures i }
