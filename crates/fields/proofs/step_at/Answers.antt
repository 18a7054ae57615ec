-- Time and counts are what `wire` reads. Assumes nothing.
use Rattle.fields.proofs.step_at.Goals as goal

pub returns : goal.returns
returns c = λ i. record { time = c.u32_in.ensures i; counts = c.counts_in.ensures i }
