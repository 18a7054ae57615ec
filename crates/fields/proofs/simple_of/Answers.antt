-- Each time and each row of counts is what `wire` reads at its offset. Assumes nothing.
use Rattle.fields.proofs.simple_of.Goals as goal

pub returns : goal.returns
returns c =
    λ i.
    record {
      t0 = c.u32_in.ensures i;
      t1 = c.u32_in-2.ensures i;
      t2 = c.u32_in-3.ensures i;
      t3 = c.u32_in-4.ensures i;
      t4 = c.u32_in-5.ensures i;
      n1 = c.counts_in.ensures i;
      n2 = c.counts_in-2.ensures i;
    }
