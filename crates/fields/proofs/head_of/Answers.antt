-- `head_of` meets its contract: each field is the number that `wire` ensures at its offset.
-- Assumes nothing.
use Rattle.fields.proofs.head_of.Goals as goal

pub returns : goal.returns
returns c =
    λ i.
    record {
      number = c.u16_at.ensures i;
      typ = c.byte_at.ensures i;
      voltage = c.byte_at-2.ensures i;
      cause = c.byte_at-3.ensures i;
      t0 = c.u32_at.ensures i;
    }
