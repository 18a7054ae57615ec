-- `annex::Simple::halves` meets its contract. The three products are what `weigh` ensures, and each is small enough that their sum fits. Assumes nothing.
use Prim.Native.Nat.{◌+◌}
use Rattle.annex.specs.Figures.{half_minutes}
use Rattle.annex.proofs.Simple.halves.Goals as goal

pub returns : goal.returns
returns c =
    λ i. half_minutes (c.weigh.ensures.0 i + c.weigh-2.ensures.0 i + c.weigh-3.ensures.0 i)
