-- `annex::longer` meets its contract. What `weigh` ensures is the step's half minutes, and the sum fits by the bound on what came before. Assumes nothing.
use Prim.Native.Nat.{◌+◌}
use mathlib.Core.Path.{ap}
use Rattle.annex.specs.Figures.{half_minutes}
use Rattle.annex.proofs.longer.Goals as goal

pub returns : goal.returns
returns c = ap (λ w. half_minutes (c.args.h.0 + w)) c.weigh.ensures.0
