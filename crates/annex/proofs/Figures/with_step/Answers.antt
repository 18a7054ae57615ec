-- `annex::Figures::with_step` meets its contract. Each customer and each half is what its callee ensures, one level at a time. Assumes nothing.
use mathlib.Core.List.{[], ◌∷◌}
use Rattle.annex.specs.Figures.{with_step}
use Rattle.annex.proofs.Figures.with_step.Goals as goal

pub returns : goal.returns
unfolding with_step
returns c =
    λ i.
    record {
      customers =
          c.larger.ensures i ∷
          c.larger-2.ensures i ∷
          c.larger-3.ensures i ∷ [];
      halves = c.longer.ensures i ∷ c.longer-2.ensures i ∷ c.longer-3.ensures i ∷ [];
    }
