-- `annex::Simple::figures` meets its contract. The customers are the counts themselves, and the halves what `halves` ensures of each level. Assumes nothing.
use mathlib.Core.List.{[], ◌∷◌}
use lib.ListN.{get_or}
use Rattle.annex.specs.Figures.{customers}
use Rattle.annex.specs.Simple.{simple_figures}
use Rattle.annex.proofs.Simple.figures.Goals as goal

pub returns : goal.returns
unfolding simple_figures
returns c =
    let n = c.args.self.n1 in
    λ i.
    record {
      customers = customers (get_or n 0 0) ∷ customers (get_or n 1 0) ∷ customers (get_or n 2 0) ∷ [];
      halves = c.halves.ensures i ∷ c.halves-2.ensures i ∷ c.halves-3.ensures i ∷ [];
    }
