-- Its three cells are those of its words. Assumes nothing.
use mathlib.Core.List.{[], ◌∷◌}
use Rattle.c_words.proofs.row_at.Goals as goal

pub returns : goal.returns
returns c = λ i. record { levels = c.cell_at.ensures i ∷ c.cell_at-2.ensures i ∷ c.cell_at-3.ensures i ∷ [] }
