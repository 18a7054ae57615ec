-- 'all' tests the row as the definition does, 'std' and no set named ask for the rows of the compliance types. Assumes nothing.
use Prim.Native.Nat.{ℕ}
use mathlib.Core.Path.{◌≡◌, sym, ap, ◌∙◌}
use mathlib.Core.Logic.{◌⊎◌, inl, inr}
use Rattle.codes.specs.declared.Set.{Set}
use Rattle.codes.specs.declared.Set.TheVariants.{Std, Unnamed}
use Rattle.codes.specs.Codes.{row_held}
use Rattle.codes.proofs.CodeLaws.{unnamed_is_std}
use Rattle.codes.proofs.holds_row.Goals as goal

pub returns-in-All : goal.returns-in-All
unfolding row_held
returns-in-All c = rw c.in-All.is

std_either : (set : Set) (row : ℕ) → (set ≡ Std) ⊎ (set ≡ Unnamed) → row_held Std row ≡ row_held set row
std_either set row (inl e) = ap (λ s. row_held s row) (sym e)
std_either set row (inr e) = sym (unnamed_is_std row) ∙ ap (λ s. row_held s row) (sym e)

pub returns-in-Std : goal.returns-in-Std
returns-in-Std c = c.is_compliance.ensures ∙ std_either c.args.set c.args.row c.in-Std.is
