-- *Reordering* of the worked year: its faults in another order, of which P1 to P3 are computed, are accepted and end as the year does. Assumes nothing.
use mathlib.Core.Path.{sym, subst}
use mathlib.Core.List.{List, ◌∷◌}
use Prim.Native.Nat.{ℕ}
use Rattle.worked.specs.Worked.{year}
use Rattle.base.specs.Perm.{Perm, keep, swap, then}
use Rattle.law_order.specs.Reorder.{Reordered, after, SameEnd}
use Rattle.law_order.specs.Turned.{year_sheet, as_worked, turned, turned_year}
use Rattle.law_order.proofs.Turned.{year_records, year_accepted}
use Rattle.law_order.proofs.Reordering.{reordering}

-- the third before the second, and then before the first
third_moved : Perm as_worked turned
third_moved = then (keep swap) swap

pub turned_same : SameEnd year turned_year
turned_same =
    reordering year (year_sheet ∷ turned) year_accepted
    (subst (λ (rs : List (List ℕ)). Reordered rs (year_sheet ∷ turned)) (sym year_records) (after third_moved))
