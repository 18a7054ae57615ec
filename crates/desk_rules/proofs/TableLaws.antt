-- The desk's messages by 01's table of kinds: refusal 4 asks for their lengths, and their fields are read where the table puts them. Assumes nothing.
use Prim.Native.Nat.{ℕ}
use mathlib.Core.Path.{◌≡◌, refl}
use mathlib.Core.List.{List, [], ◌∷◌}
use mathlib.Core.Bool.{not}
use lib.ListN.{length}
use lib.Dec.{eqb}
use Rattle.fields.specs.Table.{open_fields, step_fields, close_fields, length_of, numbers_by}
use Rattle.desk_scan.specs.Desk.{number_in}
use Rattle.desk_rules.specs.Rules.{ordinal_in, step_in, by_message, length_wrong}

-- 4 asks an open, a step and a close for the length that the table's fields add up to
pub lengths_asked :
    (kind : ℕ) (s : List ℕ) →
    length_wrong kind s ≡
    by_message kind
    (not (eqb (length s) (length_of open_fields)))
    (not (eqb (length s) (length_of step_fields)))
    (not (eqb (length s) (length_of close_fields)))
lengths_asked kind s = refl

-- read at the table's fields, a step is its number, ordinal, time and counts, and a close its number and the steps taken
pub step_stands : (s : List ℕ) → numbers_by step_fields s ≡ number_in s ∷ ordinal_in s ∷ (step_in s).time ∷ (step_in s).counts
step_stands s = refl

pub close_stands : (s : List ℕ) → numbers_by close_fields s ≡ number_in s ∷ ordinal_in s ∷ []
close_stands s = refl
