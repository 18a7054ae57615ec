-- A full ledger: "65,535 events already in the ledger" (01, "Refusal numbers"). Every event and every open outage has a number of its own, which was not
-- marked before, so that events, open outages and the numbers not marked are together never more than there are numbers.
use Rattle.std.specs.Prelude.{ℕ, zero, suc, ◌+◌, ◌≤◌, ◌≡◌, List, [], ◌∷◌, true, cond, eqb}
use Rattle.used_numbers.specs.Marks.{marked}
use Rattle.ledger.specs.Ledger.{empty_ledger}
use Rattle.slot.specs.declared.Slot.{Slot}
use Rattle.desk_scan.specs.Desk.{number_at}
use Rattle.desk_days.specs.Day.{State, Arrival, after_all}
use Rattle.desk_days.specs.Story.{empty_day}

-- "Event numbers are 1 to 65,535."
abbrev pub last_number : ℕ
last_number = 65535

-- how many outages are open in a slot, and at a desk
abbrev pub open_at : Slot → ℕ
open_at s = cond (eqb (number_at s) 0) 0 1

abbrev pub open_in : List Slot → ℕ
open_in [] = 0
open_in (s ∷ d) = open_at s + open_in d

-- how many numbers are not marked: of one, and of those from 1 to n
abbrev pub free_at : List ℕ → ℕ → ℕ
free_at m v = cond (marked m v) 0 1

unfoldable pub free_to : List ℕ → ℕ → ℕ
free_to m zero = 0
free_to m (suc n) = free_at m (suc n) + free_to m n

abbrev pub Accounted : State → Type 0
Accounted st = st.ledger.events + open_in st.desk + free_to st.map last_number ≤ last_number

-- what arrivals come to from an empty ledger, a map and an empty desk
abbrev pub from_nothing : List ℕ → List Arrival → State
from_nothing m as' = after_all (empty_day empty_ledger m) as'

abbrev pub Full : State → Type 0
Full st = st.ledger.events ≡ last_number

-- every number is marked
abbrev pub AllMarked : State → Type 0
AllMarked st = (v : ℕ) → 1 ≤ v → v ≤ last_number → marked st.map v ≡ true
