-- A day: ledger, map and desk, and what arrives at the two entries, one after the other (01, "The desk", "Bytes on the wire").
use Rattle.std.specs.Prelude.{ℕ, ◌≡◌, List, [], ◌∷◌, true, cond, length, eqb}
use Rattle.base.specs.Lists.{All}
use Rattle.used_numbers.specs.Marks.{marked, map_size}
use Rattle.ledger.specs.declared.Ledger.{Ledger}
use Rattle.ledger.specs.Sound.{sound_ledger}
use Rattle.ledger.specs.Take.{answer_of, ledger_after, map_after}
use Rattle.slot.specs.declared.Slot.{Slot}
use Rattle.desk_scan.specs.Desk.{number_at, desk_sound}
use Rattle.desk_rules.specs.Serve.{message_answer, ledger_served, map_served, desk_served}

pub record State : Type 0 where
  pub ledger : Ledger
  pub map : List ℕ
  pub desk : List Slot

-- what arrives: a message at the desk entry, or a record at the book entry
pub data Arrival : Type 0 where
  message : List ℕ → Arrival
  booked : List ℕ → Arrival

abbrev pub bytes_of : Arrival → List ℕ
bytes_of (message s) = s
bytes_of (booked s) = s

abbrev pub answer_to : State → Arrival → ℕ
answer_to st (message s) = message_answer st.ledger st.map st.desk s
answer_to st (booked s) = answer_of st.ledger st.map s

-- The book entry does not see the desk.
abbrev pub after : State → Arrival → State
after st (message s) =
    record {
      ledger = ledger_served st.ledger st.map st.desk s;
      map = map_served st.ledger st.map st.desk s;
      desk = desk_served st.ledger st.map st.desk s;
    }
after st (booked s) = record { ledger = ledger_after st.ledger st.map s; map = map_after st.ledger st.map s; desk = st.desk }

abbrev pub after_all : State → List Arrival → State
after_all st [] = st
after_all st (a ∷ as') = after_all (after st a) as'

-- those that are accepted, in their order
abbrev pub accepted_of : State → List Arrival → List Arrival
accepted_of st [] = []
accepted_of st (a ∷ as') = cond (eqb (answer_to st a) 0) (a ∷ accepted_of (after st a) as') (accepted_of (after st a) as')

-- ledger and desk are sound, and the map has its size
pub record Sound (st : State) : Type 0 where
  pub ledger : sound_ledger st.ledger ≡ true
  pub map : length st.map ≡ map_size
  pub desk : desk_sound st.desk ≡ true

-- every open number is marked in the map
abbrev pub Marked : State → Type 0
Marked st = All (λ s. (number_at s ≡ 0 → ⊥) → marked st.map (number_at s) ≡ true) st.desk
