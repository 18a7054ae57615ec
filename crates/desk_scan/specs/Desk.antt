-- The desk: "a lent table of 32 outage slots" (01, "The desk"), its soundness, and the search for a number.
use Rattle.std.specs.Prelude.{ℕ, List, [], ◌∷◌, map, Bool, true, ◌&&◌, ◌||◌, not, length, get_or, replicate, eqb}
use Rattle.base.specs.Lists.{every, listed, place}
use Rattle.wire.specs.Numbers.{le16}
use Rattle.slot.specs.declared.Slot.{Slot}
use Rattle.slot.specs.Slot.{free_slot}
use Rattle.slot.specs.Sound.{slot_sound}

-- how many slots a desk has
abbrev pub slot_count : ℕ
slot_count = 32

abbrev pub empty_desk : List Slot
empty_desk = replicate slot_count free_slot

abbrev pub number_at : Slot → ℕ
number_at s = s.head.number

-- the number in each slot, 0 in a free one
abbrev pub numbers_of : List Slot → List ℕ
numbers_of d = map number_at d

-- "open numbers differ"
abbrev pub differ : List ℕ → Bool
differ [] = true
differ (v ∷ vs) = (eqb v 0 || not (listed v vs)) && differ vs

-- not "desk not 32 slots or unsound"
unfoldable pub desk_sound : List Slot → Bool
desk_sound d = eqb (length d) slot_count && every slot_sound d && differ (numbers_of d)

-- the search: how many slots it passes before the first that holds the number, which is that slot's index; all of them where none holds it.
-- The free slot of lowest index is where 0 is found.
abbrev pub place_of : ℕ → List Slot → ℕ
place_of v d = place v (numbers_of d)

-- the slot that holds the number, zeros only where none does
abbrev pub slot_of : ℕ → List Slot → Slot
slot_of v d = get_or d (place_of v d) free_slot

-- kinds 16, 17 and 18: "number 2, .."
abbrev pub number_in : List ℕ → ℕ
number_in s = le16 s 4
