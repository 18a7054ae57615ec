-- Inner vocabulary: what one pass over a desk gathers, slot by slot.
use Rattle.std.specs.Prelude.{ℕ, ◌+◌, List, [], ◌∷◌, Bool, true, ◌&&◌, cond, Option, Some, None, set, replicate, eqb, ltb}
use Rattle.base.specs.Lists.{place}
use Rattle.slot.specs.declared.Slot.{Slot}
use Rattle.slot.specs.Sound.{slot_sound}
use Rattle.desk_scan.specs.declared.Roll.{Roll}
use Rattle.desk_scan.specs.Desk.{slot_count, number_at, differ, number_in}

-- whether the slots so far are sound, with the numbers so far
abbrev pub roll_by : Bool → List ℕ → Roll
roll_by sound numbers = record { sound = sound; numbers = numbers }

-- before the first slot
abbrev pub no_roll : Roll
no_roll = roll_by true (replicate slot_count 0)

-- with the slot at an index
unfoldable pub rolled_slot : Roll → ℕ → Slot → Roll
rolled_slot r at s = record { sound = r.sound && slot_sound s; numbers = set r.numbers at (number_at s) }

-- with the slots that follow, the first of which stands at an index
abbrev pub rolled : Roll → ℕ → List Slot → Roll
rolled r at [] = r
rolled r at (s ∷ ss) = rolled (rolled_slot r at s) (at + 1) ss

-- the roll of a whole desk
abbrev pub roll_of : List Slot → Roll
roll_of d = rolled no_roll 0 d

-- the roll is that of a sound desk of so many slots
abbrev pub roll_sound : ℕ → Roll → Bool
roll_sound slots r = eqb slots slot_count && r.sound && differ r.numbers

-- the search in a table of 32: the place of the number, if it stands there
abbrev pub found : ℕ → List ℕ → Option ℕ
found v t = cond (ltb (place v t) slot_count) (Some (place v t)) None

-- the place of the outage that a message names
abbrev pub place_named : Roll → List ℕ → ℕ
place_named r s = place (number_in s) r.numbers
