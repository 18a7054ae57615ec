-- What a pass over a desk gathers: one turn of it, its end, and what a whole pass gives. Assumes nothing.
use Prim.Native.Nat.{ℕ, ◌+◌, ◌≤◌, ◌<◌}
use mathlib.Core.Path.{◌≡◌, refl, sym, ◌∙◌, ap, subst}
use mathlib.Core.List.{List, [], ◌∷◌, ◌++◌, append-nil}
use mathlib.Core.Bool.{Bool, true, false, ◌&&◌, and_assoc, and-true}
use lib.ListN.{length, get_or, set, take, drop, replicate, drop_of_length-le}
use lib.Seq.{drop-cons, sets, sets-eq, length-sets}
use lib.Dec.{eqb}
use native.Mathlib.Omega.{arith}
use native.Mathlib.Numerals.{add-one}
use borrow.Author.Tests.{eqb-true}
use Rattle.base.specs.Lists.{every, place}
use Rattle.slot.specs.declared.Slot.{Slot}
use Rattle.slot.specs.Slot.{free_slot}
use Rattle.slot.specs.Sound.{slot_sound}
use Rattle.desk_scan.specs.declared.Roll.{Roll}
use Rattle.desk_scan.specs.Desk.{slot_count, number_at, numbers_of, differ, desk_sound, place_of, number_in}
use Rattle.desk_scan.specs.Inside.{no_roll, rolled_slot, rolled, roll_of, roll_sound, place_named}
use Rattle.desk_scan.proofs.SearchLaws.{numbers_length}

-- a turn leaves what the whole pass gives as it is
pub turned : (r : Roll) (i : ℕ) (d : List Slot) → i < length d → rolled r i (drop i d) ≡ rolled (rolled_slot r i (get_or d i free_slot)) (i + 1) (drop (i + 1) d)
turned r i d l =
    ap (rolled r i) (drop-cons d i free_slot l) ∙
    ap (λ j. rolled (rolled_slot r i (get_or d i free_slot)) (i + 1) (drop j d)) (sym (add-one i))

-- past the last slot nothing is added
pub at_end : (r : Roll) (i : ℕ) (d : List Slot) → length d ≤ i → rolled r i (drop i d) ≡ r
at_end r i d l = ap (rolled r i) (drop_of_length-le d l)

-- what a pass over some slots adds: their soundness, and their numbers from an index on
pub rolled_sound : (r : Roll) (at : ℕ) (ss : List Slot) → (rolled r at ss).sound ≡ (r.sound && every slot_sound ss)
unfolding rolled_slot
rolled_sound r at [] = sym (and-true r.sound)
rolled_sound r at (s ∷ ss) = rolled_sound (rolled_slot r at s) (at + 1) ss ∙ and_assoc r.sound (slot_sound s) (every slot_sound ss)

pub rolled_numbers : (r : Roll) (at : ℕ) (ss : List Slot) → (rolled r at ss).numbers ≡ sets r.numbers at (numbers_of ss)
unfolding rolled_slot
rolled_numbers r at [] = refl
rolled_numbers r at (s ∷ ss) =
    rolled_numbers (rolled_slot r at s) (at + 1) ss ∙ ap (λ k. sets (set r.numbers at (number_at s)) k (numbers_of ss)) (add-one at)

-- what was written before stays, what follows is yet as it was
pub rolled_prefix : (r : Roll) (at : ℕ) (ss : List Slot) → at + length ss ≤ length r.numbers → (rolled r at ss).numbers ≡ take at r.numbers ++ numbers_of ss ++ drop (at + length ss) r.numbers
rolled_prefix r at ss l =
    rolled_numbers r at ss ∙
    sets-eq (numbers_of ss) r.numbers at (subst (λ k. at + k ≤ length r.numbers) (sym (numbers_length ss)) l) ∙
    ap (λ k. take at r.numbers ++ numbers_of ss ++ drop (at + k) r.numbers) (numbers_length ss)

-- as many numbers as before
pub rolled_count : (r : Roll) (at : ℕ) (ss : List Slot) → length (rolled r at ss).numbers ≡ length r.numbers
rolled_count r at ss = ap length (rolled_numbers r at ss) ∙ length-sets r.numbers at (numbers_of ss)

-- a whole pass
pub roll_sound_lem : (d : List Slot) → (roll_of d).sound ≡ every slot_sound d
roll_sound_lem d = rolled_sound no_roll 0 d

pub roll_count : (d : List Slot) → length (roll_of d).numbers ≡ slot_count
roll_count d = rolled_count no_roll 0 d

pub roll_numbers : (d : List Slot) → length d ≡ slot_count → (roll_of d).numbers ≡ numbers_of d
roll_numbers d e =
    rolled_prefix no_roll 0 d (omega arith) ∙
    ap (λ k. numbers_of d ++ drop (0 + k) (replicate slot_count 0)) e ∙
    append-nil (numbers_of d)

-- the roll is sound exactly where the desk is
pub roll_is : (d : List Slot) → roll_sound (length d) (roll_of d) ≡ desk_sound d
unfolding desk_sound
roll_is d = go (eqb (length d) slot_count) refl
  where
    go : (t : Bool) → eqb (length d) slot_count ≡ t → (t && (roll_of d).sound && differ (roll_of d).numbers) ≡ (t && every slot_sound d && differ (numbers_of d))
    go true e = λ i. roll_sound_lem d i && differ (roll_numbers d (eqb-true (length d) slot_count e) i)
    go false e = refl

-- the place of the outage that a message names, and the free slot of lowest index
pub place_named_lem : (d : List Slot) (s : List ℕ) → length d ≡ slot_count → place_named (roll_of d) s ≡ place_of (number_in s) d
place_named_lem d s e = ap (place (number_in s)) (roll_numbers d e)

pub place_free : (d : List Slot) → length d ≡ slot_count → place 0 (roll_of d).numbers ≡ place_of 0 d
place_free d e = ap (place 0) (roll_numbers d e)
