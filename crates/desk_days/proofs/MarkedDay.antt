-- Every open number stays marked, at both entries, and from an empty desk it is so at any time. Assumes nothing.
use Prim.Native.Nat.{ℕ, zero, suc}
use mathlib.Core.Path.{◌≡◌, refl, ◌∙◌, ap}
use mathlib.Core.List.{List, [], ◌∷◌}
use mathlib.Core.Bool.{true}
use lib.ListN.{length, get_or, set, replicate}
use lib.Dec.{eqb}
use borrow.Author.Tests.{eqb-true, eqb-false}
use Rattle.base.specs.Lists.{All, Bytes}
use Rattle.base.proofs.ListLaws.{all_map, all_alike}
use Rattle.base.proofs.TestLaws.{Tested, holds, fails, test}
use Rattle.wire.proofs.ByteLaws.{le16_below}
use Rattle.used_numbers.specs.Marks.{marked, marked_with, map_size}
use Rattle.used_numbers.proofs.MarkLaws.{marked_with_same}
use Rattle.fields.specs.Fields.{head_in}
use Rattle.ledger.specs.declared.Ledger.{Ledger}
use Rattle.ledger.specs.Sound.{sound_ledger}
use Rattle.ledger.specs.Take.{answer_of}
use Rattle.ledger.proofs.TakeLaws.{accepted_adds, refused_hands_back}
use Rattle.slot.specs.declared.Slot.{Slot}
use Rattle.slot.specs.Slot.{free_slot, opened_by, stepped_by}
use Rattle.desk_scan.specs.Desk.{number_at, place_of, slot_of, number_in}
use Rattle.desk_scan.proofs.SearchLaws.{empty_sound}
use Rattle.desk_rules.specs.Rules.{step_in}
use Rattle.desk_days.specs.Day.{State, Arrival, message, booked, bytes_of, after, after_all, Sound, Marked}
use Rattle.desk_days.specs.Story.{empty_day}
use Rattle.desk_days.proofs.OpenMarks.{still_marked}
use Rattle.desk_days.proofs.AfterLaws.{IsOpened, IsStepped, IsClosed, with_opened, with_stepped, with_closed, message_cases}
use Rattle.desk_days.proofs.SoundDay.{sound_stays_sound, sound_throughout}

-- a marked number stays marked after an arrival, and after any sequence of them
pub marks_stay : (st : State) (a : Arrival) (v : ℕ) → marked st.map v ≡ true → marked (after st a).map v ≡ true
marks_stay st (message s) v e =
    message_cases st s (λ t. marked t.map v ≡ true) (λ _. e) (λ _ _ _. still_marked st.map (number_in s) v e) (λ _ _ _. e) (λ _ _ _. e)
marks_stay st (booked s) v e = go (test (eqb (answer_of st.ledger st.map s) 0))
  where
    go : Tested (eqb (answer_of st.ledger st.map s) 0) → marked (after st (booked s)).map v ≡ true
    go (holds a) = ap (λ m. marked m v) (accepted_adds st.ledger st.map s (eqb-true _ _ a)).1 ∙ still_marked st.map _ v e
    go (fails a) = ap (λ m. marked m v) (refused_hands_back st.ledger st.map s (eqb-false _ _ a)).1 ∙ e

pub marks_stay_throughout : (st : State) (as' : List Arrival) (v : ℕ) → marked st.map v ≡ true → marked (after_all st as').map v ≡ true
marks_stay_throughout st [] v e = e
marks_stay_throughout st (a ∷ as') v e = marks_stay_throughout (after st a) as' v (marks_stay st a v e)

-- ---- every open number

-- the slot's number is marked, where it is open
abbrev MarkedIn : List ℕ → Slot → Type 0
MarkedIn m s = (number_at s ≡ 0 → ⊥) → marked m (number_at s) ≡ true

-- where it is so of each slot of a desk, it is so at any index
pub marked_at : (m : List ℕ) (d : List Slot) → All (MarkedIn m) d → (i : ℕ) → MarkedIn m (get_or d i free_slot)
marked_at m [] k i = λ n. absurd (n refl)
marked_at m (s ∷ d) k zero = k.0
marked_at m (s ∷ d) k (suc i) = marked_at m d k.1 i

marked_set : (m : List ℕ) (d : List Slot) (i : ℕ) (a : Slot) → All (MarkedIn m) d → MarkedIn m a → All (MarkedIn m) (set d i a)
marked_set m [] i a k h = tt
marked_set m (s ∷ d) zero a k h = (h, k.1)
marked_set m (s ∷ d) (suc i) a k h = (k.0, marked_set m d i a k.1 h)

marked_more : (m n : List ℕ) (d : List Slot) → ((v : ℕ) → marked m v ≡ true → marked n v ≡ true) → All (MarkedIn m) d → All (MarkedIn n) d
marked_more m n d h k = all_map (λ s is z. h (number_at s) (is z)) d k

-- where every open number of a sound state is marked, it is so after an arrival of bytes, and after any sequence of them
pub marks_kept : (st : State) → Sound st → Marked st → (a : Arrival) → Bytes (bytes_of a) → Marked (after st a)
marks_kept st sound k (message s) b = message_cases st s Marked (λ _. k) (λ _ _. opens) (λ _ _. steps) (λ _ _. closes)
  where
    opens : IsOpened st s → Marked (with_opened st s)
    opens o =
        marked_set (marked_with st.map (number_in s)) st.desk (place_of 0 st.desk) (opened_by (head_in s))
        (marked_more st.map (marked_with st.map (number_in s)) st.desk (still_marked st.map (number_in s)) k)
        (marked_with_same st.map (number_in s) sound.map (le16_below s b 4))

    steps : IsStepped st s → Marked (with_stepped st s)
    steps o =
        marked_set st.map st.desk (place_of (number_in s) st.desk) (stepped_by (slot_of (number_in s) st.desk) (step_in s)) k
        (marked_at st.map st.desk k (place_of (number_in s) st.desk))

    closes : IsClosed st s → Marked (with_closed st s)
    closes o = marked_set st.map st.desk (place_of (number_in s) st.desk) free_slot k (λ n. absurd (n refl))
marks_kept st sound k (booked s) b = marked_more st.map (after st (booked s)).map st.desk (marks_stay st (booked s)) k

pub marked_throughout : (st : State) → Sound st → Marked st → (as' : List Arrival) → All (λ a. Bytes (bytes_of a)) as' → Marked (after_all st as')
marked_throughout st sound k [] b = k
marked_throughout st sound k (a ∷ as') b =
    marked_throughout (after st a) (sound_stays_sound st a sound) (marks_kept st sound k a b.0) as' b.1

-- ---- from an empty desk

-- free slots have no number to mark
pub marked_none : (m : List ℕ) (n : ℕ) → All (MarkedIn m) (replicate n free_slot)
marked_none m n = all_alike (MarkedIn m) n free_slot (λ z. absurd (z refl))

module _ (l : Ledger) (m : List ℕ) where
  pub empty_marked : Marked (empty_day l m)
  empty_marked = marked_none m 32

  pub empty_day_sound : sound_ledger l ≡ true → length m ≡ map_size → Sound (empty_day l m)
  empty_day_sound e n = record { ledger = e; map = n; desk = empty_sound }

  -- sound and marked at any time
  pub from_empty :
      sound_ledger l ≡ true →
      length m ≡ map_size →
      (as' : List Arrival) →
      All (λ a. Bytes (bytes_of a)) as' →
      Sound (after_all (empty_day l m) as') × Marked (after_all (empty_day l m) as')
  from_empty e n as' b =
      let sound = empty_day_sound e n in
      (sound_throughout (empty_day l m) as' sound, marked_throughout (empty_day l m) sound empty_marked as' b)
