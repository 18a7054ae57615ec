-- A number is used once: an accepted open or book event marks it, and no open and no book event of a marked number is accepted. Assumes nothing.
use Prim.Native.Nat.{ℕ, ◌≤◌}
use mathlib.Core.Path.{◌≡◌, sym, ◌∙◌, ap, subst}
use mathlib.Core.Logic.{◌≢◌, ◌⊎◌, inl, inr}
use mathlib.Core.List.{List, [], ◌∷◌}
use mathlib.Core.Bool.{Bool, true, false, cond, true≢false}
use lib.ListN.{length, get_or}
use lib.Dec.{eqb}
use native.Mathlib.Omega.{arith}
use Rattle.base.specs.Lists.{All, Bytes}
use Rattle.base.proofs.ListLaws.{all_map}
use Rattle.base.proofs.TestLaws.{Tested, holds, fails, test}
use Rattle.wire.specs.Frame.{kind_of}
use Rattle.wire.proofs.ByteLaws.{le16_below}
use Rattle.used_numbers.specs.Marks.{marked}
use Rattle.used_numbers.proofs.MarkLaws.{marked_with_same}
use Rattle.fields.specs.Fields.{head_in}
use Rattle.fields.proofs.TestLaws.{listed_number}
use Rattle.ledger.proofs.TakeLaws.{accepted_sound}
use Rattle.slot.specs.Slot.{free_slot}
use Rattle.desk_scan.specs.Desk.{slot_count, number_at, place_of, number_in}
use Rattle.desk_scan.proofs.SearchLaws.{missing, desk_slots}
use Rattle.desk_days.specs.Day.{State, Arrival, message, booked, bytes_of, answer_to, after, Sound, Marked}
use Rattle.desk_days.specs.Story.{Deed, opens, steps, closes, takes, openings, Once}
use Rattle.desk_days.specs.Late.{told, usings}
use Rattle.desk_days.proofs.AfterLaws.{IsOpened, with_opened, with_stepped, with_closed, EventTaken, telling_cases, entering_cases}
use Rattle.desk_days.proofs.SoundDay.{size_right}
use Rattle.desk_days.proofs.MarkedDay.{marks_stay, marked_at}

-- a number that can be used
abbrev pub Unused : List ℕ → ℕ → Type 0
Unused m v = (v ≡ 0 → ⊥) × (marked m v ≡ false)

unused_before : (m n : List ℕ) → ((v : ℕ) → marked m v ≡ true → marked n v ≡ true) → (v : ℕ) → Unused n v → Unused m v
unused_before m n h v (z, f) = (z, go (test (marked m v)))
  where
    go : Tested (marked m v) → marked m v ≡ false
    go (holds e) = absurd (true≢false (sym (h v e) ∙ f))
    go (fails e) = e

usings_event : (s : List ℕ) (ds : List Deed) → (kind_of s ≡ 2) ⊎ (kind_of s ≡ 3) → usings (takes s ∷ ds) ≡ (head_in s).number ∷ usings ds
usings_event s ds (inl k) = ap (λ kind. cond (eqb kind 1) (usings ds) ((head_in s).number ∷ usings ds)) k
usings_event s ds (inr k) = ap (λ kind. cond (eqb kind 1) (usings ds) ((head_in s).number ∷ usings ds)) k

usings_sheet : (s : List ℕ) (ds : List Deed) → kind_of s ≡ 1 → usings (takes s ∷ ds) ≡ usings ds
usings_sheet s ds k = ap (λ kind. cond (eqb kind 1) (usings ds) ((head_in s).number ∷ usings ds)) k

-- no number that is used was marked at the start
pub used_unmarked : (st : State) (as' : List Arrival) → All (Unused st.map) (usings (told st as'))
used_unmarked st [] = tt
used_unmarked st (message s ∷ as') =
    telling_cases st s as' (λ t ds. ((v : ℕ) → Unused t.map v → Unused st.map v) → All (Unused st.map) (usings ds))
    (λ _ _. used_unmarked st as')
    (λ _ _ o back. (
      (listed_number (head_in s) o.head_listed_lem, o.unmarked),
      all_map back (usings (told (with_opened st s) as')) (used_unmarked (with_opened st s) as'),
    ))
    (λ _ _ o _. used_unmarked (with_stepped st s) as')
    (λ _ _ o _. used_unmarked (with_closed st s) as')
    (unused_before st.map (after st (message s)).map (marks_stay st (message s)))
used_unmarked st (booked s ∷ as') =
    entering_cases st s as' (λ t ds. ((v : ℕ) → Unused t.map v → Unused st.map v) → All (Unused st.map) (usings ds))
    (λ _ _. used_unmarked st as')
    (λ _ k o back. subst (All (Unused st.map)) (sym (usings_sheet s rest k)) (all_map back (usings rest) (used_unmarked (after st (booked s)) as')))
    (λ _ k o back. subst (All (Unused st.map)) (sym (usings_event s rest k)) ((listed_number (head_in s) o.head_listed_lem, o.unmarked), all_map back (usings rest) (used_unmarked (after st (booked s)) as')))
    (unused_before st.map (after st (booked s)).map (marks_stay st (booked s)))
  where
    rest : List Deed
    rest = told (after st (booked s)) as'

-- a number that is marked is not used after that
pub not_again : (st : State) (as' : List Arrival) (v : ℕ) → marked st.map v ≡ true → All (λ w. w ≡ v → ⊥) (usings (told st as'))
not_again st as' v e =
    all_map {Q = λ w. w ≡ v → ⊥} (λ w u q. true≢false (sym e ∙ ap (marked st.map) (sym q) ∙ u.1)) (usings (told st as')) (used_unmarked st as')

-- no number is used twice by accepted opens and book events
pub used_once : (st : State) (as' : List Arrival) → All (λ a. Bytes (bytes_of a)) as' → Once (usings (told st as'))
used_once st [] b = tt
used_once st (message s ∷ as') b =
    telling_cases st s as' (λ t ds. Once (usings ds))
    (λ _. used_once st as' b.1)
    (λ _ _ o. (not_again (with_opened st s) as' (number_in s) (marks o), used_once (with_opened st s) as' b.1))
    (λ _ _ _. used_once (with_stepped st s) as' b.1)
    (λ _ _ _. used_once (with_closed st s) as' b.1)
  where
    marks : IsOpened st s → marked (with_opened st s).map (number_in s) ≡ true
    marks o =
        marked_with_same st.map (number_in s) (size_right st.ledger st.map o.ledger_sound) (le16_below s b.0 4)
        (listed_number (head_in s) o.head_listed_lem)
used_once st (booked s ∷ as') b =
    entering_cases st s as' (λ t ds. Once (usings ds))
    (λ _. used_once st as' b.1)
    (λ _ k _. subst Once (sym (usings_sheet s rest k)) (used_once (after st (booked s)) as' b.1))
    (λ a k o. subst Once (sym (usings_event s rest k)) (not_again (after st (booked s)) as' (head_in s).number (marks a o), used_once (after st (booked s)) as' b.1))
  where
    rest : List Deed
    rest = told (after st (booked s)) as'

    marks : answer_to st (booked s) ≡ 0 → EventTaken st.ledger st.map s → marked (after st (booked s)).map (head_in s).number ≡ true
    marks a o =
        ap (λ m. marked m (head_in s).number) o.map ∙
        marked_with_same st.map (head_in s).number (size_right st.ledger st.map (accepted_sound st.ledger st.map s a)) (le16_below s b.0 4)
        (listed_number (head_in s) o.head_listed_lem)

-- the opens are among them
openings_all : (P : ℕ → Type 0) (ds : List Deed) → All P (usings ds) → All P (openings ds)
openings_all P [] k = tt
openings_all P (opens h ∷ ds) k = (k.0, openings_all P ds k.1)
openings_all P (steps w st ∷ ds) k = openings_all P ds k
openings_all P (closes w ∷ ds) k = openings_all P ds k
openings_all P (takes s ∷ ds) k = openings_all P ds (go (eqb (kind_of s) 1) k)
  where
    go : (t : Bool) → All P (cond t (usings ds) ((head_in s).number ∷ usings ds)) → All P (usings ds)
    go true k = k
    go false k = k.1

openings_once : (ds : List Deed) → Once (usings ds) → Once (openings ds)
openings_once [] k = tt
openings_once (opens h ∷ ds) k = (openings_all (λ w. w ≡ h.number → ⊥) ds k.0, openings_once ds k.1)
openings_once (steps w st ∷ ds) k = openings_once ds k
openings_once (closes w ∷ ds) k = openings_once ds k
openings_once (takes s ∷ ds) k = openings_once ds (go (eqb (kind_of s) 1) k)
  where
    go : (t : Bool) → Once (cond t (usings ds) ((head_in s).number ∷ usings ds)) → Once (usings ds)
    go true k = k
    go false k = k.1

-- an open number is marked, so one that is not marked is not open
unmarked_not_open : (st : State) → Sound st → Marked st → (v : ℕ) → Unused st.map v → slot_count ≤ place_of v st.desk
unmarked_not_open st sound k v (n, u) =
    let gone : place_of v st.desk ≡ length st.desk = missing v st.desk (λ i _ q. no i q) in
    omega (arith, gone, desk_slots st.desk sound.desk)
  where
    no : (i : ℕ) → number_at (get_or st.desk i free_slot) ≢ v
    no i q =
        true≢false
        (sym (marked_at st.map st.desk k i (λ z. n (sym q ∙ z))) ∙ ap (marked st.map) q ∙ u)

-- A number has at most one accepted open in a sequence of arrivals, and none where it was marked or open at the start.
pub at_most_one_open :
    (st : State) →
    Sound st →
    Marked st →
    (as' : List Arrival) →
    All (λ a. Bytes (bytes_of a)) as' →
    Once (openings (told st as')) × All (λ v. (marked st.map v ≡ false) × (slot_count ≤ place_of v st.desk)) (openings (told st as'))
at_most_one_open st sound k as' b = (
  openings_once (told st as') (used_once st as' b),
  openings_all (λ v. (marked st.map v ≡ false) × (slot_count ≤ place_of v st.desk)) (told st as')
      (all_map (λ v u. (u.1, unmarked_not_open st sound k v u)) (usings (told st as')) (used_unmarked st as')),
)
