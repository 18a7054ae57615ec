-- *Sound stays sound*: after any message and any book record ledger, map and desk are as sound as before it. Assumes nothing.
use Prim.Native.Nat.{ℕ, ◌<◌, ◌≤◌}
use mathlib.Core.Path.{◌≡◌, refl, sym, ◌∙◌, ap, subst}
use mathlib.Core.Logic.{◌≢◌}
use mathlib.Core.List.{List, [], ◌∷◌}
use mathlib.Core.Bool.{true, false, not}
use lib.ListN.{length, get_or}
use lib.Dec.{eqb}
use native.Mathlib.Omega.{arith}
use borrow.Author.Tests.{eqb-true, eq-eqb, not-false}
use Rattle.base.proofs.TestLaws.{or_left, or_right, or_both}
use Rattle.codes.specs.Ranges.{most_customers}
use Rattle.annex.specs.Inside.{Few}
use Rattle.annex.proofs.Bounds.{minutes_most}
use Rattle.used_numbers.specs.Marks.{map_size}
use Rattle.used_numbers.proofs.MarkLaws.{marked_with_size}
use Rattle.fields.specs.Fields.{head_in}
use Rattle.fields.proofs.TestLaws.{range_few}
use Rattle.limits.proofs.LimitLaws.{in_time, within_totals}
use Rattle.ledger.specs.declared.Ledger.{Ledger}
use Rattle.ledger.specs.Sound.{sound_ledger}
use Rattle.ledger.specs.Take.{unsound}
use Rattle.ledger.proofs.LedgerLaws.{sound_range, sound_kept}
use Rattle.ledger.proofs.TakeLaws.{map_size_kept}
use Rattle.ledger.proofs.SoundLaws as ledger-laws
use Rattle.slot.specs.declared.Slot.{Slot}
use Rattle.slot.specs.Slot.{free_slot, opened_by, stepped_by}
use Rattle.slot.specs.Sound.{open_sound, slot_sound}
use Rattle.slot.proofs.SoundLaws.{free_sound, number_open}
use Rattle.desk_scan.specs.Desk.{slot_count, number_at, desk_sound, place_of, slot_of, number_in}
use Rattle.desk_scan.proofs.SearchLaws.{sound_at, desk_slots, desk_each, desk_differ, sound_set, found_number, place_held, absent_open, differ_apart}
use Rattle.wire.specs.Frame.{kind_of}
use Rattle.desk_rules.specs.Rules.{look_at, step_in}
use Rattle.desk_rules.specs.Inside.{answer_at}
use Rattle.desk_rules.specs.Serve.{message_answer}
use Rattle.desk_rules.proofs.PlanLaws.{framed_by_kind, close_fits}
use Rattle.desk_days.specs.Day.{State, Arrival, message, booked, answer_to, after, after_all, Sound}
use Rattle.desk_days.proofs.SlotLaws.{opened_sound, stepped_sound}
use Rattle.desk_days.proofs.AfterLaws.{IsOpened, IsStepped, IsClosed, with_opened, with_stepped, with_closed, message_cases}

-- where 1 does not apply, all is sound
module _ (l : Ledger) (m : List ℕ) (u : unsound l m ≡ false) where
  pub size_right : length m ≡ map_size
  size_right = eqb-true _ _ (not-false _ (or_left (not (eqb (length m) map_size)) (not (sound_ledger l)) u))

  pub ledger_right : sound_ledger l ≡ true
  ledger_right = not-false _ (or_right (not (eqb (length m) map_size)) (not (sound_ledger l)) u)

-- where ledger and map are not unsound and the desk is sound, the state is sound
pub not_unsound : (st : State) → unsound st.ledger st.map ≡ false → desk_sound st.desk ≡ true → Sound st
not_unsound st u d = record { ledger = ledger_right st.ledger st.map u; map = size_right st.ledger st.map u; desk = d }

-- and the other way round
pub sound_not_1 : (st : State) → Sound st → unsound st.ledger st.map ≡ false
sound_not_1 st sound =
    or_both (not (eqb (length st.map) map_size)) (not (sound_ledger st.ledger))
    (ap not (eq-eqb (length st.map) map_size sound.map)) (ap not sound.ledger)

-- the search on a sound desk: a place below 32 is a slot's, which holds the number; and an open slot is where its number is found
module _ (st : State) (sound : Sound st) where
  pub place_within : (v : ℕ) → place_of v st.desk < slot_count → place_of v st.desk < length st.desk
  place_within v found = subst (λ n. place_of v st.desk < n) (sym (desk_slots st.desk sound.desk)) found

  pub slot_number : (v : ℕ) → place_of v st.desk < slot_count → number_at (slot_of v st.desk) ≡ v
  slot_number v found = found_number v st.desk (place_within v found)

  pub place_open : (v i : ℕ) → number_at (get_or st.desk i free_slot) ≡ v → (v ≡ 0 → ⊥) → place_of v st.desk ≡ i
  place_open v i e n =
      ap (λ w. place_of w st.desk) (sym e) ∙ place_held st.desk (desk_differ st.desk sound.desk) i (λ z. n (sym e ∙ z))

module _ (st : State) (s : List ℕ) (sound : Sound st) where
  abbrev desk_now : List Slot
  desk_now = st.desk

  opened_stays : IsOpened st s → Sound (with_opened st s)
  opened_stays o =
      let number = number_in s in
      let slots : length desk_now ≡ slot_count = desk_slots desk_now sound.desk in
      let early : (head_in s).t0 < 527040 = omega (arith, o.timely, minutes_most st.ledger.sheet.year) in
      record {
        ledger = sound.ledger;
        map = marked_with_size st.map number ∙ sound.map;
        desk =
            sound_set desk_now (place_of 0 desk_now) (opened_by (head_in s))
            (place_within st sound 0 o.room)
            sound.desk
            (opened_sound (head_in s) o.head_listed_lem early)
            (λ j _ n. absent_open number desk_now n (subst (λ k. k ≤ place_of number desk_now) (sym slots) o.not_open_lem) j);
      }

  -- the slot that holds the number of a step or a close
  module _ (numbered : number_in s ≢ 0) (found : place_of (number_in s) desk_now < slot_count) where
    slot_numbered : number_at (slot_of (number_in s) desk_now) ≢ 0
    slot_numbered z = numbered (sym (slot_number st sound (number_in s) found) ∙ z)

    slot_sound_lem : slot_sound (slot_of (number_in s) desk_now) ≡ true
    slot_sound_lem = sound_at desk_now (desk_each desk_now sound.desk) (place_of (number_in s) desk_now)

    slot_open : open_sound (slot_of (number_in s) desk_now) ≡ true
    slot_open = number_open (slot_of (number_in s) desk_now) slot_sound_lem slot_numbered

  stepped_stays : IsStepped st s → Sound (with_stepped st s)
  stepped_stays o =
      let place = place_of (number_in s) desk_now in
      let slot = slot_of (number_in s) desk_now in
      let timely = in_time slot.last (step_in s).time o.timely in
      let few : Few most_customers (step_in s).counts =
      within_totals (range_few st.ledger.sheet (sound_range st.ledger sound.ledger o.sheet)) (step_in s).counts o.within in
      record {
        ledger = sound.ledger;
        map = sound.map;
        desk =
            sound_set desk_now place (stepped_by slot (step_in s))
            (place_within st sound (number_in s) o.found)
            sound.desk
            (stepped_sound slot (step_in s) (slot_open o.numbered o.found) timely.0 few (subst (λ n. n ≤ 64) o.ordinal o.few) timely.1 o.level)
            (λ j d n q. d (sym (differ_apart desk_now (desk_differ desk_now sound.desk) place j n (sym q))));
      }

  closed_stays : answer_to st (message s) ≡ 0 → kind_of s ≡ 18 → IsClosed st s → Sound (with_closed st s)
  unfolding message_answer
  closed_stays a k o =
      let look = look_at desk_now s in
      let judged : answer_at 18 look st.ledger st.map s ≡ 0 =
      ap (λ kind. answer_at kind look st.ledger st.map s) (sym k) ∙
      sym (framed_by_kind look 0 st.ledger st.map s (or_both (unsound st.ledger st.map) (not (desk_sound desk_now)) o.ledger_sound (ap not o.desk_sound_lem)) o.whole) ∙
      a in
      record {
        ledger = sound_kept st.ledger _ (close_fits look st.ledger st.map s (slot_sound_lem o.numbered o.found) sound.ledger judged);
        map = sound.map;
        desk =
            sound_set desk_now (place_of (number_in s) desk_now) free_slot
            (place_within st sound (number_in s) o.found)
            sound.desk free_sound (λ j d n. absurd (n refl));
      }

pub sound_stays_sound : (st : State) (a : Arrival) → Sound st → Sound (after st a)
sound_stays_sound st (message s) sound =
    message_cases st s Sound (λ _. sound) (λ _ _. opened_stays st s sound) (λ _ _. stepped_stays st s sound) (closed_stays st s sound)
sound_stays_sound st (booked s) sound =
    record {
      ledger = ledger-laws.sound_stays_sound st.ledger st.map s sound.ledger;
      map = map_size_kept st.ledger st.map s ∙ sound.map;
      desk = sound.desk;
    }

pub sound_throughout : (st : State) (as' : List Arrival) → Sound st → Sound (after_all st as')
sound_throughout st [] sound = sound
sound_throughout st (a ∷ as') sound = sound_throughout (after st a) as' (sound_stays_sound st a sound)
