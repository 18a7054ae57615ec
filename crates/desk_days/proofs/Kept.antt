-- What holds all day long: the complete records of the day so far, taken by a book, give the desk's ledger, and give its map but for the numbers of
-- the outages that are open; and each open slot holds what was said of its number. Each accepted arrival keeps it. Assumes nothing.
use Prim.Native.Nat.{ℕ, ◌+◌, ◌<◌, ◌≤◌}
use mathlib.Core.Path.{◌≡◌, refl, ap, ◌∙◌, sym, subst}
use mathlib.Core.Logic.{◌≢◌}
use mathlib.Core.List.{List, [], ◌∷◌, ◌++◌, append-nil}
use mathlib.Core.Bool.{true, false, ◌||◌, not, cond, true≢false}
use lib.ListN.{length, get_or, set, length-set, get_or-eq_default}
use lib.Dec.{eqb}
use native.Mathlib.Nat.{le_refl}
use Rattle.base.specs.Lists.{All}
use Rattle.base.proofs.ListLaws.{all_map, all_both, all_snoc}
use Rattle.records.proofs.TakeLaws.{take_all_append}
use Rattle.codes.specs.Ranges.{most_events}
use Rattle.annex.specs.declared.Step.{Step}
use Rattle.used_numbers.specs.Marks.{marked, marked_with, map_size}
use Rattle.used_numbers.proofs.MarkLaws.{marked_with_same, marked_with_other}
use Rattle.fields.specs.declared.Head.{Head}
use Rattle.fields.specs.declared.Sheet.{Sheet}
use Rattle.codec.specs.Fits.{StepInBytes}
use Rattle.limits.specs.Limits.{late_step, exceeding, above_level}
use Rattle.fields.proofs.TestLaws.{listed_number}
use Rattle.codes.specs.Codes.{level_of}
use Rattle.verdict.specs.Verdict.{event_verdict}
use Rattle.ledger.specs.declared.Ledger.{Ledger}
use Rattle.ledger.specs.Ledger.{added}
use Rattle.ledger.specs.Sound.{sound_ledger}
use Rattle.ledger.specs.Take.{unsound, answer_of, ledger_after, map_after}
use Rattle.book.specs.Book.{starting, take_record, take_all}
use Rattle.slot.specs.declared.Slot.{Slot}
use Rattle.slot.specs.Slot.{free_slot, opened_by, stepped_by}
use Rattle.desk_scan.specs.Desk.{slot_count, number_at, numbers_of, place_of, slot_of, differ}
use Rattle.desk_scan.proofs.SearchLaws.{set_cases, numbers_length, numbers_at, numbers_set, numbers_same, found_number, differ_apart}
use Rattle.desk_days.specs.Day.{State, booked, after}
use Rattle.desk_days.specs.Story.{Deed, opens, steps, closes, takes, SteppedEvent, event_for, about, open_deeds, openings, closings, record_of, complete_in, slot_holding, marked_all, Once}
use Rattle.desk_days.proofs.EncodeLaws.{InBytes, Passed, record_taken}
use Rattle.desk_days.proofs.StoryLaws.{once_snoc, named, named_snoc, openings_snoc, closings_append, openings_named, closings_named, Spares, with_last, event_spared, event_closed, event_stepped, event_opened, about_spared, order_opened, order_stepped, order_closed, complete_more}
use Rattle.desk_days.proofs.HoldLaws.{holding_stepped, passed_stepped}
use Rattle.desk_days.proofs.OpenMarks.{all_size, all_other, all_through, all_in, all_out, still_marked, not_before}
use Rattle.desk_days.proofs.EntryLaws.{number_marked, entry_ledger, entry_map, entry_sheet, entry_other, entry_again}

-- the slot at an index, a free one past the end
abbrev pub at : List Slot → ℕ → Slot
at d i = get_or d i free_slot

-- an open slot under a sheet and a map, of which `rest` has not marked the slot's number: it holds the event that the deeds tell
pub record Held (sheet : Sheet) (m rest : List ℕ) (ds : List Deed) (s : Slot) : Type 0 where
  pub is : s ≡ slot_holding (event_for ds (number_at s))
  pub passed : Passed sheet (event_for ds (number_at s))
  pub used : marked m (number_at s) ≡ true
  pub waits : marked rest (number_at s) ≡ false
  pub order : about (number_at s) ds ≡ open_deeds (number_at s) (event_for ds (number_at s))

-- a number that is closed: its event fits a record's bytes, and its deeds were an open, its steps and a close, in this order
pub record ToldOf (ds : List Deed) (v : ℕ) : Type 0 where
  pub in_bytes : InBytes (event_for ds v)
  pub few : length (event_for ds v).steps ≤ 64
  pub order : about v ds ≡ open_deeds v (event_for ds v) ++ closes v ∷ []

-- from a ledger and a map, with nothing open, the deeds led to a state
pub record Kept (l₀ : Ledger) (m₀ : List ℕ) (ds : List Deed) (st : State) : Type 0 where
  -- the map of the book that takes the complete records
  pub rest : List ℕ
  pub taken : take_all (starting l₀ m₀) (complete_in ds ds) ≡ record { ledger = st.ledger; map = rest; refused = 0 }
  pub same : st.map ≡ marked_all rest (numbers_of st.desk)
  pub size : length st.desk ≡ slot_count
  pub each : (i : ℕ) → number_at (at st.desk i) ≢ 0 → Held st.ledger.sheet st.map rest ds (at st.desk i)
  pub idle : (i : ℕ) → number_at (at st.desk i) ≡ 0 → at st.desk i ≡ free_slot
  -- every number that a message named is marked, and no closed one is open
  pub seen : All (λ v. marked st.map v ≡ true) (named ds)
  pub shut : All (λ v. (i : ℕ) → number_at (at st.desk i) ≢ v) (closings ds)
  pub opened_once : Once (openings ds)
  pub closed_once : Once (closings ds)
  pub told : All (ToldOf ds) (closings ds)

-- one is marked and the other not
other_number : (m : List ℕ) (v w : ℕ) → marked m v ≡ true → marked m w ≡ false → w ≢ v
other_number m v w a b e = true≢false (sym a ∙ ap (marked m) (sym e) ∙ b)

-- a slot that the deed spares
held_on_lem :
    (sheet sheet' : Sheet) (m rest m' rest' : List ℕ) (ds : List Deed) (d : Deed) (s : Slot) →
    Held sheet m rest ds s →
    Spares (number_at s) d →
    sheet ≡ sheet' →
    marked m' (number_at s) ≡ true →
    marked rest' (number_at s) ≡ false →
    Held sheet' m' rest' (ds ++ d ∷ []) s
held_on_lem sheet sheet' m rest m' rest' ds d s k n q u w =
    let e : event_for (ds ++ d ∷ []) (number_at s) ≡ event_for ds (number_at s) = event_spared (number_at s) ds d n in
    record {
      is = k.is ∙ ap slot_holding (sym e);
      passed = subst (λ (x : Sheet). Passed x (event_for (ds ++ d ∷ []) (number_at s))) q (subst (Passed sheet) (sym e) k.passed);
      used = u;
      waits = w;
      order = about_spared (number_at s) ds d n ∙ k.order ∙ ap (open_deeds (number_at s)) (sym e);
    }

-- a closed number that the deed spares
told_on : (ds : List Deed) (d : Deed) (v : ℕ) → Spares v d → ToldOf ds v → ToldOf (ds ++ d ∷ []) v
told_on ds d v n k =
    let e : event_for (ds ++ d ∷ []) v ≡ event_for ds v = event_spared v ds d n in
    record {
      in_bytes = subst InBytes (sym e) k.in_bytes;
      few = subst (λ (x : SteppedEvent). length x.steps ≤ 64) (sym e) k.few;
      order = about_spared v ds d n ∙ k.order ∙ ap (λ (x : SteppedEvent). open_deeds v x ++ closes v ∷ []) (sym e);
    }

module _ (l₀ : Ledger) (m₀ : List ℕ) (ds : List Deed) (st : State) (k : Kept l₀ m₀ ds st) where
  -- an index below the number of slots
  within : (i : ℕ) → i < slot_count → i < length st.desk
  within i l = subst (λ n. i < n) (sym k.size) l

  in_numbers : (i : ℕ) → i < slot_count → i < length (numbers_of st.desk)
  in_numbers i l = subst (λ n. i < n) (sym (numbers_length st.desk)) (within i l)

  closed_marked : All (λ v. marked st.map v ≡ true) (closings ds)
  closed_marked = closings_named (λ v. marked st.map v ≡ true) ds k.seen

  -- the map that the book has is of the same size
  rest_size : length k.rest ≡ length st.map
  rest_size = sym (ap length k.same ∙ all_size k.rest (numbers_of st.desk))

  -- an open
  module _ (h : Head) (room : place_of 0 st.desk < slot_count) (size : length st.map ≡ map_size) (new : marked st.map h.number ≡ false)
      (p : Passed st.ledger.sheet (record { head = h; steps = [] })) where
    abbrev opened : State
    opened = record { ledger = st.ledger; map = marked_with st.map h.number; desk = set st.desk (place_of 0 st.desk) (opened_by h) }

    -- what is kept is kept of the opened state, with the open as the last deed
    pub open_next : Kept l₀ m₀ (ds ++ opens h ∷ []) opened
    open_next =
        record {
          rest = k.rest;
          taken = ap (take_all (starting l₀ m₀)) records ∙ k.taken;
          same =
              ap (λ (m : List ℕ). marked_with m n) k.same ∙
              sym
              (all_in k.rest (numbers_of st.desk) i n (in_numbers i room)
              (numbers_at st.desk i ∙ found_number 0 st.desk (within i room))) ∙
              ap (marked_all k.rest) (sym (numbers_set st.desk i (opened_by h)));
          size = length-set st.desk i (opened_by h) ∙ k.size;
          each =
              λ j.
              set_cases (λ x. number_at x ≢ 0 → Held sheet (marked_with st.map n) k.rest (ds ++ d ∷ []) x) st.desk i j (opened_by h) free_slot (within i room)
              (λ _ _. begun)
              (λ _ z.
              let held = k.each j z in
              let other : n ≢ number_at (at st.desk j) = other_number st.map (number_at (at st.desk j)) n held.used new in
              held_on_lem sheet sheet st.map k.rest (marked_with st.map n) k.rest ds d (at st.desk j) held other refl
              (marked_with_other st.map n (number_at (at st.desk j)) other ∙ held.used) held.waits);
          idle =
              λ j.
              set_cases (λ x. number_at x ≡ 0 → x ≡ free_slot) st.desk i j (opened_by h) free_slot (within i room)
              (λ _ z. absurd (nonzero z))
              (λ _. k.idle j);
          seen =
              subst (All (λ v. marked (marked_with st.map n) v ≡ true)) (sym (named_snoc ds d))
              (all_snoc (λ v. marked (marked_with st.map n) v ≡ true) (named ds) n
              (all_map (λ v a. marked_with_other st.map n v (other_number st.map v n a new) ∙ a) (named ds) k.seen)
              marked_now);
          shut =
              subst (All (λ v. (j : ℕ) → number_at (at (set st.desk i (opened_by h)) j) ≢ v)) (sym no_close)
              (all_both
              (λ v a f j.
              set_cases (λ x. number_at x ≢ v) st.desk i j (opened_by h) free_slot (within i room) (λ _. other_number st.map v n a new) (λ _. f j))
              (closings ds) closed_marked k.shut);
          opened_once =
              subst Once (sym (openings_snoc ds d))
              (once_snoc (openings ds) n k.opened_once
              (all_map (λ v a. other_number st.map v n a new) (openings ds) (openings_named (λ v. marked st.map v ≡ true) ds k.seen)));
          closed_once = subst Once (sym no_close) k.closed_once;
          told = subst (All (ToldOf (ds ++ d ∷ []))) (sym no_close) (all_both (told_on ds d) (closings ds) others k.told);
        }
      where
        n : ℕ
        n = h.number

        i : ℕ
        i = place_of 0 st.desk

        d : Deed
        d = opens h

        sheet : Sheet
        sheet = st.ledger.sheet

        nonzero : n ≢ 0
        nonzero = listed_number h p.head_listed_lem

        others : All (λ v. Spares v d) (closings ds)
        others = all_map (λ v a. other_number st.map v n a new) (closings ds) closed_marked

        records : complete_in (ds ++ d ∷ []) (ds ++ d ∷ []) ≡ complete_in ds ds
        records = complete_more ds d others ∙ append-nil (complete_in ds ds)

        no_close : closings (ds ++ d ∷ []) ≡ closings ds
        no_close = closings_append ds (d ∷ []) ∙ append-nil (closings ds)

        marked_now : marked (marked_with st.map n) n ≡ true
        marked_now = marked_with_same st.map n size p.in_bytes.head.number nonzero

        elsewhere : (j : ℕ) → number_at (at st.desk j) ≢ n
        elsewhere j e = other_number st.map (number_at (at st.desk j)) n (k.each j (λ z. nonzero (sym e ∙ z))).used new (sym e)

        fresh : All (λ v. v ≢ n) (named ds)
        fresh = all_map (λ v a e. other_number st.map v n a new (sym e)) (named ds) k.seen

        event : event_for (ds ++ d ∷ []) n ≡ record { head = h; steps = [] }
        event = event_opened h ds fresh

        begun : Held sheet (marked_with st.map n) k.rest (ds ++ d ∷ []) (opened_by h)
        begun =
            record {
              is = ap slot_holding (sym event);
              passed = subst (Passed sheet) (sym event) p;
              used = marked_now;
              waits =
                  sym (all_other k.rest (numbers_of st.desk) n (λ j e. elsewhere j (sym (numbers_at st.desk j) ∙ e))) ∙
                  ap (λ (m : List ℕ). marked m n) (sym k.same) ∙
                  new;
              order = order_opened h ds fresh ∙ ap (open_deeds n) (sym event);
            }

  -- a step or a close of an outage that is open
  module _ (n : ℕ) (nonzero : n ≢ 0) (found : place_of n st.desk < slot_count) (apart : differ (numbers_of st.desk) ≡ true) where
    number : number_at (slot_of n st.desk) ≡ n
    number = found_number n st.desk (within (place_of n st.desk) found)

    holds_it : Held st.ledger.sheet st.map k.rest ds (slot_of n st.desk)
    holds_it = k.each (place_of n st.desk) (λ z. nonzero (sym number ∙ z))

    -- no other slot has the number
    elsewhere : (j : ℕ) → j ≢ place_of n st.desk → n ≢ number_at (at st.desk j)
    elsewhere j o e = o (differ_apart st.desk apart j (place_of n st.desk) (λ z. nonzero (e ∙ z)) (sym e ∙ sym number))

    -- and it is no closed one
    not_closed : All (λ v. n ≢ v) (closings ds)
    not_closed = all_map (λ v f e. f (place_of n st.desk) (number ∙ e)) (closings ds) k.shut

    -- a step
    module _ (sp : Step) (few : (slot_of n st.desk).steps + 1 ≤ 64) (late : late_step (slot_of n st.desk).last sp.time ≡ false)
        (over : exceeding st.ledger.sheet.totals sp.counts ≡ false)
        (high : above_level (level_of (slot_of n st.desk).head.voltage) sp.counts ≡ false) (fits : StepInBytes sp) where
      abbrev stepped : State
      stepped = record { ledger = st.ledger; map = st.map; desk = set st.desk (place_of n st.desk) (stepped_by (slot_of n st.desk) sp) }

      -- so it is of the stepped state, with the step as the last deed
      pub step_next : Kept l₀ m₀ (ds ++ steps n sp ∷ []) stepped
      step_next =
          record {
            rest = k.rest;
            taken = ap (take_all (starting l₀ m₀)) records ∙ k.taken;
            same = k.same ∙ ap (marked_all k.rest) (sym numbers_stay);
            size = length-set st.desk i o ∙ k.size;
            each =
                λ j.
                set_cases (λ x. number_at x ≢ 0 → Held sheet st.map k.rest (ds ++ d ∷ []) x) st.desk i j o free_slot (within i found)
                (λ _ _. goes_on)
                (λ q z.
                let held = k.each j z in
                held_on_lem sheet sheet st.map k.rest st.map k.rest ds d (at st.desk j) held (elsewhere j q) refl held.used held.waits);
            idle =
                λ j.
                set_cases (λ x. number_at x ≡ 0 → x ≡ free_slot) st.desk i j o free_slot (within i found)
                (λ _ z. absurd (nonzero (sym number ∙ z)))
                (λ _. k.idle j);
            seen =
                subst (All (λ v. marked st.map v ≡ true)) (sym (named_snoc ds d))
                (all_snoc (λ v. marked st.map v ≡ true) (named ds) n k.seen (subst (λ v. marked st.map v ≡ true) number holds_it.used));
            shut =
                subst (All (λ v. (j : ℕ) → number_at (at (set st.desk i o) j) ≢ v)) (sym no_close)
                (all_map (λ v f j e. f j (sym (stays j) ∙ e)) (closings ds) k.shut);
            opened_once = subst Once (sym (openings_snoc ds d ∙ append-nil (openings ds))) k.opened_once;
            closed_once = subst Once (sym no_close) k.closed_once;
            told = subst (All (ToldOf (ds ++ d ∷ []))) (sym no_close) (all_both (told_on ds d) (closings ds) not_closed k.told);
          }
        where
          i : ℕ
          i = place_of n st.desk

          x : Slot
          x = slot_of n st.desk

          o : Slot
          o = stepped_by x sp

          d : Deed
          d = steps n sp

          sheet : Sheet
          sheet = st.ledger.sheet

          numbers_stay : numbers_of (set st.desk i o) ≡ numbers_of st.desk
          numbers_stay = numbers_same st.desk i o refl

          stays : (j : ℕ) → number_at (at (set st.desk i o) j) ≡ number_at (at st.desk j)
          stays j = sym (numbers_at (set st.desk i o) j) ∙ ap (λ (vs : List ℕ). get_or vs j 0) numbers_stay ∙ numbers_at st.desk j

          records : complete_in (ds ++ d ∷ []) (ds ++ d ∷ []) ≡ complete_in ds ds
          records = complete_more ds d not_closed ∙ append-nil (complete_in ds ds)

          no_close : closings (ds ++ d ∷ []) ≡ closings ds
          no_close = closings_append ds (d ∷ []) ∙ append-nil (closings ds)

          event : event_for (ds ++ d ∷ []) (number_at x) ≡ with_last (event_for ds (number_at x)) sp
          event =
              subst (λ v. event_for (ds ++ steps v sp ∷ []) (number_at x) ≡ with_last (event_for ds (number_at x)) sp) number
              (event_stepped (number_at x) ds sp)

          goes_on : Held sheet st.map k.rest (ds ++ d ∷ []) o
          goes_on =
              let is : x ≡ slot_holding (event_for ds (number_at x)) = holds_it.is in
              record {
                is = ap (λ (y : Slot). stepped_by y sp) is ∙ holding_stepped (event_for ds (number_at x)) sp ∙ ap slot_holding (sym event);
                passed =
                    subst (Passed sheet) (sym event)
                    (passed_stepped (event_for ds (number_at x)) sp sheet holds_it.passed
                    (subst (λ (y : Slot). late_step y.last sp.time ≡ false) is late)
                    over
                    (subst (λ (y : Slot). above_level (level_of y.head.voltage) sp.counts ≡ false) is high)
                    (subst (λ (y : Slot). y.steps + 1 ≤ 64) is few)
                    fits);
                used = holds_it.used;
                waits = holds_it.waits;
                order =
                    subst (λ v. about (number_at x) (ds ++ steps v sp ∷ []) ≡ open_deeds (number_at x) (with_last (event_for ds (number_at x)) sp)) number
                    (order_stepped (number_at x) ds (event_for ds (number_at x)) sp holds_it.order) ∙
                    ap (open_deeds (number_at x)) (sym event);
              }

    -- a close
    module _ (sound : unsound st.ledger st.map ≡ false) (some : (slot_of n st.desk).steps ≢ 0) (room : st.ledger.events < most_events) where
      abbrev closed : State
      closed =
          record {
            ledger =
                added st.ledger
                (event_verdict st.ledger.sheet (slot_of n st.desk).head (slot_of n st.desk).last (slot_of n st.desk).figures);
            map = st.map;
            desk = set st.desk (place_of n st.desk) free_slot;
          }

      -- so it is of the closed state, with the close as the last deed
      pub close_next : Kept l₀ m₀ (ds ++ closes n ∷ []) closed
      unfolding added event_verdict
      close_next =
          record {
            rest = marked_with k.rest n;
            taken =
                ap (take_all (starting l₀ m₀)) records ∙
                take_all_append take_record (starting l₀ m₀) (complete_in ds ds) (record_of e ∷ []) ∙
                ap (λ b. take_record b (record_of e)) k.taken ∙
                replayed;
            same =
                k.same ∙
                sym (all_out k.rest (numbers_of st.desk) i n (in_numbers i found) (numbers_at st.desk i ∙ number)) ∙
                ap (marked_all (marked_with k.rest n)) (sym (numbers_set st.desk i free_slot));
            size = length-set st.desk i free_slot ∙ k.size;
            each =
                λ j.
                set_cases (λ y. number_at y ≢ 0 → Held sheet st.map (marked_with k.rest n) (ds ++ d ∷ []) y)
                st.desk i j free_slot free_slot (within i found)
                (λ _ z. absurd (z refl))
                (λ q z.
                let held = k.each j z in
                held_on_lem sheet sheet st.map k.rest st.map (marked_with k.rest n) ds d (at st.desk j) held (elsewhere j q) refl held.used
                (marked_with_other k.rest n (number_at (at st.desk j)) (elsewhere j q) ∙ held.waits));
            idle =
                λ j.
                set_cases (λ y. number_at y ≡ 0 → y ≡ free_slot) st.desk i j free_slot free_slot (within i found)
                (λ _ _. refl)
                (λ _. k.idle j);
            seen =
                subst (All (λ v. marked st.map v ≡ true)) (sym (named_snoc ds d))
                (all_snoc (λ v. marked st.map v ≡ true) (named ds) n k.seen (subst (λ v. marked st.map v ≡ true) number holds_it.used));
            shut =
                subst (All (λ v. (j : ℕ) → number_at (at (set st.desk i free_slot) j) ≢ v)) (sym (closings_append ds (d ∷ [])))
                (all_snoc (λ v. (j : ℕ) → number_at (at (set st.desk i free_slot) j) ≢ v) (closings ds) n
                (all_map
                (λ v f j.
                set_cases (λ y. number_at y ≢ v) st.desk i j free_slot free_slot (within i found)
                (λ _ q. f (length st.desk) (past ∙ q))
                (λ _. f j))
                (closings ds) k.shut)
                (λ j.
                set_cases (λ y. number_at y ≢ n) st.desk i j free_slot free_slot (within i found)
                (λ _ q. nonzero (sym q))
                (λ q r. elsewhere j q (sym r))));
            opened_once = subst Once (sym (openings_snoc ds d ∙ append-nil (openings ds))) k.opened_once;
            closed_once = subst Once (sym (closings_append ds (d ∷ []))) (once_snoc (closings ds) n k.closed_once not_closed);
            told =
                subst (All (ToldOf (ds ++ d ∷ []))) (sym (closings_append ds (d ∷ [])))
                (all_snoc (ToldOf (ds ++ d ∷ [])) (closings ds) n (all_both (told_on ds d) (closings ds) not_closed k.told) told_now);
          }
        where
          i : ℕ
          i = place_of n st.desk

          x : Slot
          x = slot_of n st.desk

          d : Deed
          d = closes n

          sheet : Sheet
          sheet = st.ledger.sheet

          e : SteppedEvent
          e = event_for ds n

          is : x ≡ slot_holding (event_for ds n)
          is = holds_it.is ∙ ap (λ v. slot_holding (event_for ds v)) number

          passed : Passed sheet (event_for ds n)
          passed = subst (λ v. Passed sheet (event_for ds v)) number holds_it.passed

          event : event_for (ds ++ d ∷ []) n ≡ event_for ds n
          event = event_closed n n ds

          told_now : ToldOf (ds ++ d ∷ []) n
          told_now =
              record {
                in_bytes = subst InBytes (sym event) passed.in_bytes;
                few = subst (λ (y : SteppedEvent). length y.steps ≤ 64) (sym event) passed.few;
                order =
                    order_closed n ds (event_for ds n) (subst (λ v. about v ds ≡ open_deeds v (event_for ds v)) number holds_it.order) ∙
                    ap (λ (y : SteppedEvent). open_deeds n y ++ closes n ∷ []) (sym event);
              }

          head_number : (event_for ds n).head.number ≡ n
          head_number = sym (ap number_at is) ∙ number

          records : complete_in (ds ++ d ∷ []) (ds ++ d ∷ []) ≡ complete_in ds ds ++ record_of (event_for ds n) ∷ []
          records =
              complete_more ds d not_closed ∙ ap (λ (y : SteppedEvent). complete_in ds ds ++ record_of y ∷ []) event

          past : number_at (at st.desk (length st.desk)) ≡ 0
          past = ap number_at (get_or-eq_default st.desk free_slot (le_refl (length st.desk)))

          replayed :
              take_record (record { ledger = st.ledger; map = k.rest; refused = 0 }) (record_of (event_for ds n)) ≡
              record { ledger = closed.ledger; map = marked_with k.rest n; refused = 0 }
          replayed =
              record_taken st.ledger k.rest (event_for ds n) passed
              (ap (λ (z : ℕ). not (eqb z map_size) || not (sound_ledger st.ledger)) rest_size ∙ sound)
              (λ z. some (ap (λ (y : Slot). y.steps) is ∙ z))
              (subst (λ v. marked k.rest v ≡ false) (number ∙ sym head_number) holds_it.waits)
              room ∙
              (λ t.
              record {
                ledger = added st.ledger (event_verdict sheet (sym is t).head (sym is t).last (sym is t).figures);
                map = marked_with k.rest (head_number t);
                refused = 0;
              })

  -- a record at the book entry
  module _ (s : List ℕ) (a : answer_of st.ledger st.map s ≡ 0) where
    -- so it is of the state after an accepted record, with the record as the last deed
    pub entry_next : Kept l₀ m₀ (ds ++ takes s ∷ []) (after st (booked s))
    unfolding take_record
    entry_next =
        record {
          rest = marked_with k.rest n;
          taken =
              ap (take_all (starting l₀ m₀)) records ∙
              take_all_append take_record (starting l₀ m₀) (complete_in ds ds) (s ∷ []) ∙
              ap (λ b. take_record b s) k.taken ∙
              replayed;
          same =
              entry_map st.ledger st.map s a ∙
              ap (λ (m : List ℕ). marked_with m n) k.same ∙ sym (all_through k.rest (numbers_of st.desk) n);
          size = k.size;
          each =
              λ i z.
              let held = k.each i z in
              let other : n ≢ number_at (at st.desk i) = entry_other st.ledger st.map s a (number_at (at st.desk i)) z held.used in
              let stays : (ledger_after st.ledger st.map s).sheet ≡ st.ledger.sheet =
              ap (λ (l : Ledger). l.sheet) (entry_ledger st.ledger st.map s a) ∙
              entry_sheet st.ledger st.map s a held.passed.there in
              held_on_lem st.ledger.sheet (ledger_after st.ledger st.map s).sheet st.map k.rest (map_after st.ledger st.map s)
              (marked_with k.rest n) ds (takes s) (at st.desk i) held tt (sym stays)
              (still (number_at (at st.desk i)) held.used)
              (marked_with_other k.rest n (number_at (at st.desk i)) other ∙ held.waits);
          idle = k.idle;
          seen =
              subst (All (λ v. marked (map_after st.ledger st.map s) v ≡ true)) (sym (named_snoc ds (takes s) ∙ append-nil (named ds)))
              (all_map still (named ds) k.seen);
          shut = subst (All (λ v. (i : ℕ) → number_at (at st.desk i) ≢ v)) (sym no_close) k.shut;
          opened_once = subst Once (sym (openings_snoc ds (takes s) ∙ append-nil (openings ds))) k.opened_once;
          closed_once = subst Once (sym no_close) k.closed_once;
          told = subst (All (ToldOf (ds ++ takes s ∷ []))) (sym no_close) (all_map (λ v t. told_on ds (takes s) v tt t) (closings ds) k.told);
        }
      where
        n : ℕ
        n = number_marked s

        records : complete_in (ds ++ takes s ∷ []) (ds ++ takes s ∷ []) ≡ complete_in ds ds ++ s ∷ []
        records = complete_more ds (takes s) (all_map (λ v _. tt) (closings ds) closed_marked)

        no_close : closings (ds ++ takes s ∷ []) ≡ closings ds
        no_close = closings_append ds (takes s ∷ []) ∙ append-nil (closings ds)

        still : (v : ℕ) → marked st.map v ≡ true → marked (map_after st.ledger st.map s) v ≡ true
        still v e = ap (λ (m : List ℕ). marked m v) (entry_map st.ledger st.map s a) ∙ still_marked st.map n v e

        again : answer_of st.ledger k.rest s ≡ 0
        again =
            entry_again st.ledger st.map s a k.rest rest_size
            (λ w e. not_before k.rest (numbers_of st.desk) w (ap (λ (m : List ℕ). marked m w) (sym k.same) ∙ e))

        replayed :
            take_record (record { ledger = st.ledger; map = k.rest; refused = 0 }) s ≡
            record { ledger = ledger_after st.ledger st.map s; map = marked_with k.rest n; refused = 0 }
        replayed =
            λ t.
            record {
              ledger = (entry_ledger st.ledger k.rest s again ∙ sym (entry_ledger st.ledger st.map s a)) t;
              map = entry_map st.ledger k.rest s again t;
              refused = 0 + cond (eqb (again t) 0) 0 1;
            }
