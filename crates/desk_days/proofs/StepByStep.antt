-- Step by step equals complete: after any arrivals at an empty desk, a book that takes the complete records of the day has the desk's ledger and,
-- but for the outages that are open, its map. What holds all day long holds at the end. Assumes nothing.
use Prim.Native.Nat.{ℕ, suc, ◌≤◌}
use mathlib.Core.Path.{◌≡◌, refl, ap, ◌∙◌, sym, subst}
use mathlib.Core.Logic.{◌⊎◌, inl, inr}
use mathlib.Core.List.{List, [], ◌∷◌, ◌++◌, map, append-nil, append_assoc}
use mathlib.Core.Bool.{Bool, true, false, not, cond}
use lib.ListN.{length, replicate}
use lib.Dec.{eqb}
use native.Mathlib.Omega.{arith}
use borrow.Author.Tests.{eqb-true, eqb-false, not-false}
use Rattle.base.specs.Lists.{All, Bytes}
use Rattle.base.proofs.ListLaws.{all_map, all_of_map, all_alike, alike_at}
use Rattle.base.proofs.TestLaws.{or_left}
use Rattle.wire.specs.Frame.{kind_of}
use Rattle.wire.specs.declared.Place.{Place}
use Rattle.wire.specs.Book.{which_of}
use Rattle.wire.specs.Cut.{records_of, joined}
use Rattle.wire.proofs.CutLaws.{Framed, cut_joined, joined_ends}
use Rattle.used_numbers.specs.Marks.{map_size}
use Rattle.fields.specs.Fields.{head_in}
use Rattle.codec.proofs.EncodeLaws.{head_in_bytes, step_in_bytes}
use Rattle.codec.proofs.DecodeLaws.{stepped_bytes_lem, stepped_framed}
use Rattle.ledger.specs.declared.Ledger.{Ledger}
use Rattle.ledger.specs.Sound.{sound_ledger}
use Rattle.book.specs.Book as book
use Rattle.records.specs.Records.{is_broken}
use Rattle.book.specs.Book.{starting, take_all, after_book}
use Rattle.slot.specs.declared.Slot.{Slot}
use Rattle.slot.specs.Slot.{free_slot}
use Rattle.desk_scan.specs.Desk.{slot_count, empty_desk, number_at, numbers_of, number_in}
use Rattle.desk_scan.proofs.SearchLaws.{desk_differ}
use Rattle.desk_rules.specs.Rules.{step_in}
use Rattle.desk_rules.specs.Serve.{message_answer}
use Rattle.desk_rules.proofs.MessageLaws.{open_right, step_right, close_right, accepted_kind}
use Rattle.desk_days.specs.Day.{State, Arrival, message, booked, bytes_of, answer_to, after, after_all, accepted_of}
use Rattle.desk_days.specs.Story.{Deed, opens, steps, closes, takes, message_in, deed_of, stepped_event_in, event_for, about, open_deeds, openings, closings, record_of, closed_records, complete_in, complete_records, marked_all, empty_day, NothingOpen, Once, head_for, steps_for}
use Rattle.desk_days.proofs.EncodeLaws.{Passed, read_back}
use Rattle.desk_days.proofs.OpenMarks.{all_none}
use Rattle.desk_days.proofs.AfterLaws.{refused_after, after_opened, after_stepped, after_closed}
use Rattle.desk_days.proofs.Kept.{at, ToldOf, Kept, open_next, step_next, close_next, entry_next}

module _ (l₀ : Ledger) (m₀ : List ℕ) where
  -- a message, by its kind
  module _ (ds : List Deed) (st : State) (k : Kept l₀ m₀ ds st) (s : List ℕ) (b : Bytes s) where
    opened_keeps : answer_to st (message s) ≡ 0 → kind_of s ≡ 16 → Kept l₀ m₀ (ds ++ opens (head_in s) ∷ []) (after st (message s))
    opened_keeps a e =
        let o = open_right st.ledger st.map st.desk s a e in
        let sized : Bool = eqb (length st.map) map_size in
        let size : length st.map ≡ map_size = eqb-true _ _ (not-false sized (or_left (not sized) (not (sound_ledger st.ledger)) o.ledger_sound)) in
        let p : Passed st.ledger.sheet (record { head = head_in s; steps = [] }) =
        record {
          there = o.sheet;
          head_listed_lem = o.head_listed_lem;
          begins = o.timely;
          timely = refl;
          within = refl;
          level = refl;
          few = omega arith;
          in_bytes = record { head = head_in_bytes s b; steps = tt };
        } in
        subst (Kept l₀ m₀ (ds ++ opens (head_in s) ∷ [])) (sym (after_opened st s a e))
        (open_next l₀ m₀ ds st k (head_in s) o.room size o.unmarked p)

    stepped_keeps : answer_to st (message s) ≡ 0 → kind_of s ≡ 17 → Kept l₀ m₀ (ds ++ steps (number_in s) (step_in s) ∷ []) (after st (message s))
    stepped_keeps a e =
        let o = step_right st.ledger st.map st.desk s a e in
        subst (Kept l₀ m₀ (ds ++ steps (number_in s) (step_in s) ∷ [])) (sym (after_stepped st s a e))
        (step_next l₀ m₀ ds st k (number_in s) o.numbered o.found (desk_differ st.desk o.desk_sound_lem) (step_in s)
        (omega (arith, o.ordinal, o.few)) o.timely o.within o.level (step_in_bytes s b 7))

    closed_keeps : answer_to st (message s) ≡ 0 → kind_of s ≡ 18 → Kept l₀ m₀ (ds ++ closes (number_in s) ∷ []) (after st (message s))
    closed_keeps a e =
        let o = close_right st.ledger st.map st.desk s a e in
        subst (Kept l₀ m₀ (ds ++ closes (number_in s) ∷ [])) (sym (after_closed st s a e))
        (close_next l₀ m₀ ds st k (number_in s) o.numbered o.found (desk_differ st.desk o.desk_sound_lem)
        o.ledger_sound (λ z. o.some (o.all ∙ z)) o.room)

    message_keeps : message_answer st.ledger st.map st.desk s ≡ 0 → Kept l₀ m₀ (ds ++ deed_of (message s) ∷ []) (after st (message s))
    message_keeps a = go (accepted_kind st.ledger st.map st.desk s a)
      where
        as_kind :
            (kind : ℕ) →
            kind_of s ≡ kind →
            Kept l₀ m₀ (ds ++ message_in kind s ∷ []) (after st (message s)) →
            Kept l₀ m₀ (ds ++ deed_of (message s) ∷ []) (after st (message s))
        as_kind kind e g = subst (λ n. Kept l₀ m₀ (ds ++ message_in n s ∷ []) (after st (message s))) (sym e) g

        go : (kind_of s ≡ 16) ⊎ ((kind_of s ≡ 17) ⊎ (kind_of s ≡ 18)) → Kept l₀ m₀ (ds ++ deed_of (message s) ∷ []) (after st (message s))
        go (inl e) = as_kind 16 e (opened_keeps a e)
        go (inr (inl e)) = as_kind 17 e (stepped_keeps a e)
        go (inr (inr e)) = as_kind 18 e (closed_keeps a e)

  -- an accepted arrival is one deed more
  accepted_keeps :
      (ds : List Deed) (st : State) →
      Kept l₀ m₀ ds st →
      (a : Arrival) →
      Bytes (bytes_of a) →
      answer_to st a ≡ 0 →
      Kept l₀ m₀ (ds ++ deed_of a ∷ []) (after st a)
  accepted_keeps ds st k (message s) b e = message_keeps ds st k s b e
  accepted_keeps ds st k (booked s) b e = entry_next l₀ m₀ ds st k s e

-- a refused arrival changes nothing, so it holds after any arrivals
module _ (l₀ : Ledger) (m₀ : List ℕ) where
  all_kept :
      (ds : List Deed) (st : State) (as' : List Arrival) →
      Kept l₀ m₀ ds st →
      All (λ a. Bytes (bytes_of a)) as' →
      Kept l₀ m₀ (ds ++ map deed_of (accepted_of st as')) (after_all st as')
  all_kept ds st [] k b = subst (λ x. Kept l₀ m₀ x st) (sym (append-nil ds)) k
  all_kept ds st (a ∷ as') k b = go (eqb (answer_to st a) 0) refl (λ x y. all_kept x (after st a) as' y b.1)
    where
      go :
          (t : Bool) →
          eqb (answer_to st a) 0 ≡ t →
          ((x : List Deed) → Kept l₀ m₀ x (after st a) → Kept l₀ m₀ (x ++ map deed_of (accepted_of (after st a) as')) (after_all (after st a) as')) →
          Kept l₀ m₀ (ds ++ map deed_of (cond t (a ∷ accepted_of (after st a) as') (accepted_of (after st a) as'))) (after_all (after st a) as')
      go true e f =
          subst (λ x. Kept l₀ m₀ x (after_all (after st a) as')) (append_assoc ds (deed_of a ∷ []) (map deed_of (accepted_of (after st a) as')))
          (f (ds ++ deed_of a ∷ []) (accepted_keeps l₀ m₀ ds st k a b.0 (eqb-true _ _ e)))
      go false e f = f ds (subst (Kept l₀ m₀ ds) (sym (refused_after st a (eqb-false _ _ e))) k)

-- the start: an empty desk
no_numbers : (d : List Slot) → NothingOpen d → All (λ v. v ≡ 0) (numbers_of d)
no_numbers d a = all_of_map (λ v. v ≡ 0) number_at d a

-- free slots, however many, have nothing open
pub nothing_open : (n : ℕ) → NothingOpen (replicate n free_slot)
nothing_open n = all_alike (λ s. number_at s ≡ 0) n free_slot refl

begins : (l : Ledger) (m : List ℕ) → Kept l m [] (empty_day l m)
begins l m =
    record {
      rest = m;
      taken = refl;
      same = sym (all_none m (numbers_of empty_desk) (no_numbers empty_desk (nothing_open slot_count)));
      size = refl;
      each = λ i z. absurd (z (ap number_at (alike_at slot_count i free_slot)));
      idle = λ i _. alike_at slot_count i free_slot;
      seen = tt;
      shut = tt;
      opened_once = tt;
      closed_once = tt;
      told = tt;
    }

-- a desk of slots that are all free
all_free : (d : List Slot) → NothingOpen d → ((i : ℕ) → number_at (at d i) ≡ 0 → at d i ≡ free_slot) → d ≡ replicate (length d) free_slot
all_free [] a f = refl
all_free (s ∷ d) a f = λ i. f 0 a.0 i ∷ all_free d a.1 (λ j. f (suc j)) i

module _ (l : Ledger) (m : List ℕ) (as' : List Arrival) (b : All (λ a. Bytes (bytes_of a)) as') where
  abbrev end : State
  end = after_all (empty_day l m) as'

  abbrev deeds : List Deed
  deeds = map deed_of (accepted_of (empty_day l m) as')

  -- what is kept all day long is kept at the end, of what the accepted arrivals did
  pub kept : Kept l m deeds end
  kept = all_kept l m [] (empty_day l m) as' (begins l m) b

  -- "a freed slot is used again": a day that leaves nothing open leaves the desk as it was, zeros only
  pub slots_reused : NothingOpen end.desk → end.desk ≡ empty_desk
  slots_reused free = all_free end.desk free kept.idle ∙ ap (λ (n : ℕ). replicate n free_slot) kept.size

  -- among the accepted messages no number is opened twice, and none is closed twice
  pub each_once_lem : Once (openings deeds) × Once (closings deeds)
  each_once_lem = (kept.opened_once, kept.closed_once)

  -- with outages open: the book that takes the complete records refuses none, its ledger is the desk's, and the desk's map is the book's with the
  -- open numbers marked
  pub at_any_time :
      ((take_all (starting l m) (complete_records (accepted_of (empty_day l m) as'))).ledger ≡ end.ledger) ×
      (end.map ≡ marked_all (take_all (starting l m) (complete_records (accepted_of (empty_day l m) as'))).map (numbers_of end.desk)) ×
      ((take_all (starting l m) (complete_records (accepted_of (empty_day l m) as'))).refused ≡ 0)
  at_any_time = (
    ap (λ (x : book.BookState). x.ledger) kept.taken,
    kept.same ∙ ap (λ (x : book.BookState). marked_all x.map (numbers_of end.desk)) (sym kept.taken),
    ap (λ (x : book.BookState). x.refused) kept.taken,
  )

  -- after any arrivals that leave nothing open, ledger and map are those of taking the complete records, each of which is accepted
  pub day_in_records :
      NothingOpen end.desk →
      take_all (starting l m) (complete_records (accepted_of (empty_day l m) as')) ≡ record { ledger = end.ledger; map = end.map; refused = 0 }
  day_in_records free =
      let e : kept.rest ≡ end.map = sym (kept.same ∙ all_none kept.rest (numbers_of end.desk) (no_numbers end.desk free)) in
      kept.taken ∙ (λ i. record { ledger = end.ledger; map = e i; refused = 0 })

  -- the accepted messages of each closed number are its open, its steps and its close, in this order
  pub in_order : All (λ v. about v deeds ≡ open_deeds v (event_for deeds v) ++ closes v ∷ []) (closings deeds)
  in_order = all_map (λ v (t : ToldOf deeds v). t.order) (closings deeds) kept.told

  -- a closed event's record is of bytes, and tells the event
  pub closed_told : All (λ v. Bytes (record_of (event_for deeds v)) × (stepped_event_in (record_of (event_for deeds v)) ≡ event_for deeds v)) (closings deeds)
  closed_told =
      all_map
      (λ v (t : ToldOf deeds v).
      let few : length (event_for deeds v).steps ≤ 64 = t.few in
      (stepped_bytes_lem (head_for v deeds) (steps_for v deeds) (omega arith), read_back (event_for deeds v) t.in_bytes))
      (closings deeds) kept.told

  closed_framed : All Framed (closed_records (accepted_of (empty_day l m) as'))
  closed_framed =
      all_of_map Framed (λ v. record_of (event_for deeds v)) (closings deeds)
      (all_map (λ v (t : ToldOf deeds v). stepped_framed (head_for v deeds) (steps_for v deeds) t.few) (closings deeds) kept.told)

  -- written one after the other the closed events' records are a book, which is cut into just these and ends at its end
  pub closed_in_a_book :
      (records_of (joined (closed_records (accepted_of (empty_day l m) as'))) ≡ closed_records (accepted_of (empty_day l m) as')) ×
      (is_broken (joined (closed_records (accepted_of (empty_day l m) as'))) ≡ false)
  closed_in_a_book = (
    cut_joined (closed_records (accepted_of (empty_day l m) as')) closed_framed,
    ap (λ (x : Place). eqb (which_of x) 2) (joined_ends (closed_records (accepted_of (empty_day l m) as')) closed_framed),
  )

-- ---- messages alone

abbrev NoTake : Deed → Type 0
NoTake (opens h) = Unit {0}
NoTake (steps w st) = Unit {0}
NoTake (closes w) = Unit {0}
NoTake (takes s) = ⊥

message_no_take : (s : List ℕ) → NoTake (deed_of (message s))
message_no_take s = go (eqb (kind_of s) 16) (eqb (kind_of s) 17)
  where
    go : (p q : Bool) → NoTake (cond p (opens (head_in s)) (cond q (steps (number_in s) (step_in s)) (closes (number_in s))))
    go true q = tt
    go false true = tt
    go false false = tt

messages_no_take : (st : State) (rs : List (List ℕ)) → All NoTake (map deed_of (accepted_of st (map message rs)))
messages_no_take st [] = tt
messages_no_take st (s ∷ rs) = go (eqb (answer_to st (message s)) 0) (messages_no_take (after st (message s)) rs)
  where
    go :
        (t : Bool) →
        All NoTake (map deed_of (accepted_of (after st (message s)) (map message rs))) →
        All NoTake
        (map deed_of (cond t (message s ∷ accepted_of (after st (message s)) (map message rs)) (accepted_of (after st (message s)) (map message rs))))
    go true a = (message_no_take s, a)
    go false a = a

closed_only : (all ds : List Deed) → All NoTake ds → complete_in all ds ≡ map (λ v. record_of (event_for all v)) (closings ds)
closed_only all [] a = refl
closed_only all (opens h ∷ ds) a = closed_only all ds a.1
closed_only all (steps w st ∷ ds) a = closed_only all ds a.1
closed_only all (closes w ∷ ds) a = ap (λ rs. record_of (event_for all w) ∷ rs) (closed_only all ds a.1)
closed_only all (takes s ∷ ds) a = absurd a.0

-- of messages alone the complete records are the closed events'
pub messages_complete :
    (st : State) (rs : List (List ℕ)) →
    complete_records (accepted_of st (map message rs)) ≡ closed_records (accepted_of st (map message rs))
messages_complete st rs =
    let ds : List Deed = map deed_of (accepted_of st (map message rs)) in
    closed_only ds ds (messages_no_take st rs)

-- messages of bytes are arrivals of bytes
pub message_bytes : (rs : List (List ℕ)) → All Bytes rs → All (λ a. Bytes (bytes_of a)) (map message rs)
message_bytes rs b = all_of_map (λ a. Bytes (bytes_of a)) message rs b

-- "From an empty desk with a given ledger and map, after any sequence of desk messages that leaves nothing open, ledger and map are those of taking
-- the closed events as kind 3 records in the order of closing": each of these is accepted. Of ledger and map nothing is asked: where they are
-- unsound every message is refused.
pub step_by_step :
    (l : Ledger) (m : List ℕ) (rs : List (List ℕ)) →
    All Bytes rs →
    NothingOpen (after_all (empty_day l m) (map message rs)).desk →
    take_all (starting l m) (closed_records (accepted_of (empty_day l m) (map message rs))) ≡
    record { ledger = (after_all (empty_day l m) (map message rs)).ledger; map = (after_all (empty_day l m) (map message rs)).map; refused = 0 }
step_by_step l m rs b free =
    ap (take_all (starting l m)) (sym (messages_complete (empty_day l m) rs)) ∙
    day_in_records l m (map message rs) (message_bytes rs b) free

-- the same of the book that these records make
pub step_by_step_book :
    (l : Ledger) (m : List ℕ) (rs : List (List ℕ)) →
    All Bytes rs →
    NothingOpen (after_all (empty_day l m) (map message rs)).desk →
    after_book l m (joined (closed_records (accepted_of (empty_day l m) (map message rs)))) ≡
    record { ledger = (after_all (empty_day l m) (map message rs)).ledger; map = (after_all (empty_day l m) (map message rs)).map; refused = 0 }
step_by_step_book l m rs b free =
    ap (take_all (starting l m)) (closed_in_a_book l m (map message rs) (message_bytes rs b)).0 ∙ step_by_step l m rs b free
