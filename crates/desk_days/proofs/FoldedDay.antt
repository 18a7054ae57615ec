-- Every accepted step is folded into the one outage that the open of its number began: between the open and the close no arrival but a step of that
-- number touches its slot. Assumes nothing.
use Prim.Native.Nat.{ℕ, ◌+◌, ◌<◌, ◌≤◌}
use mathlib.Core.Path.{◌≡◌, refl, sym, ◌∙◌, ap, subst}
use mathlib.Core.Logic.{◌≢◌, ◌⊎◌, inl, inr}
use mathlib.Core.List.{List, [], ◌∷◌}
use mathlib.Core.Bool.{true, cond, true≢false}
use lib.ListN.{length, get_or, set}
use lib.Seq.{get_or-set_same, get_or-set_other}
use native.Mathlib.Omega.{arith}
use native.Mathlib.Decide.{ℕ_discrete}
use borrow.Author.Tests.{eq-eqb, ne_eqb}
use Rattle.base.specs.Lists.{All, Bytes}
use Rattle.wire.specs.Frame.{kind_of}
use Rattle.wire.proofs.ByteLaws.{le16_below}
use Rattle.annex.specs.declared.Step.{Step}
use Rattle.annex.specs.Stepped.{coursed_all, last_time}
use Rattle.used_numbers.specs.Marks.{marked, marked_with}
use Rattle.used_numbers.proofs.MarkLaws.{marked_with_same}
use Rattle.fields.specs.declared.Head.{Head}
use Rattle.fields.specs.Fields.{head_in}
use Rattle.fields.proofs.TestLaws.{listed_number}
use Rattle.slot.specs.declared.Slot.{Slot}
use Rattle.slot.specs.Slot.{free_slot, opened_by, stepped_by, course_in}
use Rattle.desk_scan.specs.Desk.{slot_count, number_at, place_of, slot_of, number_in}
use Rattle.desk_scan.proofs.SearchLaws.{place_set_same, place_set_other, place_set_gone, desk_slots, desk_differ}
use Rattle.desk_rules.specs.Rules.{step_in}
use Rattle.desk_rules.proofs.MessageLaws.{open_right, step_right, close_right}
use Rattle.desk_days.specs.Day.{State, Arrival, message, booked, bytes_of, answer_to, after, after_all, Sound}
use Rattle.desk_days.specs.Story.{Deed, opens, steps, closes, closings, head_for, steps_for, slot_holding}
use Rattle.desk_days.specs.Late.{told, Replies, stepped_all, Holding, Begun}
use Rattle.desk_days.proofs.AfterLaws.{IsOpened, IsStepped, IsClosed, with_opened, with_stepped, with_closed, after_opened, telling_cases, entering_cases}
use Rattle.desk_days.proofs.SoundDay.{size_right, not_unsound, place_within, slot_number, place_open, sound_stays_sound, sound_throughout}
use Rattle.desk_days.proofs.MarkedDay.{marks_stay_throughout}

stepped_head : (x : Slot) (sts : List Step) → (stepped_all x sts).head ≡ x.head
stepped_head x [] = refl
stepped_head x (st ∷ sts) = stepped_head (stepped_by x st) sts

stepped_last : (x : Slot) (sts : List Step) → (stepped_all x sts).last ≡ last_time x.last sts
stepped_last x [] = refl
stepped_last x (st ∷ sts) = stepped_last (stepped_by x st) sts

stepped_count : (x : Slot) (sts : List Step) → (stepped_all x sts).steps ≡ x.steps + length sts
stepped_count x [] = omega arith
stepped_count x (st ∷ sts) = omega (arith, stepped_count (stepped_by x st) sts)

stepped_figures_lem : (x : Slot) (sts : List Step) → (stepped_all x sts).figures ≡ (coursed_all (course_in x) sts).figures
stepped_figures_lem x [] = refl
stepped_figures_lem x (st ∷ sts) = stepped_figures_lem (stepped_by x st) sts

-- step by step, an outage comes to what the complete event with these steps has: its last time, the number of its steps and its figures
pub all_steps : (h : Head) (sts : List Step) → stepped_all (opened_by h) sts ≡ slot_holding (record { head = h; steps = sts })
all_steps h sts =
    let count : (stepped_all (opened_by h) sts).steps ≡ length sts = omega (arith, stepped_count (opened_by h) sts) in
    λ i.
    record {
      head = stepped_head (opened_by h) sts i;
      last = stepped_last (opened_by h) sts i;
      steps = count i;
      figures = stepped_figures_lem (opened_by h) sts i;
    }

-- the place of a number that stands in a slot other than i
module _ (st : State) (sound : Sound st) (i : ℕ) (v w : ℕ) (holds_v : number_at (get_or st.desk i free_slot) ≡ v) where
  other_place : place_of w st.desk < slot_count → w ≢ v → i ≢ place_of w st.desk
  other_place found n e =
      n (sym (slot_number st sound w found) ∙ ap (λ j. number_at (get_or st.desk j free_slot)) (sym e) ∙ holds_v)

-- the slot at i, after any arrivals that do not close its number
module _ (v : ℕ) (numbered : v ≢ 0) (i : ℕ) where
  -- it is what it was, with the accepted steps of v taken since
  pub kept :
      (st : State) (as' : List Arrival) →
      Sound st →
      (x : Slot) →
      number_at x ≡ v →
      get_or st.desk i free_slot ≡ x →
      All (λ w. w ≡ v → ⊥) (closings (told st as')) →
      get_or (after_all st as').desk i free_slot ≡ stepped_all x (steps_for v (told st as'))
  kept st [] sound x n e u = e
  kept st (message s ∷ as') sound x n e u =
      telling_cases st s as'
      (λ t ds. Sound t → All (λ w. w ≡ v → ⊥) (closings ds) → get_or (after_all t as').desk i free_slot ≡ stepped_all x (steps_for v ds))
      (λ _ sound u. kept st as' sound x n e u)
      (λ _ _ o next u. kept (with_opened st s) as' next x n (stays 0 (opened_by (head_in s)) o.room (λ z. numbered (sym z)) ∙ e) u)
      (λ _ _ o next u. step o (λ y m f. kept (with_stepped st s) as' next y m f u) (ℕ_discrete w v))
      (λ _ _ o next u. kept (with_closed st s) as' next x n (stays w free_slot o.found u.0 ∙ e) u.1)
      (sound_stays_sound st (message s) sound)
      u
    where
      w : ℕ
      w = number_in s

      holds_v : number_at (get_or st.desk i free_slot) ≡ v
      holds_v = ap number_at e ∙ n

      stays : (w : ℕ) (a : Slot) → place_of w st.desk < slot_count → w ≢ v → get_or (set st.desk (place_of w st.desk) a) i free_slot ≡ get_or st.desk i free_slot
      stays w a found d = get_or-set_other st.desk (place_of w st.desk) i a free_slot (other_place st sound i v w holds_v found d)

      rest : List Step
      rest = steps_for v (told (with_stepped st s) as')

      step :
          IsStepped st s →
          ((y : Slot) → number_at y ≡ v → get_or (with_stepped st s).desk i free_slot ≡ y → get_or (after_all (with_stepped st s) as').desk i free_slot ≡ stepped_all y rest) →
          Dec (w ≡ v) →
          get_or (after_all (with_stepped st s) as').desk i free_slot ≡ stepped_all x (steps_for v (steps w (step_in s) ∷ told (with_stepped st s) as'))
      step o further (yes d) =
          let here : place_of w st.desk ≡ i = ap (λ v. place_of v st.desk) d ∙ place_open st sound v i holds_v numbered in
          let was : slot_of w st.desk ≡ x = ap (λ j. get_or st.desk j free_slot) here ∙ e in
          let now : get_or (with_stepped st s).desk i free_slot ≡ stepped_by x (step_in s) =
          ap (λ j. get_or (with_stepped st s).desk j free_slot) (sym here) ∙
          get_or-set_same st.desk (place_of w st.desk) (stepped_by (slot_of w st.desk) (step_in s)) free_slot (place_within st sound w o.found) ∙
          ap (λ (y : Slot). stepped_by y (step_in s)) was in
          further (stepped_by x (step_in s)) n now ∙ ap (λ t. stepped_all x (cond t (step_in s ∷ rest) rest)) (sym (eq-eqb w v d))
      step o further (no d) =
          further x n (stays w (stepped_by (slot_of w st.desk) (step_in s)) o.found d ∙ e) ∙
          ap (λ t. stepped_all x (cond t (step_in s ∷ rest) rest)) (sym (ne_eqb w v d))
  kept st (booked s ∷ as') sound x n e u =
      entering_cases st s as'
      (λ t ds. Sound t → All (λ w. w ≡ v → ⊥) (closings ds) → get_or (after_all t as').desk i free_slot ≡ stepped_all x (steps_for v ds))
      (λ _ sound u. kept st as' sound x n e u)
      (λ _ _ o next u. kept (after st (booked s)) as' next x n e u)
      (λ _ _ o next u. kept (after st (booked s)) as' next x n e u)
      (sound_stays_sound st (booked s) sound)
      u

-- Between an accepted open and its close, with any arrivals between, the slot that the open took holds the outage, with the head that the open gave and
-- exactly the accepted steps of its number.
pub folded_into_its_own :
    (st : State) (s : List ℕ) →
    kind_of s ≡ 16 →
    answer_to st (message s) ≡ 0 →
    (as' : List Arrival) →
    All (λ w. w ≡ number_in s → ⊥) (closings (told (after st (message s)) as')) →
    Holding (place_of 0 st.desk) (head_in s) (steps_for (number_in s) (told (after st (message s)) as')) (after_all (after st (message s)) as').desk
folded_into_its_own st s kind a as' u =
    record {
      place = place_open (after_all (after st (message s)) as') (sound_throughout (after st (message s)) as' sound) (number_in s) i number numbered;
      slot = slot;
      head = head;
    }
  where
    i : ℕ
    i = place_of 0 st.desk

    end : List Slot
    end = (after_all (after st (message s)) as').desk

    o : IsOpened st s
    o = open_right st.ledger st.map st.desk s a kind

    numbered : number_in s ≢ 0
    numbered = listed_number (head_in s) o.head_listed_lem

    sound_before : Sound st
    sound_before = not_unsound st o.ledger_sound o.desk_sound_lem

    sound : Sound (after st (message s))
    sound = sound_stays_sound st (message s) sound_before

    begun : get_or (after st (message s)).desk i free_slot ≡ opened_by (head_in s)
    begun =
        ap (λ (t : State). get_or t.desk i free_slot) (after_opened st s a kind) ∙
        get_or-set_same st.desk i (opened_by (head_in s)) free_slot (place_within st sound_before 0 o.room)

    slot : get_or end i free_slot ≡ stepped_all (opened_by (head_in s)) (steps_for (number_in s) (told (after st (message s)) as'))
    slot = kept (number_in s) numbered i (after st (message s)) as' sound (opened_by (head_in s)) refl begun u

    head : (get_or end i free_slot).head ≡ head_in s
    head = ap (λ (x : Slot). x.head) slot ∙ stepped_head (opened_by (head_in s)) (steps_for (number_in s) (told (after st (message s)) as'))

    number : number_at (get_or end i free_slot) ≡ number_in s
    number = ap (λ (h : Head). h.number) head

-- ---- every outage that is open was open at the start, or has its open among the arrivals

begun_later : (v : ℕ) (st : State) (a : Arrival) (as' : List Arrival) → Begun v (after st a) as' → Begun v st (a ∷ as')
begun_later v st a as' b =
    record {
      before = a ∷ b.before;
      opening = b.opening;
      later = b.later;
      split = ap (λ xs. a ∷ xs) b.split;
      kind = b.kind;
      number = b.number;
      accepted = b.accepted;
      unclosed = b.unclosed;
    }

abbrev Open : ℕ → State → Type 0
Open v st = place_of v st.desk < slot_count

abbrev Unclosed : ℕ → List Deed → Type 0
Unclosed v ds = All (λ w. w ≡ v → ⊥) (closings ds)

module _ (v : ℕ) (numbered : v ≢ 0) where
  -- an outage of another number is opened, stepped or closed
  module _ (st : State) (s : List ℕ) (sound : Sound st) where
    abbrev w : ℕ
    w = number_in s

    opened_place : IsOpened st s → w ≢ v → place_of v (with_opened st s).desk ≡ place_of v st.desk
    opened_place o n =
        place_set_other v st.desk (place_of 0 st.desk) (opened_by (head_in s))
        (λ q. numbered (sym q ∙ slot_number st sound 0 o.room)) n

    stepped_place : place_of v (with_stepped st s).desk ≡ place_of v st.desk
    stepped_place = place_set_same v st.desk (place_of w st.desk) (stepped_by (slot_of w st.desk) (step_in s)) refl

    closed_place : IsClosed st s → w ≢ v → place_of v (with_closed st s).desk ≡ place_of v st.desk
    closed_place o n =
        place_set_other v st.desk (place_of w st.desk) free_slot (λ q. n (sym (slot_number st sound w o.found) ∙ q)) (λ q. numbered (sym q))

    closed_place_own : w ≡ v → slot_count ≤ place_of v (with_closed st s).desk
    closed_place_own e =
        let gone : place_of v (with_closed st s).desk ≡ length st.desk =
        ap (λ k. place_of v (set st.desk (place_of k st.desk) free_slot)) e ∙
        place_set_gone v st.desk free_slot (desk_differ st.desk sound.desk) numbered (λ q. numbered (sym q)) in
        omega (arith, gone, desk_slots st.desk sound.desk)

  -- an outage open at the end was open at the start and not closed, or has an accepted open among the arrivals and no accepted close after
  pub begun_or_open : (st : State) (as' : List Arrival) → Sound st → Open v (after_all st as') → (Open v st × Unclosed v (told st as')) ⊎ Begun v st as'
  begun_or_open st [] sound e = inl (e, tt)
  begun_or_open st (message s ∷ as') sound e = go (begun_or_open (after st (message s)) as' (sound_stays_sound st (message s) sound) e)
    where
      go : (Open v (after st (message s)) × Unclosed v (told (after st (message s)) as')) ⊎ Begun v (after st (message s)) as' → (Open v st × Unclosed v (told st (message s ∷ as'))) ⊎ Begun v st (message s ∷ as')
      go (inr b) = inr (begun_later v st (message s) as' b)
      go (inl (open', u)) =
          telling_cases st s as' (λ t ds. Open v t → Unclosed v (told t as') → (Open v st × Unclosed v ds) ⊎ Begun v st (message s ∷ as'))
          (λ _ p q. inl (p, q))
          (λ a k o p q. opening a k o p q (ℕ_discrete (number_in s) v))
          (λ _ _ o p q. inl (subst (λ n. n < slot_count) (stepped_place st s sound) p, q))
          (λ _ _ o p q. closing o p q (ℕ_discrete (number_in s) v))
          open' u
        where
          opening :
              answer_to st (message s) ≡ 0 →
              kind_of s ≡ 16 →
              IsOpened st s →
              Open v (with_opened st s) →
              Unclosed v (told (with_opened st s) as') →
              Dec (number_in s ≡ v) →
              (Open v st × Unclosed v (told (with_opened st s) as')) ⊎ Begun v st (message s ∷ as')
          opening a k o p q (yes n) = inr (record { before = []; opening = s; later = as'; split = refl; kind = k; number = n; accepted = a; unclosed = u })
          opening a k o p q (no n) = inl (subst (λ n. n < slot_count) (opened_place st s sound o n) p, q)

          closing :
              IsClosed st s →
              Open v (with_closed st s) →
              Unclosed v (told (with_closed st s) as') →
              Dec (number_in s ≡ v) →
              (Open v st × Unclosed v (closes (number_in s) ∷ told (with_closed st s) as')) ⊎ Begun v st (message s ∷ as')
          closing o p q (yes n) = absurd (omega (arith, p, closed_place_own st s sound n))
          closing o p q (no n) = inl (subst (λ n. n < slot_count) (closed_place st s sound o n) p, (n, q))
  begun_or_open st (booked s ∷ as') sound e = go (begun_or_open (after st (booked s)) as' (sound_stays_sound st (booked s) sound) e)
    where
      go : (Open v (after st (booked s)) × Unclosed v (told (after st (booked s)) as')) ⊎ Begun v (after st (booked s)) as' → (Open v st × Unclosed v (told st (booked s ∷ as'))) ⊎ Begun v st (booked s ∷ as')
      go (inr b) = inr (begun_later v st (booked s) as' b)
      go (inl (open', u)) =
          entering_cases st s as' (λ t ds. Open v t → Unclosed v (told t as') → (Open v st × Unclosed v ds) ⊎ Begun v st (booked s ∷ as'))
          (λ _ p q. inl (p, q))
          (λ _ _ _ p q. inl (p, q))
          (λ _ _ _ p q. inl (p, q))
          open' u

-- ---- the whole sequence

-- a marked number is not opened again
marked_not_begun : (v : ℕ) (st : State) (as' : List Arrival) → marked st.map v ≡ true → Begun v st as' → ⊥
marked_not_begun v st as' e b =
    let t = after_all st b.before in
    let o = open_right t.ledger t.map t.desk b.opening b.accepted b.kind in
    true≢false (sym (marks_stay_throughout st b.before v e) ∙ ap (marked t.map) (sym b.number) ∙ o.unmarked)

module _ (v : ℕ) (numbered : v ≢ 0) where
  -- the slot of v is what its open and its steps, all that were accepted, come to
  abbrev Own : List Deed → List Slot → Type 0
  Own ds d = slot_of v d ≡ stepped_all (opened_by (head_for v ds)) (steps_for v ds)

  -- after its open
  own_opened :
      (st : State) (s : List ℕ) (as' : List Arrival) →
      Bytes s →
      answer_to st (message s) ≡ 0 →
      kind_of s ≡ 16 →
      IsOpened st s →
      number_in s ≡ v →
      Open v (after_all (after st (message s)) as') →
      Own (opens (head_in s) ∷ told (after st (message s)) as') (after_all (after st (message s)) as').desk
  own_opened st s as' b a k o n e = go (begun_or_open v numbered (after st (message s)) as' sound e)
    where
      sound : Sound (after st (message s))
      sound = sound_stays_sound st (message s) (not_unsound st o.ledger_sound o.desk_sound_lem)

      used : marked (after st (message s)).map v ≡ true
      used =
          ap (λ (t : State). marked t.map v) (after_opened st s a k) ∙
          subst (λ w. marked (marked_with st.map (number_in s)) w ≡ true) n
          (marked_with_same st.map (number_in s) (size_right st.ledger st.map o.ledger_sound) (le16_below s b 4) (listed_number (head_in s) o.head_listed_lem))

      ds : List Deed
      ds = told (after st (message s)) as'

      end : List Slot
      end = (after_all (after st (message s)) as').desk

      go : (Open v (after st (message s)) × Unclosed v ds) ⊎ Begun v (after st (message s)) as' → Own (opens (head_in s) ∷ ds) end
      go (inl (_, u)) =
          let h = folded_into_its_own st s k a as' (subst (λ w. Unclosed w ds) (sym n) u) in
          ap (λ w. slot_of w end) (sym n) ∙
          ap (λ i. get_or end i free_slot) h.place ∙
          h.slot ∙
          ap (λ w. stepped_all (opened_by (head_in s)) (steps_for w ds)) n ∙
          ap (λ t. stepped_all (opened_by (cond t (head_in s) (head_for v ds))) (steps_for v ds)) (sym (eq-eqb (number_in s) v n))
      go (inr b) = absurd (marked_not_begun v (after st (message s)) as' used b)

  -- Where an outage was not open at the start and is open at the end, its slot is what the one open of its number and every accepted step of its
  -- number in the whole sequence come to.
  pub one_outage :
      (st : State) (as' : List Arrival) →
      Sound st →
      All (λ a. Bytes (bytes_of a)) as' →
      slot_count ≤ place_of v st.desk →
      place_of v (after_all st as').desk < slot_count →
      slot_of v (after_all st as').desk ≡ stepped_all (opened_by (head_for v (told st as'))) (steps_for v (told st as'))
  one_outage st [] sound b n e = absurd (omega arith)
  one_outage st (message s ∷ as') sound b n e =
      telling_cases st s as'
      (λ t ds. after st (message s) ≡ t → Sound t → Open v (after_all t as') → Own ds (after_all t as').desk)
      (λ _ _ sound e. one_outage st as' sound b.1 n e)
      (λ a k o same next e. opening a k o same e (λ f. one_outage (with_opened st s) as' next b.1 f e) (ℕ_discrete w v))
      (λ _ _ o _ next e.
      one_outage (with_stepped st s) as' next b.1 (subst (λ k. slot_count ≤ k) (sym (stepped_place v numbered st s sound)) n) e ∙ stepping (differs o.found))
      (λ _ _ o _ next e. one_outage (with_closed st s) as' next b.1 (subst (λ k. slot_count ≤ k) (sym (closed_place v numbered st s sound o (differs o.found))) n) e)
      refl
      (sound_stays_sound st (message s) sound)
      e
    where
      w : ℕ
      w = number_in s

      stepping :
          w ≢ v →
          stepped_all (opened_by (head_for v (told (with_stepped st s) as'))) (steps_for v (told (with_stepped st s) as')) ≡
          stepped_all (opened_by (head_for v (told (with_stepped st s) as'))) (steps_for v (steps w (step_in s) ∷ told (with_stepped st s) as'))
      stepping q =
          let rest = steps_for v (told (with_stepped st s) as') in
          ap (λ t. stepped_all (opened_by (head_for v (told (with_stepped st s) as'))) (cond t (step_in s ∷ rest) rest)) (sym (ne_eqb w v q))

      differs : place_of w st.desk < slot_count → w ≢ v
      differs f q = let g : place_of v st.desk < slot_count = subst (λ k. place_of k st.desk < slot_count) q f in omega arith

      opening :
          answer_to st (message s) ≡ 0 →
          kind_of s ≡ 16 →
          IsOpened st s →
          after st (message s) ≡ with_opened st s →
          Open v (after_all (with_opened st s) as') →
          (slot_count ≤ place_of v (with_opened st s).desk → Own (told (with_opened st s) as') (after_all (with_opened st s) as').desk) →
          Dec (w ≡ v) →
          Own (opens (head_in s) ∷ told (with_opened st s) as') (after_all (with_opened st s) as').desk
      opening a k o same e further (yes q) =
          subst (λ t. Open v (after_all t as') → Own (opens (head_in s) ∷ told t as') (after_all t as').desk) same (own_opened st s as' b.0 a k o q) e
      opening a k o same e further (no q) =
          further (subst (λ k. slot_count ≤ k) (sym (opened_place v numbered st s sound o q)) n) ∙
          ap (λ t. stepped_all (opened_by (cond t (head_in s) (head_for v (told (with_opened st s) as')))) (steps_for v (told (with_opened st s) as'))) (sym (ne_eqb w v q))
  one_outage st (booked s ∷ as') sound b n e =
      entering_cases st s as'
      (λ t ds. Sound t → Open v (after_all t as') → Own ds (after_all t as').desk)
      (λ _ sound e. one_outage st as' sound b.1 n e)
      (λ _ _ _ next e. one_outage (after st (booked s)) as' next b.1 n e)
      (λ _ _ _ next e. one_outage (after st (booked s)) as' next b.1 n e)
      (sound_stays_sound st (booked s) sound)
      e

  -- An outage that was open and marked at the start, and is open at the end, has taken since every accepted step of its number.
  pub lent_outage :
      (st : State) (as' : List Arrival) →
      Sound st →
      marked st.map v ≡ true →
      place_of v st.desk < slot_count →
      place_of v (after_all st as').desk < slot_count →
      slot_of v (after_all st as').desk ≡ stepped_all (slot_of v st.desk) (steps_for v (told st as'))
  lent_outage st as' sound m n e = go (begun_or_open v numbered st as' sound e)
    where
      end : State
      end = after_all st as'

      i : ℕ
      i = place_of v st.desk

      number : number_at (slot_of v st.desk) ≡ v
      number = slot_number st sound v n

      go : (Open v st × Unclosed v (told st as')) ⊎ Begun v st as' → slot_of v end.desk ≡ stepped_all (slot_of v st.desk) (steps_for v (told st as'))
      go (inl (_, u)) =
          let now : get_or end.desk i free_slot ≡ stepped_all (slot_of v st.desk) (steps_for v (told st as')) = kept v numbered i st as' sound (slot_of v st.desk) number refl u in
          let still : number_at (get_or end.desk i free_slot) ≡ v =
          ap number_at now ∙ ap (λ (h : Head). h.number) (stepped_head (slot_of v st.desk) (steps_for v (told st as'))) ∙ number in
          let place : place_of v end.desk ≡ i = place_open end (sound_throughout st as' sound) v i still numbered in
          ap (λ j. get_or end.desk j free_slot) place ∙ now
      go (inr b) = absurd (marked_not_begun v st as' m b)

-- The slot that an accepted step changes, and the one whose event an accepted close adds, is that of the one open of its number.
pub reply_into_its_own :
    (st : State) →
    Sound st →
    (before : List Arrival) →
    All (λ a. Bytes (bytes_of a)) before →
    (s : List ℕ) →
    Replies (number_in s) (message s) →
    answer_to (after_all st before) (message s) ≡ 0 →
    slot_count ≤ place_of (number_in s) st.desk →
    slot_of (number_in s) (after_all st before).desk ≡
    stepped_all (opened_by (head_for (number_in s) (told st before))) (steps_for (number_in s) (told st before))
reply_into_its_own st sound before b s (k, _) a n = go k
  where
    t : State
    t = after_all st before

    go :
        (kind_of s ≡ 17) ⊎ (kind_of s ≡ 18) →
        slot_of (number_in s) t.desk ≡
        stepped_all (opened_by (head_for (number_in s) (told st before))) (steps_for (number_in s) (told st before))
    go (inl k) = let o = step_right t.ledger t.map t.desk s a k in one_outage (number_in s) o.numbered st before sound b n o.found
    go (inr k) = let o = close_right t.ledger t.map t.desk s a k in one_outage (number_in s) o.numbered st before sound b n o.found
