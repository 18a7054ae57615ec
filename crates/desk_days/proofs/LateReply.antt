-- *A late reply is refused*: a number that was closed is marked and in no slot, and stays so whatever arrives; so neither a step or a close of it
-- nor an open or a book event is accepted again. Assumes nothing.
use Prim.Native.Nat.{ℕ, ◌<◌, ◌≤◌}
use mathlib.Core.Path.{◌≡◌, refl, sym, ◌∙◌, ap, subst}
use mathlib.Core.Logic.{◌≢◌, ◌⊎◌, inl, inr}
use mathlib.Core.List.{List, [], ◌∷◌, ◌++◌}
use mathlib.Core.Bool.{Bool, true, false, ◌||◌, not, cond, true≢false}
use lib.ListN.{length, get_or}
use lib.Dec.{T, leb, ltb, leb→le, ltb→lt}
use native.Mathlib.Omega.{arith}
use borrow.Author.Tests.{ne_eqb, le-leb}
use Rattle.base.specs.First.{Rule, first}
use Rattle.base.specs.Lists.{All, Bytes}
use Rattle.base.proofs.TestLaws.{or_both}
use Rattle.wire.specs.Frame.{framed, kind_of}
use Rattle.used_numbers.specs.Marks.{marked}
use Rattle.fields.specs.Fields.{head_in}
use Rattle.verdict.specs.Verdict.{event_verdict}
use Rattle.ledger.specs.Ledger.{added}
use Rattle.ledger.specs.Take.{unsound, answer_of}
use Rattle.slot.specs.Slot.{free_slot, opened_by, stepped_by}
use Rattle.desk_scan.specs.Desk.{slot_count, number_at, desk_sound, place_of, slot_of, number_in}
use Rattle.desk_scan.proofs.SearchLaws.{set_cases, missing, desk_slots}
use Rattle.desk_rules.specs.Rules.{step_in, length_wrong}
use Rattle.desk_rules.specs.Plan.{look_answer}
use Rattle.desk_rules.specs.Serve.{message_answer}
use Rattle.desk_rules.proofs.MessageLaws.{close_right}
use Rattle.desk_days.specs.Day.{State, Arrival, message, booked, bytes_of, answer_to, after, after_all, Sound, Marked}
use Rattle.desk_days.specs.Story.{Deed, opens, steps, closes, names, about}
use Rattle.desk_days.specs.Late.{told, usings, Replies, Begins, Refused, late_rules, again_rules, TooLate}
use Rattle.desk_days.proofs.AfterLaws.{IsOpened, IsStepped, IsClosed, with_opened, with_stepped, with_closed, message_cases, entry_cases, refused_after, after_append, after_closed, telling_cases, entering_cases}
use Rattle.desk_days.proofs.SoundDay.{not_unsound, sound_not_1, place_within, slot_number, place_open, sound_stays_sound}
use Rattle.desk_days.proofs.MarkedDay.{marks_stay, marked_at, marked_throughout}
use Rattle.desk_days.proofs.OneOpen.{not_again}

-- outage v was closed
pub record Gone (v : ℕ) (st : State) : Type 0 where
  pub sound : Sound st
  pub sheet : st.ledger.sheet.there ≡ true
  pub numbered : v ≡ 0 → ⊥
  pub used : marked st.map v ≡ true
  pub out : (i : ℕ) → number_at (get_or st.desk i free_slot) ≡ v → ⊥

-- a sheet that is there stays there
closed_sheet : (st : State) (s : List ℕ) → (with_closed st s).ledger.sheet ≡ st.ledger.sheet
unfolding added event_verdict
closed_sheet st s = refl

sheet_stays : (st : State) (a : Arrival) → st.ledger.sheet.there ≡ true → (after st a).ledger.sheet.there ≡ true
sheet_stays st (message s) e =
    message_cases st s (λ t. t.ledger.sheet.there ≡ true) (λ _. e) (λ _ _ _. e) (λ _ _ _. e) (λ _ _ _. ap (λ sheet. sheet.there) (closed_sheet st s) ∙ e)
sheet_stays st (booked s) e =
    entry_cases st s (λ t. t.ledger.sheet.there ≡ true) (λ _. e) (λ _ _ o. o.sheet) (λ _ _ o. ap (λ sheet. sheet.there) o.sheet ∙ e)

module _ (v : ℕ) (st : State) (g : Gone v st) where
  -- the slots after a message: another number is opened, a slot keeps its number, or one is freed
  out_stays : (a : Arrival) (i : ℕ) → number_at (get_or (after st a).desk i free_slot) ≢ v
  out_stays (message s) i =
      message_cases st s (λ t. number_at (get_or t.desk i free_slot) ≢ v) (λ _. g.out i) (λ _ _. opens) (λ _ _. steps) (λ _ _. closes)
    where
      opens : IsOpened st s → number_at (get_or (with_opened st s).desk i free_slot) ≢ v
      opens o =
          set_cases (λ x. number_at x ≢ v) st.desk (place_of 0 st.desk) i (opened_by (head_in s)) free_slot
          (place_within st g.sound 0 o.room)
          (λ _ q. true≢false (sym g.used ∙ ap (marked st.map) (sym q) ∙ o.unmarked))
          (λ _. g.out i)

      steps : IsStepped st s → number_at (get_or (with_stepped st s).desk i free_slot) ≢ v
      steps o =
          set_cases (λ x. number_at x ≢ v) st.desk (place_of (number_in s) st.desk) i (stepped_by (slot_of (number_in s) st.desk) (step_in s)) free_slot
          (place_within st g.sound (number_in s) o.found)
          (λ _. g.out (place_of (number_in s) st.desk))
          (λ _. g.out i)

      closes : IsClosed st s → number_at (get_or (with_closed st s).desk i free_slot) ≢ v
      closes o =
          set_cases (λ x. number_at x ≢ v) st.desk (place_of (number_in s) st.desk) i free_slot free_slot
          (place_within st g.sound (number_in s) o.found)
          (λ _ q. g.numbered (sym q))
          (λ _. g.out i)
  out_stays (booked s) i = g.out i

  -- an outage that was closed stays so after an arrival, and after any sequence of them
  pub gone_stays : (a : Arrival) → Gone v (after st a)
  gone_stays a =
      record {
        sound = sound_stays_sound st a g.sound;
        sheet = sheet_stays st a g.sheet;
        numbered = g.numbered;
        used = marks_stay st a v g.used;
        out = out_stays a;
      }

pub gone_throughout : (v : ℕ) (st : State) → Gone v st → (as' : List Arrival) → Gone v (after_all st as')
gone_throughout v st g [] = g
gone_throughout v st g (a ∷ as') = gone_throughout v (after st a) (gone_stays v st g a) as'

-- an accepted close, where its number is marked
pub closed_gone : (st : State) → Marked st → (s : List ℕ) → answer_to st (message s) ≡ 0 → kind_of s ≡ 18 → Gone (number_in s) (after st (message s))
closed_gone st k s a kind =
    record {
      sound = sound_stays_sound st (message s) sound;
      sheet = sheet_stays st (message s) o.sheet;
      numbered = o.numbered;
      used = marks_stay st (message s) v (subst (λ n. marked st.map n ≡ true) number (marked_at st.map st.desk k place (λ z. o.numbered (sym number ∙ z))));
      out = λ i. subst (λ (t : State). number_at (get_or t.desk i free_slot) ≢ v) (sym (after_closed st s a kind)) (freed i);
    }
  where
    o : IsClosed st s
    o = close_right st.ledger st.map st.desk s a kind

    v : ℕ
    v = number_in s

    place : ℕ
    place = place_of v st.desk

    sound : Sound st
    sound = not_unsound st o.ledger_sound o.desk_sound_lem

    number : number_at (get_or st.desk place free_slot) ≡ v
    number = slot_number st sound v o.found

    freed : (i : ℕ) → number_at (get_or (with_closed st s).desk i free_slot) ≢ v
    freed i =
        set_cases (λ x. number_at x ≢ v) st.desk place i free_slot free_slot (place_within st sound v o.found)
        (λ _ q. o.numbered (sym q))
        (λ d q. d (sym (place_open st sound v i q o.numbered)))

-- ---- what is answered then

module _ (v : ℕ) (st : State) (g : Gone v st) (s : List ℕ) where
  no_1 : (unsound st.ledger st.map || not (desk_sound st.desk)) ≡ false
  no_1 = or_both (unsound st.ledger st.map) (not (desk_sound st.desk)) (sound_not_1 st g.sound) (ap not g.sound.desk)

  none_holds : leb slot_count (place_of v st.desk) ≡ true
  none_holds =
      let gone : place_of v st.desk ≡ length st.desk = missing v st.desk (λ i _. g.out i) in
      le-leb slot_count (place_of v st.desk) (omega (arith, gone, desk_slots st.desk g.sound.desk))

  late_step_lem : kind_of s ≡ 17 → number_in s ≡ v → answer_to st (message s) ≡ first (late_rules s)
  unfolding message_answer look_answer
  late_step_lem k n = rw (no_1, k, n, g.sheet, ne_eqb v 0 g.numbered, none_holds)

  late_close : kind_of s ≡ 18 → number_in s ≡ v → answer_to st (message s) ≡ first (late_rules s)
  unfolding message_answer look_answer
  late_close k n = rw (no_1, k, n, g.sheet, ne_eqb v 0 g.numbered, none_holds)

  late_open : kind_of s ≡ 16 → number_in s ≡ v → answer_to st (message s) ≡ first (again_rules st (message s))
  unfolding message_answer look_answer
  late_open k n = rw (no_1, k, g.sheet, ap (marked st.map) n ∙ g.used)

  late_simple : kind_of s ≡ 2 → (head_in s).number ≡ v → answer_to st (booked s) ≡ first (again_rules st (booked s))
  unfolding answer_of
  late_simple k n = rw (sound_not_1 st g.sound, k, g.sheet, ap (marked st.map) n ∙ g.used)

  late_stepped : kind_of s ≡ 3 → (head_in s).number ≡ v → answer_to st (booked s) ≡ first (again_rules st (booked s))
  unfolding answer_of
  late_stepped k n = rw (sound_not_1 st g.sound, k, g.sheet, ap (marked st.map) n ∙ g.used)

-- a number from 1 to so much
abbrev Within : ℕ → ℕ → Type 0
Within most n = (n ≡ 0 → ⊥) × (n ≤ most)

-- each rule's number is one, and some rule applies
abbrev Ends : ℕ → List Rule → Type 0
Ends most [] = ⊥
Ends most (r ∷ rs) = T (ltb 0 r.0) × T (leb r.0 most) × ((r.1 ≡ true) ⊎ Ends most rs)

first_within : (most : ℕ) (rs : List Rule) → Ends most rs → Within most (first rs)
first_within most [] e = absurd e
first_within most (r ∷ rs) (p, q, e) = go e (first_within most rs)
  where
    here : Within most r.0
    here = let l = ltb→lt 0 r.0 p in (λ z. omega arith, leb→le r.0 most q)

    either : (t : Bool) → Within most (first rs) → Within most (cond t r.0 (first rs))
    either true k = here
    either false k = k

    go : (r.1 ≡ true) ⊎ Ends most rs → (Ends most rs → Within most (first rs)) → Within most (cond r.1 r.0 (first rs))
    go (inl f) ih = subst (λ t. Within most (cond t r.0 (first rs))) (sym f) here
    go (inr f) ih = either r.1 (ih f)

late_within : (s : List ℕ) → Within 8 (first (late_rules s))
late_within s = first_within 8 (late_rules s) (tt, tt, inr (tt, tt, inr (tt, tt, inl refl)))

again_within : (st : State) (a : Arrival) → Within 14 (first (again_rules st a))
again_within st (message s) =
    first_within 14 (again_rules st (message s)) (tt, tt, inr (tt, tt, inr (tt, tt, inr (tt, tt, inr (tt, tt, inl refl)))))
again_within st (booked s) =
    first_within 14 (again_rules st (booked s))
    (tt, tt, inr (tt, tt, inr (tt, tt, inr (tt, tt, inr (tt, tt, inr (tt, tt, inr (tt, tt, inr (tt, tt, inl refl))))))))

refused_within : (most : ℕ) (st : State) (a : Arrival) → Within most (answer_to st a) → Refused most st a
refused_within most st a w = record { not_accepted = w.0; at_most = w.1; unchanged = refused_after st a w.0 }

module _ (v : ℕ) (st : State) (g : Gone v st) where
  -- a step or close of v is answered by late_rules, an open or book event of its number by again_rules: it is too late for v
  pub gone_reply : (a : Arrival) → Replies v a → answer_to st a ≡ first (late_rules (bytes_of a))
  gone_reply (message s) (inl k, n) = late_step_lem v st g s k n
  gone_reply (message s) (inr k, n) = late_close v st g s k n
  gone_reply (booked s) r = absurd r

  pub gone_again : (a : Arrival) → Begins v a → answer_to st a ≡ first (again_rules st a)
  gone_again (message s) (k, n) = late_open v st g s k n
  gone_again (booked s) (inl k, n) = late_simple v st g s k n
  gone_again (booked s) (inr k, n) = late_stepped v st g s k n

  pub gone_too_late : TooLate v st
  gone_too_late =
      record {
        reply_refused = λ a r. refused_within 8 st a (subst (Within 8) (sym (gone_reply a r)) (late_within (bytes_of a)));
        reply_answer = gone_reply;
        again_refused = λ a r. refused_within 14 st a (subst (Within 14) (sym (gone_again a r)) (again_within st a));
        again_answer = gone_again;
      }

-- no accepted arrival is one of v's
pub nothing_told : (v : ℕ) (st : State) → Gone v st → (as' : List Arrival) → about v (told st as') ≡ []
nothing_told v st g [] = refl
nothing_told v st g (message s ∷ as') =
    telling_cases st s as' (λ t ds. Gone v t → about v ds ≡ [])
    (λ _ g. nothing_told v st g as')
    (λ _ _ o next. unnamed (opens (head_in s)) (told (with_opened st s) as') (ne_eqb w v (other o)) (nothing_told v (with_opened st s) next as'))
    (λ _ _ o next. unnamed (steps w (step_in s)) (told (with_stepped st s) as') (ne_eqb w v (held o.found)) (nothing_told v (with_stepped st s) next as'))
    (λ _ _ o next. unnamed (closes w) (told (with_closed st s) as') (ne_eqb w v (held o.found)) (nothing_told v (with_closed st s) next as'))
    (gone_stays v st g (message s))
  where
    w : ℕ
    w = number_in s

    unnamed : (d : Deed) (ds : List Deed) → names v d ≡ false → about v ds ≡ [] → about v (d ∷ ds) ≡ []
    unnamed d ds n e = ap (λ t. cond t (d ∷ about v ds) (about v ds)) n ∙ e

    other : IsOpened st s → w ≢ v
    other o q = true≢false (sym g.used ∙ ap (marked st.map) (sym q) ∙ o.unmarked)

    held : place_of w st.desk < slot_count → w ≢ v
    held found q = g.out (place_of w st.desk) (slot_number st g.sound w found ∙ q)
nothing_told v st g (booked s ∷ as') =
    entering_cases st s as' (λ t ds. Gone v t → about v ds ≡ [])
    (λ _ g. nothing_told v st g as')
    (λ _ _ _ next. nothing_told v (after st (booked s)) next as')
    (λ _ _ _ next. nothing_told v (after st (booked s)) next as')
    (gone_stays v st g (booked s))

-- ---- the statements

-- After an accepted close of v, where v was marked, and any arrivals, it is too late for v.
pub late_reply :
    (st : State) →
    Marked st →
    (s : List ℕ) →
    kind_of s ≡ 18 →
    answer_to st (message s) ≡ 0 →
    (as' : List Arrival) →
    TooLate (number_in s) (after_all (after st (message s)) as')
late_reply st k s kind a as' =
    gone_too_late (number_in s) (after_all (after st (message s)) as')
    (gone_throughout (number_in s) (after st (message s)) (closed_gone st k s a kind) as')

-- None of them is accepted: no accepted arrival after the close opens, steps or closes v, and none uses its number in a book event.
pub closed_for_good :
    (st : State) →
    Marked st →
    (s : List ℕ) →
    kind_of s ≡ 18 →
    answer_to st (message s) ≡ 0 →
    (as' : List Arrival) →
    (about (number_in s) (told (after st (message s)) as') ≡ []) × All (λ w. w ≡ number_in s → ⊥) (usings (told (after st (message s)) as'))
closed_for_good st k s kind a as' =
    let g = closed_gone st k s a kind in
    (nothing_told (number_in s) (after st (message s)) g as', not_again (after st (message s)) as' (number_in s) g.used)

-- The same in a day that began sound, with every open number marked.
pub late_reply_in_a_day :
    (st : State) →
    Sound st →
    Marked st →
    (before : List Arrival) →
    All (λ a. Bytes (bytes_of a)) before →
    (s : List ℕ) →
    kind_of s ≡ 18 →
    answer_to (after_all st before) (message s) ≡ 0 →
    (later : List Arrival) →
    TooLate (number_in s) (after_all st (before ++ message s ∷ later))
late_reply_in_a_day st sound k before b s kind a later =
    subst (TooLate (number_in s)) (sym (after_append st before (message s ∷ later)))
    (late_reply (after_all st before) (marked_throughout st sound k before b) s kind a later)

-- 8 exactly, where the reply is framed and of its kind's length
pub exactly_8 :
    (v : ℕ) (st : State) →
    TooLate v st →
    (s : List ℕ) →
    Replies v (message s) →
    framed s ≡ true →
    length_wrong (kind_of s) s ≡ false →
    answer_to st (message s) ≡ 8
exactly_8 v st late s r f l =
    late.reply_answer (message s) r ∙ ap (λ t. cond (not t) 2 (cond (length_wrong (kind_of s) s) 4 8)) f ∙ ap (λ t. cond t 4 8) l
