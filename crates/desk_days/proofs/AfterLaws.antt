-- What an arrival does to ledger, map and desk, case by case: laws over arrivals cite this and not the definitions. Assumes nothing.
use Prim.Native.Nat.{ℕ}
use mathlib.Core.Path.{◌≡◌, refl, sym, ◌∙◌, ap, subst}
use mathlib.Core.Logic.{◌⊎◌, inl, inr}
use mathlib.Core.List.{List, [], ◌∷◌, ◌++◌, map}
use mathlib.Core.Bool.{true, false, not, cond}
use lib.ListN.{set}
use lib.Dec.{eqb}
use borrow.Author.Tests.{eqb-true, eqb-false, eq-eqb, ne_eqb, not-false}
use Rattle.base.specs.First.{NoRule}
use Rattle.base.proofs.TestLaws.{Tested, holds, fails, test}
use Rattle.wire.specs.Frame.{kind_of}
use Rattle.used_numbers.specs.Marks.{marked, marked_with}
use Rattle.used_numbers.proofs.MarkLaws.{marked_with_zero}
use Rattle.fields.specs.Fields.{head_in}
use Rattle.fields.specs.Tests.{head_listed}
use Rattle.verdict.specs.Verdict.{Verdict, event_verdict}
use Rattle.record.specs.Rules.{rules_at, not_listed, already_marked}
use Rattle.record.specs.Verdict.{accepted_at}
use Rattle.record.proofs.JudgeLaws.{accepted_rules}
use Rattle.record.proofs.FairLaws.{kind_taken}
use Rattle.ledger.specs.declared.Ledger.{Ledger}
use Rattle.ledger.specs.Ledger.{added}
use Rattle.ledger.specs.Take.{answer_of, ledger_after, map_after}
use Rattle.ledger.proofs.TakeLaws.{accepted_record, accepted_verdict, accepted_adds, refused_hands_back}
use Rattle.slot.specs.Slot.{free_slot, opened_by, stepped_by}
use Rattle.desk_scan.specs.Desk.{place_of, slot_of, number_in}
use Rattle.desk_rules.specs.Rules.{look_at, step_in}
use Rattle.desk_rules.specs.Right.{OpenRight, StepRight, CloseRight}
use Rattle.desk_rules.specs.Plan.{ledger_closed}
use Rattle.desk_rules.proofs.MessageLaws.{open_right, step_right, close_right, opened, stepped, closed, accepted_kind, refused_same}
use Rattle.desk_days.specs.Day.{State, Arrival, message, booked, answer_to, after, after_all, accepted_of}
use Rattle.desk_days.specs.Story.{Deed, opens, steps, closes, takes, message_in, deed_of}
use Rattle.desk_days.specs.Late.{told}

-- a refused arrival changes nothing
pub refused_after : (st : State) (a : Arrival) → (answer_to st a ≡ 0 → ⊥) → after st a ≡ st
refused_after st (message s) z =
    let same = refused_same st.ledger st.map st.desk s z in
    λ i. record { ledger = same.0 i; map = same.1 i; desk = same.2 i }
refused_after st (booked s) z =
    let same = refused_hands_back st.ledger st.map s z in
    λ i. record { ledger = same.0 i; map = same.1 i; desk = st.desk }

-- arrivals, and others after them
pub after_append : (st : State) (xs ys : List Arrival) → after_all st (xs ++ ys) ≡ after_all (after_all st xs) ys
after_append st [] ys = refl
after_append st (x ∷ xs) ys = after_append (after st x) xs ys

module _ (st : State) (s : List ℕ) where
  abbrev pub with_opened : State
  with_opened =
      record {
        ledger = st.ledger;
        map = marked_with st.map (number_in s);
        desk = set st.desk (place_of 0 st.desk) (opened_by (head_in s));
      }

  abbrev pub with_stepped : State
  with_stepped =
      record {
        ledger = st.ledger;
        map = st.map;
        desk = set st.desk (place_of (number_in s) st.desk) (stepped_by (slot_of (number_in s) st.desk) (step_in s));
      }

  abbrev pub with_closed : State
  with_closed =
      record {
        ledger = ledger_closed (look_at st.desk s) st.ledger;
        map = st.map;
        desk = set st.desk (place_of (number_in s) st.desk) free_slot;
      }

  -- what was asked of an accepted open, step and close
  abbrev pub IsOpened : Type 0
  IsOpened = OpenRight st.ledger st.map st.desk s

  abbrev pub IsStepped : Type 0
  IsStepped = StepRight st.ledger st.map st.desk s

  abbrev pub IsClosed : Type 0
  IsClosed = CloseRight st.ledger st.map st.desk s

  -- and the state after it
  pub after_opened : answer_to st (message s) ≡ 0 → kind_of s ≡ 16 → after st (message s) ≡ with_opened
  after_opened a k = let o = opened st.ledger st.map st.desk s a k in λ i. record { ledger = o.ledger i; map = o.map i; desk = o.desk i }

  pub after_stepped : answer_to st (message s) ≡ 0 → kind_of s ≡ 17 → after st (message s) ≡ with_stepped
  after_stepped a k = let o = stepped st.ledger st.map st.desk s a k in λ i. record { ledger = o.ledger i; map = o.map i; desk = o.desk i }

  pub after_closed : answer_to st (message s) ≡ 0 → kind_of s ≡ 18 → after st (message s) ≡ with_closed
  after_closed a k = let o = closed st.ledger st.map st.desk s a k in λ i. record { ledger = o.ledger i; map = o.map i; desk = o.desk i }

-- an accepted year sheet
pub record SheetTaken (l : Ledger) (m s : List ℕ) : Type 0 where
  pub first_sheet : l.sheet.there ≡ false
  pub sheet : (ledger_after l m s).sheet.there ≡ true
  pub map : map_after l m s ≡ m

-- an accepted book event
pub record EventTaken (l : Ledger) (m s : List ℕ) : Type 0 where
  pub head_listed_lem : head_listed (head_in s) ≡ true
  pub unmarked : marked m (head_in s).number ≡ false
  pub sheet : (ledger_after l m s).sheet ≡ l.sheet
  pub map : map_after l m s ≡ marked_with m (head_in s).number

module _ (l : Ledger) (m s : List ℕ) (a : answer_of l m s ≡ 0) where
  rules_at_lem : (kind : ℕ) → kind_of s ≡ kind → NoRule (rules_at kind s l.sheet m l.events)
  rules_at_lem kind k = subst (λ kind. NoRule (rules_at kind s l.sheet m l.events)) k (accepted_rules s l.sheet m l.events (accepted_record l m s a))

  adds_at : (kind : ℕ) → kind_of s ≡ kind → (ledger_after l m s ≡ added l (accepted_at kind s l.sheet)) × (map_after l m s ≡ marked_with m (accepted_at kind s l.sheet).number)
  adds_at kind k =
      let v = accepted_verdict l m s a ∙ ap (λ kind. accepted_at kind s l.sheet) k in
      ((accepted_adds l m s a).0 ∙ ap (added l) v, (accepted_adds l m s a).1 ∙ ap (λ (v : Verdict). marked_with m v.number) v)

  -- an accepted record of kind 1 is a sheet that was taken, and one of kind 2 or 3 an event that was
  pub sheet_taken : kind_of s ≡ 1 → SheetTaken l m s
  unfolding added
  sheet_taken k =
      let adds = adds_at 1 k in
      record {
        first_sheet = rules_at_lem 1 k 5;
        sheet = ap (λ (n : Ledger). n.sheet.there) adds.0;
        map = adds.1 ∙ marked_with_zero m;
      }

  -- what the rules ask of an event, and what it adds, is the same for either kind
  event_at_lem :
      (kind : ℕ) →
      kind_of s ≡ kind →
      not_listed kind s ≡ not (head_listed (head_in s)) →
      already_marked kind s m ≡ marked m (head_in s).number →
      (accepted_at kind s l.sheet).sheet ≡ l.sheet →
      (accepted_at kind s l.sheet).number ≡ (head_in s).number →
      EventTaken l m s
  unfolding added
  event_at_lem kind k listed used sheet number =
      let c = rules_at_lem kind k in
      let adds = adds_at kind k in
      record {
        head_listed_lem = not-false _ (sym listed ∙ c 7);
        unmarked = sym used ∙ c 14;
        sheet = ap (λ (n : Ledger). n.sheet) adds.0 ∙ sheet;
        map = adds.1 ∙ ap (marked_with m) number;
      }

  pub event_taken : (kind_of s ≡ 2) ⊎ (kind_of s ≡ 3) → EventTaken l m s
  unfolding event_verdict
  event_taken (inl k) = event_at_lem 2 k refl refl refl refl
  event_taken (inr k) = event_at_lem 3 k refl refl refl refl

  -- an accepted record is a sheet, a simple event or a stepped event
  pub entry_kind : (kind_of s ≡ 1) ⊎ ((kind_of s ≡ 2) ⊎ (kind_of s ≡ 3))
  entry_kind = kind_taken (kind_of s) (accepted_rules s l.sheet m l.events (accepted_record l m s a) 3)

-- what the accepted arrivals do, from the first on
module _ (st : State) (a : Arrival) (as' : List Arrival) where
  pub told_refused : (answer_to st a ≡ 0 → ⊥) → told st (a ∷ as') ≡ told (after st a) as'
  told_refused z = ap (λ t. map deed_of (cond t (a ∷ accepted_of (after st a) as') (accepted_of (after st a) as'))) (ne_eqb (answer_to st a) 0 z)

  pub told_accepted : answer_to st a ≡ 0 → told st (a ∷ as') ≡ deed_of a ∷ told (after st a) as'
  told_accepted e = ap (λ t. map deed_of (cond t (a ∷ accepted_of (after st a) as') (accepted_of (after st a) as'))) (eq-eqb (answer_to st a) 0 e)

module _ (st : State) (s : List ℕ) (as' : List Arrival) where
  told_kind : answer_to st (message s) ≡ 0 → (kind : ℕ) → kind_of s ≡ kind → told st (message s ∷ as') ≡ message_in kind s ∷ told (after st (message s)) as'
  told_kind a kind k = told_accepted st (message s) as' a ∙ ap (λ kind. message_in kind s ∷ told (after st (message s)) as') k

  -- what holds of the state after a message and of what is told from the message on
  pub telling_cases :
      (P : State → List Deed → Type 0) →
      ((answer_to st (message s) ≡ 0 → ⊥) → P st (told st as')) →
      (answer_to st (message s) ≡ 0 → kind_of s ≡ 16 → IsOpened st s → P (with_opened st s) (opens (head_in s) ∷ told (with_opened st s) as')) →
      (answer_to st (message s) ≡ 0 → kind_of s ≡ 17 → IsStepped st s → P (with_stepped st s) (steps (number_in s) (step_in s) ∷ told (with_stepped st s) as')) →
      (answer_to st (message s) ≡ 0 → kind_of s ≡ 18 → IsClosed st s → P (with_closed st s) (closes (number_in s) ∷ told (with_closed st s) as')) →
      P (after st (message s)) (told st (message s ∷ as'))
  telling_cases P refused opening stepping closing = go (test (eqb (answer_to st (message s)) 0))
    where
      at : (t : State) (ds : State → List Deed) → after st (message s) ≡ t → told st (message s ∷ as') ≡ ds (after st (message s)) → P t (ds t) → P (after st (message s)) (told st (message s ∷ as'))
      at t ds e f p = subst (P (after st (message s))) (sym f) (subst (λ t. P t (ds t)) (sym e) p)

      by_kind : answer_to st (message s) ≡ 0 → (kind_of s ≡ 16) ⊎ ((kind_of s ≡ 17) ⊎ (kind_of s ≡ 18)) → P (after st (message s)) (told st (message s ∷ as'))
      by_kind a (inl k) =
          let o = open_right st.ledger st.map st.desk s a k in
          at (with_opened st s) (λ t. opens (head_in s) ∷ told t as') (after_opened st s a k) (told_kind a 16 k) (opening a k o)
      by_kind a (inr (inl k)) =
          let o = step_right st.ledger st.map st.desk s a k in
          at (with_stepped st s) (λ t. steps (number_in s) (step_in s) ∷ told t as') (after_stepped st s a k) (told_kind a 17 k) (stepping a k o)
      by_kind a (inr (inr k)) =
          let o = close_right st.ledger st.map st.desk s a k in
          at (with_closed st s) (λ t. closes (number_in s) ∷ told t as') (after_closed st s a k) (told_kind a 18 k) (closing a k o)

      go : Tested (eqb (answer_to st (message s)) 0) → P (after st (message s)) (told st (message s ∷ as'))
      go (holds e) = let a = eqb-true _ _ e in by_kind a (accepted_kind st.ledger st.map st.desk s a)
      go (fails e) =
          let z = eqb-false _ _ e in
          at st (λ t. told t as') (refused_after st (message s) z) (told_refused st (message s) as' z) (refused z)

  -- the same of a book record
  pub entering_cases :
      (P : State → List Deed → Type 0) →
      ((answer_to st (booked s) ≡ 0 → ⊥) → P st (told st as')) →
      (answer_to st (booked s) ≡ 0 → kind_of s ≡ 1 → SheetTaken st.ledger st.map s → P (after st (booked s)) (takes s ∷ told (after st (booked s)) as')) →
      (answer_to st (booked s) ≡ 0 → (kind_of s ≡ 2) ⊎ (kind_of s ≡ 3) → EventTaken st.ledger st.map s → P (after st (booked s)) (takes s ∷ told (after st (booked s)) as')) →
      P (after st (booked s)) (told st (booked s ∷ as'))
  entering_cases P refused sheet event = go (test (eqb (answer_to st (booked s)) 0))
    where
      now : answer_to st (booked s) ≡ 0 → P (after st (booked s)) (takes s ∷ told (after st (booked s)) as') → P (after st (booked s)) (told st (booked s ∷ as'))
      now a p = subst (P (after st (booked s))) (sym (told_accepted st (booked s) as' a)) p

      by_kind : answer_to st (booked s) ≡ 0 → (kind_of s ≡ 1) ⊎ ((kind_of s ≡ 2) ⊎ (kind_of s ≡ 3)) → P (after st (booked s)) (told st (booked s ∷ as'))
      by_kind a (inl k) = now a (sheet a k (sheet_taken st.ledger st.map s a k))
      by_kind a (inr k) = now a (event a k (event_taken st.ledger st.map s a k))

      go : Tested (eqb (answer_to st (booked s)) 0) → P (after st (booked s)) (told st (booked s ∷ as'))
      go (holds e) = let a = eqb-true _ _ e in by_kind a (entry_kind st.ledger st.map s a)
      go (fails e) =
          let z = eqb-false _ _ e in
          subst (P (after st (booked s))) (sym (told_refused st (booked s) as' z)) (subst (λ t. P t (told t as')) (sym (refused_after st (booked s) z)) (refused z))

-- what holds after a message, and after a book record, where it holds in each of their cases
module _ (st : State) (s : List ℕ) (P : State → Type 0) where
  pub message_cases :
      ((answer_to st (message s) ≡ 0 → ⊥) → P st) →
      (answer_to st (message s) ≡ 0 → kind_of s ≡ 16 → IsOpened st s → P (with_opened st s)) →
      (answer_to st (message s) ≡ 0 → kind_of s ≡ 17 → IsStepped st s → P (with_stepped st s)) →
      (answer_to st (message s) ≡ 0 → kind_of s ≡ 18 → IsClosed st s → P (with_closed st s)) →
      P (after st (message s))
  message_cases = telling_cases st s [] (λ t _. P t)

  pub entry_cases :
      ((answer_to st (booked s) ≡ 0 → ⊥) → P st) →
      (answer_to st (booked s) ≡ 0 → kind_of s ≡ 1 → SheetTaken st.ledger st.map s → P (after st (booked s))) →
      (answer_to st (booked s) ≡ 0 → (kind_of s ≡ 2) ⊎ (kind_of s ≡ 3) → EventTaken st.ledger st.map s → P (after st (booked s))) →
      P (after st (booked s))
  entry_cases = entering_cases st s [] (λ t _. P t)
