-- Two days, one after the other, the first of which leaves nothing open: the complete records of both are those of the one and then those of the
-- other. A number's deeds are its open, its steps and its close, in each of the days and in both together. Assumes nothing.
use Prim.Native.Nat.{ℕ}
use mathlib.Core.Path.{◌≡◌, refl, ap, ◌∙◌, sym, subst}
use mathlib.Core.List.{List, [], ◌∷◌, ◌++◌, map, append-nil, append_assoc, map-append}
use mathlib.Core.Bool.{Bool, true, false, cond}
use lib.Dec.{eqb}
use Rattle.base.specs.Lists.{All, Bytes}
use Rattle.base.proofs.ListLaws.{all_both, all_front, all_back, keep_append, all_append}
use Rattle.annex.specs.declared.Step.{Step}
use Rattle.fields.specs.declared.Head.{Head}
use Rattle.ledger.specs.declared.Ledger.{Ledger}
use Rattle.book.specs.Book as book
use Rattle.book.specs.Book.{starting, take_all}
use Rattle.slot.specs.Slot.{free_slot}
use Rattle.desk_days.specs.Day.{State, Arrival, bytes_of, answer_to, after, after_all, accepted_of}
use Rattle.desk_days.specs.Story.{Deed, opens, steps, closes, takes, deed_of, SteppedEvent, event_for, closings, names, about, open_deeds, complete_in, empty_day, NothingOpen}
use Rattle.desk_days.proofs.AfterLaws.{after_append}
use Rattle.desk_days.proofs.StoryLaws.{closings_append, complete_append, complete_same}
use Rattle.desk_days.proofs.StepByStep.{slots_reused, day_in_records, in_order}
use Rattle.desk_runs.specs.Runs.{Builds}

-- ---- an event read from its deeds: the one that is told first, and the one that is told last

abbrev until_close : List Deed → List Step
until_close [] = []
until_close (opens h ∷ ds) = []
until_close (steps w st ∷ ds) = st ∷ until_close ds
until_close (closes w ∷ ds) = []
until_close (takes s ∷ ds) = []

abbrev first_told : List Deed → SteppedEvent
first_told [] = record { head = free_slot.head; steps = [] }
first_told (opens h ∷ ds) = record { head = h; steps = until_close ds }
first_told (steps w st ∷ ds) = first_told ds
first_told (closes w ∷ ds) = first_told ds
first_told (takes s ∷ ds) = first_told ds

until_close_lem : (v : ℕ) (ss : List Step) (ds : List Deed) → until_close (map (λ st. steps v st) ss ++ closes v ∷ ds) ≡ ss
until_close_lem v [] ds = refl
until_close_lem v (st ∷ ss) ds = ap (λ xs. st ∷ xs) (until_close_lem v ss ds)

first_told_lem : (v : ℕ) (e : SteppedEvent) (ds : List Deed) → first_told (open_deeds v e ++ closes v ∷ ds) ≡ e
first_told_lem v e ds = λ i. record { head = e.head; steps = until_close_lem v e.steps ds i }

abbrev last_told : SteppedEvent → List Deed → SteppedEvent
last_told e [] = e
last_told e (opens h ∷ ds) = last_told (record { head = h; steps = [] }) ds
last_told e (steps w st ∷ ds) = last_told (record { head = e.head; steps = e.steps ++ st ∷ [] }) ds
last_told e (closes w ∷ ds) = last_told e ds
last_told e (takes s ∷ ds) = last_told e ds

last_append : (e : SteppedEvent) (xs ys : List Deed) → last_told e (xs ++ ys) ≡ last_told (last_told e xs) ys
last_append e [] ys = refl
last_append e (opens h ∷ xs) ys = last_append (record { head = h; steps = [] }) xs ys
last_append e (steps w st ∷ xs) ys = last_append (record { head = e.head; steps = e.steps ++ st ∷ [] }) xs ys
last_append e (closes w ∷ xs) ys = last_append e xs ys
last_append e (takes s ∷ xs) ys = last_append e xs ys

last_steps : (h : Head) (so ss : List Step) (v : ℕ) → last_told (record { head = h; steps = so }) (map (λ st. steps v st) ss ++ closes v ∷ []) ≡ record { head = h; steps = so ++ ss }
last_steps h so [] v = λ i. record { head = h; steps = sym (append-nil so) i }
last_steps h so (st ∷ ss) v = last_steps h (so ++ st ∷ []) ss v ∙ (λ i. record { head = h; steps = append_assoc so (st ∷ []) ss i })

last_told_lem : (none : SteppedEvent) (v : ℕ) (e : SteppedEvent) → last_told none (open_deeds v e ++ closes v ∷ []) ≡ e
last_told_lem none v e = last_steps e.head [] e.steps v

-- ---- deeds in their order

-- the deeds of a number are its open, its steps and its close
abbrev InOrder : List Deed → ℕ → Type 0
InOrder ds v = about v ds ≡ open_deeds v (event_for ds v) ++ closes v ∷ []

module _ (xs ys : List Deed) (v : ℕ) (both : InOrder (xs ++ ys) v) where
  -- what is closed in the first is told in the first
  told_before : InOrder xs v → event_for (xs ++ ys) v ≡ event_for xs v
  told_before o =
      let same : open_deeds v (event_for (xs ++ ys) v) ++ closes v ∷ [] ≡ open_deeds v (event_for xs v) ++ closes v ∷ about v ys =
      sym both ∙
      keep_append (names v) xs ys ∙
      ap (λ ds. ds ++ about v ys) o ∙
      append_assoc (open_deeds v (event_for xs v)) (closes v ∷ []) (about v ys) in
      sym (first_told_lem v (event_for (xs ++ ys) v) []) ∙ ap first_told same ∙ first_told_lem v (event_for xs v) (about v ys)

  -- what is closed in the second is told in the second
  told_after : InOrder ys v → event_for (xs ++ ys) v ≡ event_for ys v
  told_after o =
      let none : SteppedEvent = record { head = free_slot.head; steps = [] } in
      let same : open_deeds v (event_for (xs ++ ys) v) ++ closes v ∷ [] ≡ about v xs ++ (open_deeds v (event_for ys v) ++ closes v ∷ []) =
      sym both ∙ keep_append (names v) xs ys ∙ ap (λ ds. about v xs ++ ds) o in
      sym (last_told_lem none v (event_for (xs ++ ys) v)) ∙
      ap (last_told none) same ∙
      last_append none (about v xs) (open_deeds v (event_for ys v) ++ closes v ∷ []) ∙
      last_told_lem (last_told none (about v xs)) v (event_for ys v)

records_join :
    (xs ys : List Deed) →
    All (InOrder xs) (closings xs) →
    All (InOrder ys) (closings ys) →
    All (InOrder (xs ++ ys)) (closings (xs ++ ys)) →
    complete_in (xs ++ ys) (xs ++ ys) ≡ complete_in xs xs ++ complete_in ys ys
records_join xs ys a b c =
    let whole : All (InOrder (xs ++ ys)) (closings xs ++ closings ys) = subst (All (InOrder (xs ++ ys))) (closings_append xs ys) c in
    let before : complete_in (xs ++ ys) xs ≡ complete_in xs xs =
    complete_same (xs ++ ys) xs xs
    (all_both (told_before xs ys) (closings xs) (all_front (InOrder (xs ++ ys)) (closings xs) (closings ys) whole) a) in
    let behind : complete_in (xs ++ ys) ys ≡ complete_in ys ys =
    complete_same (xs ++ ys) ys ys
    (all_both (told_after xs ys) (closings ys) (all_back (InOrder (xs ++ ys)) (closings xs) (closings ys) whole) b) in
    complete_append (xs ++ ys) xs ys ∙ (λ i. before i ++ behind i)

-- ---- days

accepted_append : (st : State) (xs ys : List Arrival) → accepted_of st (xs ++ ys) ≡ accepted_of st xs ++ accepted_of (after_all st xs) ys
accepted_append st [] ys = refl
accepted_append st (a ∷ xs) ys = go (eqb (answer_to st a) 0) (accepted_append (after st a) xs ys)
  where
    go :
        (t : Bool) →
        accepted_of (after st a) (xs ++ ys) ≡ accepted_of (after st a) xs ++ accepted_of (after_all (after st a) xs) ys →
        cond t (a ∷ accepted_of (after st a) (xs ++ ys)) (accepted_of (after st a) (xs ++ ys)) ≡
        cond t (a ∷ accepted_of (after st a) xs) (accepted_of (after st a) xs) ++ accepted_of (after_all (after st a) xs) ys
    go true e = ap (λ zs. a ∷ zs) e
    go false e = e

module _ (l : Ledger) (m : List ℕ) (rs : List (List ℕ)) (xs : List Arrival) (k : Builds l m rs xs) where
  -- the book that takes the records refuses none
  pub builds_taken : take_all (starting l m) rs ≡ record { ledger = (after_all (empty_day l m) xs).ledger; map = (after_all (empty_day l m) xs).map; refused = 0 }
  builds_taken = ap (take_all (starting l m)) (sym k.complete) ∙ day_in_records l m xs k.in_bytes k.nothing_open

  -- the day ends with its ledger and its map, and with an empty desk
  pub builds_end : after_all (empty_day l m) xs ≡ empty_day (take_all (starting l m) rs).ledger (take_all (starting l m) rs).map
  builds_end =
      λ i.
      record {
        ledger = ap (λ (x : book.BookState). x.ledger) (sym builds_taken) i;
        map = ap (λ (x : book.BookState). x.map) (sym builds_taken) i;
        desk = slots_reused l m xs k.in_bytes k.nothing_open i;
      }

  -- a day that goes on from there goes on building
  pub builds_then :
      (rs' : List (List ℕ)) (ys : List Arrival) →
      Builds (take_all (starting l m) rs).ledger (take_all (starting l m) rs).map rs' ys →
      Builds l m (rs ++ rs') (xs ++ ys)
  builds_then rs' ys j =
      let st : State = empty_day l m in
      let mid : State = empty_day (take_all (starting l m) rs).ledger (take_all (starting l m) rs).map in
      let one : List Deed = map deed_of (accepted_of st xs) in
      let two : List Deed = map deed_of (accepted_of mid ys) in
      let bytes : All (λ a. Bytes (bytes_of a)) (xs ++ ys) = all_append (λ a. Bytes (bytes_of a)) xs ys k.in_bytes j.in_bytes in
      let deeds : map deed_of (accepted_of st (xs ++ ys)) ≡ one ++ two =
      ap (map deed_of) (accepted_append st xs ys ∙ ap (λ x. accepted_of st xs ++ accepted_of x ys) builds_end) ∙
      map-append deed_of (accepted_of st xs) (accepted_of mid ys) in
      record {
        in_bytes = bytes;
        nothing_open = subst (λ x. NothingOpen x.desk) (sym (after_append st xs ys ∙ ap (λ x. after_all x ys) builds_end)) j.nothing_open;
        complete =
            ap (λ ds. complete_in ds ds) deeds ∙
            records_join one two
            (in_order l m xs k.in_bytes)
            (in_order (take_all (starting l m) rs).ledger (take_all (starting l m) rs).map ys j.in_bytes)
            (subst (λ ds. All (InOrder ds) (closings ds)) deeds (in_order l m (xs ++ ys) bytes)) ∙
            (λ i. k.complete i ++ j.complete i);
      }

-- nothing is built by nothing
pub builds_none : (l : Ledger) (m : List ℕ) → NothingOpen (empty_day l m).desk → Builds l m [] []
builds_none l m free = record { in_bytes = tt; nothing_open = free; complete = refl }
