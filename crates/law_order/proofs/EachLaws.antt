-- Events are accepted one after the other exactly where each is right by itself, no number is marked or comes twice, and there is room for all; then
-- their verdicts are added and their numbers marked, one by one. Assumes nothing.
use Prim.Native.Nat.{ℕ, ◌+◌, ◌<◌, ◌≤◌}
use mathlib.Core.Path.{◌≡◌, refl, sym, ap, ◌∙◌}
use mathlib.Core.Logic.{◌≢◌, ◌⊎◌, inl, inr, ◌↔◌}
use mathlib.Core.List.{List, [], ◌∷◌, map}
use mathlib.Core.Bool.{Bool, true, false, not, ◌&&◌, cond, true≢false}
use lib.ListN.{length}
use lib.Dec.{eqb, leb, ltb}
use native.Mathlib.Nat.{add-zero}
use native.Mathlib.Omega.{arith}
use borrow.Author.Tests.{eqb-false, eq-eqb, leb-false, lt-leb, ltb-true, ltb-false, not-true, not-false}
use Rattle.base.specs.First.{Clear}
use Rattle.base.specs.Lists.{All}
use Rattle.base.proofs.FirstLaws.{unclear, clear_at}
use Rattle.base.proofs.TestLaws.{Tested, holds, fails, test, and_left, and_both}
use Rattle.wire.specs.Frame.{kind_of}
use Rattle.records.proofs.TakeLaws.{first_accepted}
use Rattle.codes.specs.Codes.{rows, levels}
use Rattle.codes.specs.Ranges.{most_events}
use Rattle.annex.specs.Figure.{Figure}
use Rattle.used_numbers.specs.Marks.{marked, marked_with, map_size}
use Rattle.used_numbers.proofs.MarkLaws.{marked_with_same, marked_with_other, marked_with_past, marked_with_size}
use Rattle.fields.specs.declared.Sheet.{Sheet}
use Rattle.fields.specs.Fields.{head_in}
use Rattle.fields.specs.Tests.{head_listed}
use Rattle.verdict.specs.Verdict.{Verdict, event_verdict}
use Rattle.record.specs.Rules.{rules, by_kind, already_marked, ledger_full}
use Rattle.record.specs.Verdict.{accepted_at, record_answer}
use Rattle.record.proofs.JudgeLaws.{accepted_clear}
use Rattle.record.proofs.FairLaws.{kind_taken}
use Rattle.ledger.specs.declared.Ledger.{Ledger}
use Rattle.ledger.specs.Ledger.{held_in, added, Shaped}
use Rattle.ledger.specs.Sound.{sound_ledger}
use Rattle.ledger.specs.Take.{answer_of, ledger_after, map_after}
use Rattle.ledger.proofs.LedgerLaws.{sound_events}
use Rattle.ledger.proofs.TakeLaws.{answer_judged, accepted_verdict, accepted_adds}
use Rattle.ledger.proofs.SoundLaws.{sound_stays_sound}
use Rattle.book.specs.Book.{BookState, take_record, take_all}
use Rattle.book.proofs.RunLaws.{sound_taken, refused_in, answer_in, refused_counted}
use Rattle.law_sums.specs.Accepted.{event_at, accepted_events, short_ones, sum_of, number_in, with_number, all_marked}
use Rattle.law_sums.specs.Theorem.{Adds}
use Rattle.law_sums.proofs.StateLaws.{event_verdict_lem}
use Rattle.law_sums.proofs.AnnexTheorem.{adds_exactly}
use Rattle.law_order.specs.Each.{Right, Apart, Unmarked, Each, with_event, with_all}

-- the rules of a record: those of its bytes and the sheet, that of the map and that of the number of events
module _ (s : List ℕ) (sheet : Sheet) (m : List ℕ) (events : ℕ) where
  abbrev Apiece : Type 0
  Apiece = Right sheet s × (already_marked (kind_of s) s m ≡ false) × (ledger_full (kind_of s) events ≡ false)

  clear_apiece : Clear (rules s sheet m events) → Apiece
  clear_apiece clear =
      let c = clear_at (rules s sheet m events) clear in (
        record {
          framed = c 2;
          kind = c 3;
          size = c 4;
          there = c 5;
          range = c 6;
          listed = c 7;
          timely = c 10;
          few = c 11;
          low = c 12;
          some = c 13;
        },
        c 14,
        c 15,
      )

  apiece_clear : Apiece → Clear (rules s sheet m events)
  apiece_clear (r, a, f) =
      (r.framed, (r.kind, (r.size, (r.there, (r.range, (r.listed, (r.timely, (r.few, (r.low, (r.some, (a, (f, tt))))))))))))

-- what is asked of either kind of event is asked of an event
event_asks : (kind : ℕ) (x : Bool) → (kind ≡ 2) ⊎ (kind ≡ 3) → by_kind kind false x x ≡ x
event_asks kind x (inl e) = ap (λ k. by_kind k false x x) e
event_asks kind x (inr e) = ap (λ k. by_kind k false x x) e

module _ (sheet : Sheet) (s : List ℕ) (there : sheet.there ≡ true) (right : Right sheet s) where
  -- under a sheet, what is right is an event
  pub right_kind : (kind_of s ≡ 2) ⊎ (kind_of s ≡ 3)
  right_kind = go (kind_taken (kind_of s) right.kind)
    where
      go : (kind_of s ≡ 1) ⊎ ((kind_of s ≡ 2) ⊎ (kind_of s ≡ 3)) → (kind_of s ≡ 2) ⊎ (kind_of s ≡ 3)
      go (inl e) =
          absurd (true≢false (sym there ∙ ap (λ k. by_kind k sheet.there (not sheet.there) (not sheet.there)) (sym e) ∙ right.there))
      go (inr k) = k

  pub right_not_sheet : eqb (kind_of s) 1 ≡ false
  right_not_sheet = go right_kind
    where
      go : (kind_of s ≡ 2) ⊎ (kind_of s ≡ 3) → eqb (kind_of s) 1 ≡ false
      go (inl e) = ap (λ k. eqb k 1) e
      go (inr e) = ap (λ k. eqb k 1) e

  -- its number is not 0
  pub right_number : number_in s ≢ 0
  right_number z =
      let listed : head_listed (head_in s) ≡ true = not-false _ (sym (event_asks (kind_of s) _ right_kind) ∙ right.listed) in
      let n : eqb (number_in s) 0 ≡ false = not-true _ (and_left _ _ (and_left _ _ (and_left _ _ listed))) in
      eqb-false _ _ n z

  -- and its verdict is that of its event
  pub right_verdict : accepted_at (kind_of s) s sheet ≡ event_at sheet s
  right_verdict = event_verdict_lem s sheet right_not_sheet

-- a number is still unmarked, once another is marked, exactly where it was and the two are apart
module _ (m : List ℕ) (v w : ℕ) (size : length m ≡ map_size) (some : v ≢ 0) where
  pub still_unmarked : (marked (marked_with m v) w ≡ false) ↔ ((marked m w ≡ false) × Apart v w)
  still_unmarked = go (test (ltb v 65536))
    where
      go : Tested (ltb v 65536) → (marked (marked_with m v) w ≡ false) ↔ ((marked m w ≡ false) × Apart v w)
      go (holds b) =
          let l : v < 65536 = ltb-true _ _ b in
          let apart : marked (marked_with m v) w ≡ false → v ≢ w =
          λ e same. true≢false (sym (marked_with_same m v size l some) ∙ ap (marked (marked_with m v)) same ∙ e) in (
            (λ e. (sym (marked_with_other m v w (apart e)) ∙ e, λ _. apart e)),
            (λ (e, d). marked_with_other m v w (d l) ∙ e),
          )
      go (fails b) =
          let l : 65536 ≤ v = ltb-false _ _ b in
          let same : marked_with m v ≡ m = marked_with_past m v (omega (arith, size)) in (
            (λ e. (ap (λ n. marked n w) (sym same) ∙ e, λ a. absurd (omega (arith, a, l)))),
            (λ (e, d). ap (λ n. marked n w) same ∙ e),
          )

-- the same of all the numbers that come after it
module _ (m : List ℕ) (s : List ℕ) (size : length m ≡ map_size) (some : number_in s ≢ 0) where
  pub all_unmarked :
      (ss : List (List ℕ)) →
      All (Unmarked (with_number m s)) ss ↔ (All (Unmarked m) ss × All (Apart (number_in s)) (map number_in ss))
  all_unmarked [] = ((λ a. (tt, tt)), (λ a. tt))
  all_unmarked (t ∷ ts) =
      let one = still_unmarked m (number_in s) (number_in t) size some in
      let rest = all_unmarked ts in (
        (λ a. (((one.0 a.0).0, (rest.0 a.1).0), ((one.0 a.0).1, (rest.0 a.1).1))),
        (λ (u, d). (one.1 (u.0, d.0), rest.1 (u.1, d.1))),
      )

-- a ledger and a map that take events: sound, with a sheet
pub record Ready (l : Ledger) (m : List ℕ) : Type 0 where
  pub there : l.sheet.there ≡ true
  pub sound : sound_ledger l ≡ true
  pub size : length m ≡ map_size

module _ (l : Ledger) (m s : List ℕ) (ready : Ready l m) where
  judged : answer_of l m s ≡ record_answer s l.sheet m l.events
  judged = answer_judged l m s (sound_taken l m ready.sound ready.size)

  -- one record: right by itself, with a number that is not marked, and room for it
  pub one_accepted : (answer_of l m s ≡ 0) ↔ (Right l.sheet s × Unmarked m s × (l.events < most_events))
  unfolding record_answer
  one_accepted = (to, from)
    where
      to : answer_of l m s ≡ 0 → Right l.sheet s × Unmarked m s × (l.events < most_events)
      to a =
          let (right, unmarked, room) = clear_apiece s l.sheet m l.events (accepted_clear s l.sheet m l.events (sym judged ∙ a)) in
          let kind = right_kind l.sheet s ready.there right in (
            right,
            sym (event_asks (kind_of s) (marked m (number_in s)) kind) ∙ unmarked,
            leb-false _ _ (sym (event_asks (kind_of s) (leb most_events l.events) kind) ∙ room),
          )

      from : Right l.sheet s × Unmarked m s × (l.events < most_events) → answer_of l m s ≡ 0
      from (right, unmarked, room) =
          let kind = right_kind l.sheet s ready.there right in
          judged ∙
          unclear (rules s l.sheet m l.events)
          (apiece_clear s l.sheet m l.events (
            right,
            event_asks (kind_of s) (marked m (number_in s)) kind ∙ unmarked,
            event_asks (kind_of s) (leb most_events l.events) kind ∙ lt-leb most_events l.events room,
          ))

  module _ (right : Right l.sheet s) (accepted : answer_of l m s ≡ 0) where
    -- its event is added, and its number marked
    pub one_adds : (ledger_after l m s ≡ with_event l.sheet l s) × (map_after l m s ≡ with_number m s)
    unfolding event_verdict
    one_adds =
        let v = accepted_verdict l m s accepted ∙ right_verdict l.sheet s ready.there right in (
          (accepted_adds l m s accepted).0 ∙ ap (added l) v,
          (accepted_adds l m s accepted).1 ∙ ap (λ (v : Verdict). marked_with m v.number) v,
        )

    -- ledger and map are ready then too
    pub ready_after : Ready (with_event l.sheet l s) (with_number m s)
    unfolding added event_verdict
    ready_after =
        record {
          there = ready.there;
          sound = ap sound_ledger (sym one_adds.0) ∙ sound_stays_sound l m s ready.sound;
          size = marked_with_size m (number_in s) ∙ ready.size;
        }

    -- the book's state then: its event added, its number marked, and as many refused as before
    pub one_taken :
        (r : ℕ) →
        take_record (record { ledger = l; map = m; refused = r }) s ≡ record { ledger = with_event l.sheet l s; map = with_number m s; refused = r }
    unfolding take_record
    one_taken r =
        let none : r + cond (eqb (answer_of l m s) 0) 0 1 ≡ r = ap (λ t. r + cond t 0 1) (eq-eqb _ _ accepted) ∙ add-zero r in
        λ i. record { ledger = one_adds.0 i; map = one_adds.1 i; refused = none i }

-- where none is refused, all that is asked of them holds
accepted_each :
    (l : Ledger) (m : List ℕ) (r : ℕ) (ss : List (List ℕ)) →
    Ready l m →
    (take_all (record { ledger = l; map = m; refused = r }) ss).refused ≡ r →
    Each l.sheet m l.events ss
unfolding added event_verdict
accepted_each l m r [] ready e = record { right = tt; unmarked = tt; different = tt; room = omega (arith, sound_events l ready.sound) }
accepted_each l m r (s ∷ ss) ready e =
    let accepted : answer_of l m s ≡ 0 = first_accepted take_record refused_in answer_in refused_counted (record { ledger = l; map = m; refused = r }) s ss e in
    let (right, unmarked, room) = (one_accepted l m s ready).0 accepted in
    let rest : Each l.sheet (with_number m s) (l.events + 1) ss =
    accepted_each (with_event l.sheet l s) (with_number m s) r ss (ready_after l m s ready right accepted)
    (ap (λ (st : BookState). (take_all st ss).refused) (sym (one_taken l m s ready right accepted r)) ∙ e) in
    let others = (all_unmarked m s ready.size (right_number l.sheet s ready.there right) ss).0 rest.unmarked in
    record {
      right = (right, rest.right);
      unmarked = (unmarked, others.0);
      different = (others.1, rest.different);
      room = omega (arith, rest.room);
    }

-- where it holds the first is accepted, and it holds of the others after it
each_next :
    (l : Ledger) (m s : List ℕ) (ss : List (List ℕ)) →
    Ready l m →
    Each l.sheet m l.events (s ∷ ss) →
    (answer_of l m s ≡ 0) × Right l.sheet s × Each l.sheet (with_number m s) (l.events + 1) ss
each_next l m s ss ready each =
    let right = each.right.0 in
    let number = right_number l.sheet s ready.there right in (
      (one_accepted l m s ready).1 (right, each.unmarked.0, omega (arith, each.room)),
      right,
      record {
        right = each.right.1;
        unmarked = (all_unmarked m s ready.size number ss).1 (each.unmarked.1, each.different.0);
        different = each.different.1;
        room = omega (arith, each.room);
      },
    )

-- so none is refused, their events are added and their numbers marked
pub each_taken :
    (l : Ledger) (m : List ℕ) (r : ℕ) (ss : List (List ℕ)) →
    Ready l m →
    Each l.sheet m l.events ss →
    take_all (record { ledger = l; map = m; refused = r }) ss ≡ record { ledger = with_all l.sheet l ss; map = all_marked m ss; refused = r }
unfolding added event_verdict
each_taken l m r [] ready each = refl
each_taken l m r (s ∷ ss) ready each =
    let (accepted, right, rest) = each_next l m s ss ready each in
    ap (λ (st : BookState). take_all st ss) (one_taken l m s ready right accepted r) ∙
    each_taken (with_event l.sheet l s) (with_number m s) r ss (ready_after l m s ready right accepted) rest

-- events are all accepted exactly where all that is asked of them holds: nothing in it looks at their order
pub each_accepted :
    (st : BookState) (ss : List (List ℕ)) →
    Ready st.ledger st.map →
    ((take_all st ss).refused ≡ st.refused) ↔ Each st.ledger.sheet st.map st.ledger.events ss
each_accepted st ss ready = (
  accepted_each st.ledger st.map st.refused ss ready,
  λ each. ap (λ (st : BookState). st.refused) (each_taken st.ledger st.map st.refused ss ready each),
)

-- they all count: the sums of *accepted events add exactly the annex* are over all of them
pub each_counted :
    (l : Ledger) (m : List ℕ) (r : ℕ) (ss : List (List ℕ)) →
    Ready l m →
    Each l.sheet m l.events ss →
    accepted_events (record { ledger = l; map = m; refused = r }) ss ≡ ss
unfolding added event_verdict
each_counted l m r [] ready each = refl
each_counted l m r (s ∷ ss) ready each =
    let (accepted, right, rest) = each_next l m s ss ready each in
    let counts : (eqb (answer_of l m s) 0 && not (eqb (kind_of s) 1)) ≡ true =
    and_both _ _ (eq-eqb _ _ accepted) (ap not (right_not_sheet l.sheet s ready.there right)) in
    rw counts
    (ap (λ (st : BookState). s ∷ accepted_events st ss) (one_taken l m s ready right accepted r) ∙
    ap (λ es. s ∷ es) (each_counted (with_event l.sheet l s) (with_number m s) r ss (ready_after l m s ready right accepted) rest))

-- so the sheet stays, events and short events grow by their numbers, and each cell by the annex's sum over them
pub with_sheet_lem : (sheet : Sheet) (l : Ledger) (ss : List (List ℕ)) → l.sheet ≡ sheet → (with_all sheet l ss).sheet ≡ sheet
unfolding added event_verdict
with_sheet_lem sheet l [] e = e
with_sheet_lem sheet l (s ∷ ss) e = with_sheet_lem sheet (with_event sheet l s) ss refl

module _ (l : Ledger) (m : List ℕ) (ss : List (List ℕ)) (ready : Ready l m) (each : Each l.sheet m l.events ss) where
  abbrev before : BookState
  before = record { ledger = l; map = m; refused = 0 }

  abbrev after : Ledger
  after = with_all l.sheet l ss

  same : (take_all before ss).ledger ≡ after
  same = ap (λ (st : BookState). st.ledger) (each_taken l m 0 ss ready each)

  counted : accepted_events before ss ≡ ss
  counted = each_counted l m 0 ss ready each

  pub each_sheet : after.sheet ≡ l.sheet
  each_sheet = with_sheet_lem l.sheet l ss refl

  module _ (shaped : Shaped l) where
    adds : Adds before ss
    adds = adds_exactly before ss shaped

    pub each_events : after.events ≡ l.events + length ss
    each_events = ap (λ (k : Ledger). k.events) (sym same) ∙ adds.events ∙ ap (λ es. l.events + length es) counted

    pub each_short : after.short ≡ l.short + length (short_ones ss)
    each_short = ap (λ (k : Ledger). k.short) (sym same) ∙ adds.short ∙ ap (λ es. l.short + length (short_ones es)) counted

    pub each_cells : (x : Figure) (row h : ℕ) → row < rows → h < levels → held_in x after row h ≡ held_in x l row h + sum_of x row h ss
    each_cells x row h r c =
        ap (λ (k : Ledger). held_in x k row h) (sym same) ∙ adds.cells x row h r c ∙ ap (λ es. held_in x l row h + sum_of x row h es) counted
