-- What records do to the map and to the sheet: an accepted event marks its number and leaves the sheet, an accepted sheet leaves the map and is the sheet
-- from then on, and a refused record leaves both. Assumes nothing.
use Prim.Native.Nat.{ℕ, ◌/◌, ◌%◌, ◌^◌, ◌<◌}
use mathlib.Core.Path.{◌≡◌, refl, sym, ap, ◌∙◌, subst}
use mathlib.Core.Logic.{◌≢◌}
use mathlib.Core.List.{List, [], ◌∷◌}
use mathlib.Core.Bool.{Bool, true, false, ◌&&◌, ◌||◌, not, cond, or-false, or-true, or_assoc, true≢false}
use lib.ListN.{length}
use lib.Dec.{eqb}
use native.Mathlib.Nat.{zero-div}
use borrow.Author.Tests.{eqb-true, eqb-false, not-false, not-true}
use Rattle.base.specs.Lists.{listed}
use Rattle.base.proofs.ListLaws.{alike_at}
use Rattle.base.proofs.TestLaws.{Tested, holds, fails, test, and_left, or_left}
use Rattle.wire.specs.Frame.{kind_of}
use Rattle.used_numbers.specs.Marks.{map_size, bit_of, marked, marked_with}
use Rattle.used_numbers.proofs.MarkLaws.{marked_with_same, marked_with_other}
use Rattle.fields.specs.declared.Sheet.{Sheet}
use Rattle.fields.specs.Fields.{sheet_in, head_in}
use Rattle.fields.specs.Tests.{head_listed}
use Rattle.verdict.specs.Verdict.{Verdict, sheet_verdict, event_verdict}
use Rattle.record.specs.Rules.{by_kind}
use Rattle.record.specs.Verdict.{accepted_at}
use Rattle.ledger.specs.declared.Ledger.{Ledger}
use Rattle.ledger.specs.Ledger.{added}
use Rattle.ledger.specs.Sound.{sound_ledger}
use Rattle.ledger.specs.Take.{answer_of, ledger_after, map_after}
use Rattle.ledger.proofs.TakeLaws.{accepted_sound, accepted_verdict, accepted_adds, refused_hands_back, sheet_leaves_map}
use Rattle.ledger.proofs.ExactlyThen.{accepted_rules}
use Rattle.book.specs.Book.{BookState, take_record, take_all}
use Rattle.law_sums.specs.Accepted.{zero_map, event_at, number_in, numbers_of, with_number, all_marked, accepted_events, accepted_sheets, sheet_by}

-- a record that is no sheet adds, where it is accepted, the verdict on the event that it tells
pub event_verdict_lem : (s : List ℕ) (sheet : Sheet) → eqb (kind_of s) 1 ≡ false → accepted_at (kind_of s) s sheet ≡ event_at sheet s
event_verdict_lem s sheet k = go (test (eqb (kind_of s) 2))
  where
    go : Tested (eqb (kind_of s) 2) → accepted_at (kind_of s) s sheet ≡ event_at sheet s
    go (holds e) = rw (k, e)
    go (fails e) = rw (k, e)

-- what is asked of events is asked of a record of a kind taken that is no sheet
event_asked : (kind : ℕ) (x : Bool) → not (by_kind kind true true true) ≡ false → eqb kind 1 ≡ false → by_kind kind false x x ≡ false → x ≡ false
event_asked kind x t k e = go (eqb kind 1) (eqb kind 2) (eqb kind 3) t k e
  where
    go :
        (a b c : Bool) →
        not (cond a true (cond b true (cond c true false))) ≡ false →
        a ≡ false →
        cond a false (cond b x (cond c x false)) ≡ false →
        x ≡ false
    go true b c t k e = absurd (true≢false k)
    go false true c t k e = e
    go false false true t k e = e
    go false false false t k e = absurd (true≢false t)

-- the head of an accepted record that is no sheet is listed
pub accepted_listed : (l : Ledger) (m s : List ℕ) → answer_of l m s ≡ 0 → eqb (kind_of s) 1 ≡ false → head_listed (head_in s) ≡ true
accepted_listed l m s a k =
    let c = accepted_rules l m s a in
    not-false _ (event_asked (kind_of s) (not (head_listed (head_in s))) (c 3) k (c 7))

-- which numbers a map has marked, once one that is not 0 is marked
marks_one :
    (m : List ℕ) (n v : ℕ) →
    length m ≡ map_size →
    n ≢ 0 →
    v < 65536 →
    marked (marked_with m n) v ≡ (marked m v || eqb v n)
marks_one m n v size some b = go (test (eqb v n))
  where
    go : Tested (eqb v n) → marked (marked_with m n) v ≡ (marked m v || eqb v n)
    go (holds e) =
        let same : v ≡ n = eqb-true v n e in
        rw e (
        ap (marked (marked_with m n)) same ∙ marked_with_same m n size (subst (λ (k : ℕ). k < 65536) same b) some ∙ sym (or-true (marked m v))
        )
    go (fails e) = rw e (marked_with_other m n v (λ same. eqb-false v n e (sym same)) ∙ sym (or-false (marked m v)))

module _ (l : Ledger) (m s : List ℕ) where
  abbrev is_sheet_lem : Bool
  is_sheet_lem = eqb (kind_of s) 1

  abbrev accepted : Bool
  accepted = eqb (answer_of l m s) 0

  record_marks : map_after l m s ≡ cond (accepted && not is_sheet_lem) (with_number m s) m
  unfolding event_verdict
  record_marks = go (test accepted) (test is_sheet_lem)
    where
      go : Tested accepted → Tested is_sheet_lem → map_after l m s ≡ cond (accepted && not is_sheet_lem) (with_number m s) m
      go (fails e) k = rw e (refused_hands_back l m s (eqb-false _ _ e)).1
      go (holds e) (holds k) = rw (e, k) (sheet_leaves_map l m s (eqb-true _ _ k))
      go (holds e) (fails k) =
          let a : answer_of l m s ≡ 0 = eqb-true _ _ e in
          rw (e, k) (
          (accepted_adds l m s a).1 ∙
          ap (λ (v : Verdict). marked_with m v.number) (accepted_verdict l m s a ∙ event_verdict_lem s l.sheet k)
          )

  record_sheet : (ledger_after l m s).sheet ≡ cond (accepted && is_sheet_lem) (sheet_in s) l.sheet
  unfolding added event_verdict
  record_sheet = go (test accepted) (test is_sheet_lem)
    where
      go : Tested accepted → Tested is_sheet_lem → (ledger_after l m s).sheet ≡ cond (accepted && is_sheet_lem) (sheet_in s) l.sheet
      go (fails e) k = rw e (ap (λ (k : Ledger). k.sheet) (refused_hands_back l m s (eqb-false _ _ e)).0)
      go (holds e) (holds k) =
          let a : answer_of l m s ≡ 0 = eqb-true _ _ e in
          let v : accepted_at (kind_of s) s l.sheet ≡ sheet_verdict (sheet_in s) = rw k in
          rw (e, k) (ap (λ (k : Ledger). k.sheet) (accepted_adds l m s a).0 ∙ ap (λ (v : Verdict). v.sheet) (accepted_verdict l m s a ∙ v))
      go (holds e) (fails k) =
          let a : answer_of l m s ≡ 0 = eqb-true _ _ e in
          rw (e, k) (
          ap (λ (k : Ledger). k.sheet) (accepted_adds l m s a).0 ∙
          ap (λ (v : Verdict). v.sheet) (accepted_verdict l m s a ∙ event_verdict_lem s l.sheet k)
          )

  -- an accepted event's number is marked, and every other number is as it was
  record_marked : (v : ℕ) → v < 65536 → marked (map_after l m s) v ≡ (marked m v || (accepted && not is_sheet_lem && eqb v (number_in s)))
  record_marked v b = ap (λ (n : List ℕ). marked n v) record_marks ∙ go (test accepted) (test is_sheet_lem)
    where
      go :
          Tested accepted →
          Tested is_sheet_lem →
          marked (cond (accepted && not is_sheet_lem) (with_number m s) m) v ≡ (marked m v || (accepted && not is_sheet_lem && eqb v (number_in s)))
      go (fails e) k = rw e (sym (or-false (marked m v)))
      go (holds e) (holds k) = rw (e, k) (sym (or-false (marked m v)))
      go (holds e) (fails k) =
          let a : answer_of l m s ≡ 0 = eqb-true (answer_of l m s) 0 e in
          let n : eqb (number_in s) 0 ≡ false = not-true _ (and_left _ _ (and_left _ _ (and_left _ _ (accepted_listed l m s a k)))) in
          let size : not (eqb (length m) map_size) ≡ false = or_left _ (not (sound_ledger l)) (accepted_sound l m s a) in
          rw (e, k) (marks_one m (number_in s) v (eqb-true _ _ (not-false _ size)) (eqb-false (number_in s) 0 n) b)

  -- a sheet is accepted where none is there
  first_sheet : (accepted && is_sheet_lem) ≡ true → l.sheet.there ≡ false
  first_sheet e = go (test accepted) (test is_sheet_lem) e
    where
      go : Tested accepted → Tested is_sheet_lem → (accepted && is_sheet_lem) ≡ true → l.sheet.there ≡ false
      go (fails f) k t = absurd (true≢false (sym t ∙ ap (λ (b : Bool). b && is_sheet_lem) f))
      go (holds f) (fails k) t = absurd (true≢false (sym t ∙ rw (f, k)))
      go (holds f) (holds k) t =
          let one : 1 ≡ kind_of s = sym (eqb-true (kind_of s) 1 k) in
          ap (λ (kind : ℕ). by_kind kind l.sheet.there (not l.sheet.there) (not l.sheet.there)) one ∙
          accepted_rules l m s (eqb-true (answer_of l m s) 0 f) 5

-- all of them together
pub records_mark : (st : BookState) (ss : List (List ℕ)) → (take_all st ss).map ≡ all_marked st.map (accepted_events st ss)
unfolding take_record
records_mark st [] = refl
records_mark st (s ∷ ss) =
    records_mark (take_record st s) ss ∙
    ap (λ (m : List ℕ). all_marked m rest) (record_marks st.ledger st.map s) ∙
    one_more (eqb (answer_of st.ledger st.map s) 0 && not (eqb (kind_of s) 1))
  where
    rest : List (List ℕ)
    rest = accepted_events (take_record st s) ss

    one_more : (t : Bool) → all_marked (cond t (with_number st.map s) st.map) rest ≡ all_marked st.map (cond t (s ∷ rest) rest)
    one_more true = refl
    one_more false = refl

-- so the numbers that are marked are those that were, and those of the accepted events
pub records_marked :
    (st : BookState) (ss : List (List ℕ)) (v : ℕ) →
    v < 65536 →
    marked (take_all st ss).map v ≡ (marked st.map v || listed v (numbers_of (accepted_events st ss)))
unfolding take_record
records_marked st [] v b = sym (or-false _)
records_marked st (s ∷ ss) v b =
    records_marked (take_record st s) ss v b ∙
    ap (λ (t : Bool). t || listed v (numbers_of rest)) (record_marked st.ledger st.map s v b) ∙
    one_more (marked st.map v) (eqb (answer_of st.ledger st.map s) 0) (not (eqb (kind_of s) 1))
  where
    rest : List (List ℕ)
    rest = accepted_events (take_record st s) ss

    one_more :
        (was t u : Bool) →
        ((was || (t && u && eqb v (number_in s))) || listed v (numbers_of rest)) ≡
        (was || listed v (numbers_of (cond (t && u) (s ∷ rest) rest)))
    one_more was true true = or_assoc was (eqb v (number_in s)) (listed v (numbers_of rest))
    one_more was true false = ap (λ (t : Bool). t || listed v (numbers_of rest)) (or-false was)
    one_more was false u = ap (λ (t : Bool). t || listed v (numbers_of rest)) (or-false was)

-- the all-zero map marks nothing
pub zero_unmarked : (v : ℕ) → marked zero_map v ≡ false
unfolding marked
zero_unmarked v = ap (λ (b : ℕ). bit_of b (v % 8)) (alike_at map_size (v / 8) 0) ∙ ap (λ (q : ℕ). eqb (q % 2) 1) (zero-div (2 ^ (v % 8)))

-- once there, a sheet stays
stays : (s : List ℕ) (ss : List (List ℕ)) → sheet_by (sheet_in s) ss ≡ sheet_in s
stays s [] = refl
stays s (t ∷ ss) = refl

-- the sheet after records is the one that was there, or else that of the first accepted sheet record
pub records_sheet : (st : BookState) (ss : List (List ℕ)) → (take_all st ss).ledger.sheet ≡ sheet_by st.ledger.sheet (accepted_sheets st ss)
unfolding take_record
records_sheet st [] = refl
records_sheet st (s ∷ ss) =
    records_sheet (take_record st s) ss ∙
    ap (λ (sheet : Sheet). sheet_by sheet rest) (record_sheet st.ledger st.map s) ∙
    one_more (eqb (answer_of st.ledger st.map s) 0 && eqb (kind_of s) 1) (first_sheet st.ledger st.map s)
  where
    rest : List (List ℕ)
    rest = accepted_sheets (take_record st s) ss

    one_more :
        (t : Bool) →
        (t ≡ true → st.ledger.sheet.there ≡ false) →
        sheet_by (cond t (sheet_in s) st.ledger.sheet) rest ≡ sheet_by st.ledger.sheet (cond t (s ∷ rest) rest)
    one_more true none = stays s rest ∙ sym (ap (λ (there : Bool). cond there st.ledger.sheet (sheet_in s)) (none refl))
    one_more false none = refl
