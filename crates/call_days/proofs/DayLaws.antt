-- The theorem *calls are a day*: from words that hold a ledger, after any calls with the right header, the words hold a ledger again, and ledger, map and desk are
-- those of a day on which the calls' records and messages arrived. What is proved of days is so proved of calls. Assumes nothing.
use Prim.Native.Nat.{ℕ}
use mathlib.Core.Path.{◌≡◌, refl, sym, ap, ◌∙◌, subst}
use mathlib.Core.List.{List, [], ◌∷◌, map}
use mathlib.Core.Bool.{Bool, true, false, cond}
use lib.Dec.{eqb}
use native.Mathlib.Omega.{arith}
use borrow.Author.Tests.{eqb-true, eqb-false}
use Rattle.base.specs.Lists.{All, Bytes}
use Rattle.base.proofs.TestLaws.{Tested, holds, fails, test}
use Rattle.wire.specs.Cut.{records_of}
use Rattle.ledger.specs.declared.Ledger.{Ledger}
use Rattle.ledger.specs.Ledger.{empty_ledger}
use Rattle.ledger.specs.Take.{unsound, answer_of, map_after}
use Rattle.ledger.proofs.CellLaws.{empty_shaped}
use Rattle.ledger.proofs.TakeLaws.{answer_1}
use Rattle.book.specs.Book.{Read}
use Rattle.book.specs.Book.{BookState, starting, take_record, take_all, read_of, map_read}
use Rattle.book.proofs.RunLaws.{read_nothing, read_through}
use Rattle.slot.specs.declared.Slot.{Slot}
use Rattle.desk_scan.specs.Desk.{empty_desk}
use Rattle.desk_rules.specs.Serve.{message_answer, map_served, desk_served}
use Rattle.desk_days.specs.Day.{State, Arrival, message, booked, bytes_of, after, after_all}
use Rattle.desk_days.specs.Story.{empty_day, NothingOpen}
use Rattle.desk_days.proofs.AfterLaws.{refused_after, after_append}
use Rattle.desk_sums.specs.Sums.{DayAdds}
use Rattle.desk_sums.proofs.DayLaws.{day_adds}
use Rattle.c_words.specs.Words.{words_fit, ledger_in}
use Rattle.c_words.specs.Header.{header_word, headed, answered_into}
use Rattle.c_words.proofs.LentLaws.{accepted_is}
use Rattle.temelyak.specs.Calls.{is_pair, empty_answer, empty_words, take_answer, take_map, book_answer, book_map, serve_answer, serve_map, serve_desk, Holds}
use Rattle.temelyak.proofs.GoesOn.{empty_goes_on, take_goes_on, book_goes_on, serve_goes_on}
use Rattle.temelyak.proofs.RefusedSame.{take_refused_same, book_refused_same, serve_refused_same}
use Rattle.call_days.specs.Calls.{Memory, day_in, Call, take, take_book, serve, after_call, after_calls, arriving, arrivals}

-- the words hold a ledger, and the state is this one
abbrev Stands : Memory → State → Type 0
Stands mem st = (words_fit mem.words ≡ true) × (day_in mem ≡ st)

-- a call that leaves all as it was
stays : (mem next : Memory) → words_fit mem.words ≡ true → next ≡ mem → Stands next (day_in mem)
stays mem next fit same = subst (λ (n : Memory). Stands n (day_in mem)) (sym same) (fit, refl)

-- a book's records, one by one
booked_all :
    (st : BookState) (d : List Slot) (ss : List (List ℕ)) →
    after_all (record { ledger = st.ledger; map = st.map; desk = d }) (map booked ss) ≡
    record { ledger = (take_all st ss).ledger; map = (take_all st ss).map; desk = d }
unfolding take_record
booked_all st d [] = refl
booked_all st d (s ∷ ss) = booked_all (take_record st s) d ss

-- an unsound ledger or map refuses them all
all_refused : (st : State) (ss : List (List ℕ)) → unsound st.ledger st.map ≡ true → after_all st (map booked ss) ≡ st
all_refused st [] u = refl
all_refused st (s ∷ ss) u =
    let none : answer_of st.ledger st.map s ≡ 0 → ⊥ = λ z. omega (arith, z, answer_1 st.ledger st.map s u) in
    ap (λ (t : State). after_all t (map booked ss)) (refused_after st (booked s) none) ∙ all_refused st ss u

module _ (ws m : List ℕ) (d : List Slot) (fit : words_fit ws ≡ true) where
  abbrev mem : Memory
  mem = record { words = ws; map = m; desk = d }

  abbrev l : Ledger
  l = ledger_in ws

  -- with the right header and words that fit, a call answers what the call behind it does
  take_answers : (s : List ℕ) → take_answer header_word ws m s ≡ answer_of l m s
  unfolding take_answer
  take_answers s = ap (λ (t : Bool). headed header_word (cond t (answer_of l m s) 1)) fit

  serve_answers : (s : List ℕ) → serve_answer header_word ws m d s ≡ message_answer l m d s
  unfolding serve_answer
  serve_answers s = ap (λ (t : Bool). headed header_word (cond t (message_answer l m d s) 1)) fit

  book_answers : (b out : List ℕ) (t : Bool) → is_pair out ≡ t → book_answer header_word ws m b out ≡ cond t (read_of l m b).answer 251
  unfolding book_answer
  book_answers b out t e = λ i. answered_into header_word (e i) (fit i) (read_of l m b).answer

  take_stands : (s : List ℕ) → Stands (after_call mem (take s)) (after (day_in mem) (booked s))
  unfolding take_map
  take_stands s = go (test (eqb (answer_of l m s) 0))
    where
      go : Tested (eqb (answer_of l m s) 0) → Stands (after_call mem (take s)) (after (day_in mem) (booked s))
      go (holds e) =
          let a : take_answer header_word ws m s ≡ 0 = take_answers s ∙ eqb-true (answer_of l m s) 0 e in
          let held = take_goes_on header_word ws m s a in
          let map_is : take_map header_word ws m s ≡ map_after l m s = accepted_is (take_answer header_word ws m s) (map_after l m s) m a in
          (held.0, λ i. record { ledger = held.1 i; map = map_is i; desk = d })
      go (fails e) =
          let z : answer_of l m s ≡ 0 → ⊥ = eqb-false (answer_of l m s) 0 e in
          let r = take_refused_same header_word ws m s (λ a. z (sym (take_answers s) ∙ a)) in
          subst (Stands (after_call mem (take s))) (sym (refused_after (day_in mem) (booked s) z))
          (stays mem (after_call mem (take s)) fit (λ i. record { words = r.0 i; map = r.1 i; desk = d }))

  serve_stands : (s : List ℕ) → Stands (after_call mem (serve s)) (after (day_in mem) (message s))
  unfolding serve_map serve_desk
  serve_stands s = go (test (eqb (message_answer l m d s) 0))
    where
      go : Tested (eqb (message_answer l m d s) 0) → Stands (after_call mem (serve s)) (after (day_in mem) (message s))
      go (holds e) =
          let a : serve_answer header_word ws m d s ≡ 0 = serve_answers s ∙ eqb-true (message_answer l m d s) 0 e in
          let held = serve_goes_on header_word ws m d s a in
          let map_is : serve_map header_word ws m d s ≡ map_served l m d s = accepted_is (serve_answer header_word ws m d s) (map_served l m d s) m a in
          let desk_is : serve_desk header_word ws m d s ≡ desk_served l m d s = accepted_is (serve_answer header_word ws m d s) (desk_served l m d s) d a in
          (held.0, λ i. record { ledger = held.1 i; map = map_is i; desk = desk_is i })
      go (fails e) =
          let z : message_answer l m d s ≡ 0 → ⊥ = eqb-false (message_answer l m d s) 0 e in
          let r = serve_refused_same header_word ws m d s (λ a. z (sym (serve_answers s) ∙ a)) in
          subst (Stands (after_call mem (serve s))) (sym (refused_after (day_in mem) (message s) z))
          (stays mem (after_call mem (serve s)) fit (λ i. record { words = r.0 i; map = r.1 i; desk = r.2 i }))

  -- a book that is not taken leaves all as it was
  book_stays : (b out : List ℕ) → (book_answer header_word ws m b out ≡ 0 → ⊥) → Stands (after_call mem (take_book b out)) (day_in mem)
  book_stays b out z =
      let r = book_refused_same header_word ws m b out z in
      stays mem (after_call mem (take_book b out)) fit (λ i. record { words = r.0 i; map = r.1 i; desk = d })

  book_taken : (b out : List ℕ) → is_pair out ≡ true → Stands (after_call mem (take_book b out)) (after_all (day_in mem) (map booked (records_of b)))
  unfolding book_map
  book_taken b out p = go (test (unsound l m))
    where
      go : Tested (unsound l m) → Stands (after_call mem (take_book b out)) (after_all (day_in mem) (map booked (records_of b)))
      go (holds u) =
          let one : book_answer header_word ws m b out ≡ 1 = book_answers b out true p ∙ ap (λ (r : Read). r.answer) (read_nothing l m b u).0 in
          subst (Stands (after_call mem (take_book b out))) (sym (all_refused (day_in mem) (records_of b) u)) (book_stays b out (λ a. omega (arith, a, one)))
      go (fails u) =
          let (read, mapped) = read_through l m b u in
          let a : book_answer header_word ws m b out ≡ 0 = book_answers b out true p ∙ ap (λ (r : Read). r.answer) read in
          let held = book_goes_on header_word ws m b out a in
          let ledger-is = held.1 ∙ ap (λ (r : Read). r.ledger) read in
          let map_is = accepted_is (book_answer header_word ws m b out) (map_read l m b) m a ∙ mapped in
          subst (Stands (after_call mem (take_book b out))) (sym (booked_all (starting l m) d (records_of b)))
          (held.0, λ i. record { ledger = ledger-is i; map = map_is i; desk = d })

  book_stands : (b out : List ℕ) → Stands (after_call mem (take_book b out)) (after_all (day_in mem) (arriving (take_book b out)))
  book_stands b out = go (test (is_pair out))
    where
      go : Tested (is_pair out) → Stands (after_call mem (take_book b out)) (after_all (day_in mem) (cond (is_pair out) (map booked (records_of b)) []))
      go (holds p) = rw p (book_taken b out p)
      go (fails p) = rw p (book_stays b out (λ a. omega (arith, a, book_answers b out false p)))

one_call : (mem : Memory) (c : Call) → words_fit mem.words ≡ true → Stands (after_call mem c) (after_all (day_in mem) (arriving c))
one_call mem (take s) fit = take_stands mem.words mem.map mem.desk fit s
one_call mem (take_book b out) fit = book_stands mem.words mem.map mem.desk fit b out
one_call mem (serve s) fit = serve_stands mem.words mem.map mem.desk fit s

-- words that fit do so after any calls, and ledger, map and desk are then those after the arrivals that the calls stand for
pub calls_are_a_day :
    (mem : Memory) (cs : List Call) →
    words_fit mem.words ≡ true →
    (words_fit (after_calls mem cs).words ≡ true) × (day_in (after_calls mem cs) ≡ after_all (day_in mem) (arrivals cs))
calls_are_a_day mem [] fit = (fit, refl)
calls_are_a_day mem (c ∷ cs) fit =
    let one : Stands (after_call mem c) (after_all (day_in mem) (arriving c)) = one_call mem c fit in
    let rest = calls_are_a_day (after_call mem c) cs one.0 in
    (rest.0, rest.1 ∙ ap (λ (st : State). after_all st (arrivals cs)) one.1 ∙ sym (after_append (day_in mem) (arriving c) (arrivals cs)))

-- from the words that temelyak_empty leaves, a map and an empty desk: the day that step by step, late replies and the desk's sums speak of
pub from_empty :
    (ws m : List ℕ) (cs : List Call) →
    empty_answer header_word ws ≡ 0 →
    day_in (after_calls (record { words = empty_words header_word ws; map = m; desk = empty_desk }) cs) ≡ after_all (empty_day empty_ledger m) (arrivals cs)
from_empty ws m cs a =
    let begun : Holds (empty_words header_word ws) empty_ledger = empty_goes_on header_word ws a in
    (calls_are_a_day (record { words = empty_words header_word ws; map = m; desk = empty_desk }) cs begun.0).1 ∙
    ap (λ (l : Ledger). after_all (empty_day l m) (arrivals cs)) begun.1

-- so, once nothing is open, the ledger that C holds is the annex's sums over the events of the books and records taken and over the outages closed
pub calls_add :
    (ws m : List ℕ) (cs : List Call) →
    empty_answer header_word ws ≡ 0 →
    All (λ (a : Arrival). Bytes (bytes_of a)) (arrivals cs) →
    NothingOpen (after_calls (record { words = empty_words header_word ws; map = m; desk = empty_desk }) cs).desk →
    (day_in (after_calls (record { words = empty_words header_word ws; map = m; desk = empty_desk }) cs) ≡ after_all (empty_day empty_ledger m) (arrivals cs)) ×
    DayAdds empty_ledger m (arrivals cs)
calls_add ws m cs a bytes free =
    let day = from_empty ws m cs a in
    (day, day_adds empty_ledger m (arrivals cs) empty_shaped bytes (subst (λ (st : State). NothingOpen st.desk) day free))
