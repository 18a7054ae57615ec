-- What *accepted events add exactly the annex* says (01, "What one event adds"; 003, 4.3.1): of any records taken from any state on, and of an
-- accepted book.
use Rattle.std.specs.Prelude.{ℕ, ◌+◌, ◌<◌, ◌≡◌, List, [], ◌∷◌, ◌||◌, not, cond, length, eqb}
use Rattle.base.specs.Lists.{All, listed, keep}
use Rattle.wire.specs.Cut.{records_of}
use Rattle.ledger.specs.declared.Ledger.{Ledger}
use Rattle.codes.specs.Codes.{rows, levels}
use Rattle.annex.specs.Figure.{Figure, Off, Halves, given}
use Rattle.ledger.specs.Ledger.{empty_ledger, held_in}
use Rattle.ledger.specs.Take.{answer_of}
use Rattle.used_numbers.specs.Marks.{marked}
use Rattle.fields.specs.Fields.{no_sheet}
use Rattle.book.specs.Book.{BookState, starting, take_record, take_all, after_book}
use Rattle.law_sums.specs.Accepted.{zero_map, event_in, is_sheet, accepted_events, short_ones, sum_of, numbers_of, all_marked, accepted_sheets, sheet_by}

-- the records that are refused, among those taken from a state on
abbrev pub refused_ones : BookState → List (List ℕ) → List (List ℕ)
refused_ones st [] = []
refused_ones st (s ∷ ss) =
    cond (eqb (answer_of st.ledger st.map s) 0) (refused_ones (take_record st s) ss) (s ∷ refused_ones (take_record st s) ss)

-- an event that interrupts nobody on a level has no half minutes there, as n2 is 0 where n1 is (01, 13)
abbrev pub NobodyNoHalves : List ℕ → Type 0
NobodyNoHalves s = (h : ℕ) → h < levels → given Off h (event_in s) ≡ 0 → given Halves h (event_in s) ≡ 0

-- each cell grows by the annex's sum over the accepted events of its row that are not short, and by nothing else; the map is the one lent, with just the
-- accepted events' numbers marked; the sheet is the one that was there, or else that of the first accepted sheet record's bytes
pub record Adds (st : BookState) (ss : List (List ℕ)) : Type 0 where
  pub cells :
      (x : Figure) (row h : ℕ) →
      row < rows →
      h < levels →
      held_in x (take_all st ss).ledger row h ≡ held_in x st.ledger row h + sum_of x row h (accepted_events st ss)
  pub nobody : All NobodyNoHalves (accepted_events st ss)
  pub events : (take_all st ss).ledger.events ≡ st.ledger.events + length (accepted_events st ss)
  pub short : (take_all st ss).ledger.short ≡ st.ledger.short + length (short_ones (accepted_events st ss))
  pub refused : (take_all st ss).refused ≡ st.refused + length (refused_ones st ss)
  pub map : (take_all st ss).map ≡ all_marked st.map (accepted_events st ss)
  pub marks : (v : ℕ) → v < 65536 → marked (take_all st ss).map v ≡ (marked st.map v || listed v (numbers_of (accepted_events st ss)))
  pub sheet : (take_all st ss).ledger.sheet ≡ sheet_by st.ledger.sheet (accepted_sheets st ss)

-- the records of a book that are no sheets
abbrev pub events_of : List ℕ → List (List ℕ)
events_of book = keep (λ (s : List ℕ). not (is_sheet s)) (records_of book)

-- the sheet records of a book: an accepted book has one, its first record, and the book of no bytes has none
abbrev pub sheets_of : List ℕ → List (List ℕ)
sheets_of book = keep is_sheet (records_of book)

-- the ledger and the map after a book, taken from an empty ledger and an all-zero map
abbrev pub book_ledger : List ℕ → Ledger
book_ledger book = (after_book empty_ledger zero_map book).ledger

abbrev pub book_map : List ℕ → List ℕ
book_map book = (after_book empty_ledger zero_map book).map

-- of an accepted book: all its events count, and each cell is the annex's sum over them; the map has just their numbers marked, and the sheet is that of
-- the sheet record's bytes
pub record IsSum (book : List ℕ) : Type 0 where
  pub all : accepted_events (starting empty_ledger zero_map) (records_of book) ≡ events_of book
  pub cells : (x : Figure) (row h : ℕ) → row < rows → h < levels → held_in x (book_ledger book) row h ≡ sum_of x row h (events_of book)
  pub events : (book_ledger book).events ≡ length (events_of book)
  pub short : (book_ledger book).short ≡ length (short_ones (events_of book))
  pub map : book_map book ≡ all_marked zero_map (events_of book)
  pub marks : (v : ℕ) → v < 65536 → marked (book_map book) v ≡ listed v (numbers_of (events_of book))
  pub sheet : (book_ledger book).sheet ≡ sheet_by no_sheet (sheets_of book)
