-- Calls from C one after the other (include/temelyak.h), with the right header, over words, a map and slots that nothing else writes; and what arrives by
-- them at the two entries, as `Day` has it: a call of take_book is its records, one by one.
use Rattle.std.specs.Prelude.{ℕ, List, [], ◌∷◌, ◌++◌, map, cond}
use Rattle.wire.specs.Cut.{records_of}
use Rattle.slot.specs.declared.Slot.{Slot}
use Rattle.desk_days.specs.Day.{State, Arrival, message, booked}
use Rattle.c_words.specs.Words.{ledger_in}
use Rattle.c_words.specs.Header.{header_word}
use Rattle.temelyak.specs.Calls.{is_pair, take_words, take_map, book_words, book_map, serve_words, serve_map, serve_desk}

-- the lent state
pub record Memory : Type 0 where
  pub words : List ℕ
  pub map : List ℕ
  pub desk : List Slot

-- the ledger that the words hold, with map and desk
abbrev pub day_in : Memory → State
day_in mem = record { ledger = ledger_in mem.words; map = mem.map; desk = mem.desk }

-- temelyak_take with a record, temelyak_take_book with a book and an output, temelyak_serve with a message
pub data Call : Type 0 where
  take : List ℕ → Call
  take_book : List ℕ → List ℕ → Call
  serve : List ℕ → Call

abbrev pub after_call : Memory → Call → Memory
after_call mem (take s) =
    record { words = take_words header_word mem.words mem.map s; map = take_map header_word mem.words mem.map s; desk = mem.desk }
after_call mem (take_book b out) =
    record { words = book_words header_word mem.words mem.map b out; map = book_map header_word mem.words mem.map b out; desk = mem.desk }
after_call mem (serve s) =
    record {
      words = serve_words header_word mem.words mem.map mem.desk s;
      map = serve_map header_word mem.words mem.map mem.desk s;
      desk = serve_desk header_word mem.words mem.map mem.desk s;
    }

abbrev pub after_calls : Memory → List Call → Memory
after_calls mem [] = mem
after_calls mem (c ∷ cs) = after_calls (after_call mem c) cs

-- what arrives by a call; nothing where take_book's output has another size than 2 (251)
abbrev pub arriving : Call → List Arrival
arriving (take s) = booked s ∷ []
arriving (take_book b out) = cond (is_pair out) (map booked (records_of b)) []
arriving (serve s) = message s ∷ []

abbrev pub arrivals : List Call → List Arrival
arrivals [] = []
arrivals (c ∷ cs) = arriving c ++ arrivals cs
