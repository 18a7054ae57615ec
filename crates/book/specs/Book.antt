-- A book taken record by record: "a refused record is counted and passed over; a broken length counts as one refusal and ends the reading"
-- (01, "Worked year").
use Rattle.std.specs.Prelude.{ℕ, ◌+◌, List, Bool, false, cond, Result, Ok, Err}
use Rattle.wire.specs.Cut.{records_of, stop_from, ends_by}
use Rattle.records.specs.Records as records
use Rattle.records.specs.Records.{one_if_refused, is_broken}
use Rattle.ledger.specs.declared.Ledger.{Ledger}
use Rattle.ledger.specs.Take.{unsound, answer_of, ledger_after, map_after}
use Rattle.refusals.specs.declared.Refusal.{Refusal}
use Rattle.refusals.specs.Refusals.{number_of}
use Rattle.book.specs.declared.Pass.{Pass as Passed}
use Rattle.book.specs.declared.Read.{Read as Outcome}

-- a ledger with its map, and the records refused so far
pub record BookState : Type 0 where
  pub ledger : Ledger
  pub map : List ℕ
  pub refused : ℕ

abbrev pub starting : Ledger → List ℕ → BookState
starting l m = record { ledger = l; map = m; refused = 0 }

-- one record, as the ledger's `take` takes it
unfoldable pub take_record : BookState → List ℕ → BookState
take_record st s =
    record {
      ledger = ledger_after st.ledger st.map s;
      map = map_after st.ledger st.map s;
      refused = st.refused + one_if_refused (answer_of st.ledger st.map s);
    }

abbrev pub take_all : BookState → List (List ℕ) → BookState
take_all = records.take_all take_record

-- the state after the whole records of a book
abbrev pub after_book : Ledger → List ℕ → List ℕ → BookState
after_book l m book = take_all (starting l m) (records_of book)

-- the same, with where and how the reading stopped (1 at the end, 2 at a broken length)
pub record Pass : Type 0 where
  pub ledger : Ledger
  pub refused : ℕ
  pub stop : ℕ
  pub which : ℕ

abbrev pub passed_in : Passed → Pass
passed_in p = record { ledger = p.ledger; refused = p.refused; stop = p.stop; which = cond p.broken 2 1 }

abbrev pub pass_of : Ledger → List ℕ → List ℕ → Pass
pass_of l m book =
    record {
      ledger = (after_book l m book).ledger;
      refused = (after_book l m book).refused;
      stop = stop_from book 0;
      which = ends_by book;
    }

-- what reading a book comes to: an answer number, the ledger at the end, the refused records, and whether a broken length ended the reading
pub record Read : Type 0 where
  pub answer : ℕ
  pub ledger : Ledger
  pub refused : ℕ
  pub broken : Bool

-- an outcome by number and ledger: a refusal leaves the ledger that stands beside it
abbrev pub read_in : Ledger → Result Outcome Refusal → Read
read_in left (Ok r) = record { answer = 0; ledger = r.ledger; refused = r.refused; broken = r.broken }
read_in left (Err refusal) = record { answer = number_of refusal; ledger = left; refused = 0; broken = false }

-- an unsound ledger or a map of another size answers 1, reads nothing and changes nothing
unfoldable pub read_of : Ledger → List ℕ → List ℕ → Read
read_of l m book =
    cond (unsound l m)
    (record { answer = 1; ledger = l; refused = 0; broken = false })
    (record {
      answer = 0;
      ledger = (after_book l m book).ledger;
      refused = (after_book l m book).refused + cond (is_broken book) 1 0;
      broken = is_broken book;
    })

unfoldable pub map_read : Ledger → List ℕ → List ℕ → List ℕ
map_read l m book = cond (unsound l m) m (after_book l m book).map
