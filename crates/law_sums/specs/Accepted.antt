-- "An accepted book is one that, taken from an empty ledger and an all-zero map, ends exactly at a record's end with every record accepted"
-- (01, "Bytes on the wire"), and the accepted events of any reading, with the annex's sums over them (003, 4.3.1), their numbers marked ("An accepted
-- book event marks its number"), and the year sheet ("a second sheet" is 5).
use Rattle.std.specs.Prelude.{ℕ, ◌≡◌, Bool, false, ◌&&◌, not, cond, replicate, eqb}
use mathlib.Core.List.{List, [], ◌∷◌, map, foldl}
use Rattle.base.specs.Lists.{sum, keep}
use Rattle.wire.specs.Frame.{kind_of}
use Rattle.codes.specs.Codes.{row_of}
use Rattle.annex.specs.Annex.{Event, simple, stepped, short_event, end_of, figures_of}
use Rattle.annex.specs.Figure.{Figure, given}
use Rattle.used_numbers.specs.Marks.{map_size, marked_with}
use Rattle.fields.specs.declared.Sheet.{Sheet}
use Rattle.fields.specs.Fields.{sheet_in, head_in, simple_in, steps_in}
use Rattle.verdict.specs.Verdict.{Verdict, event_verdict}
use Rattle.ledger.specs.Ledger.{empty_ledger}
use Rattle.ledger.specs.Take.{answer_of}
use Rattle.records.specs.Records.{is_broken}
use Rattle.book.specs.Book.{BookState, take_record, after_book}

abbrev pub zero_map : List ℕ
zero_map = replicate map_size 0

pub record Accepted (book : List ℕ) : Type 0 where
  pub whole : is_broken book ≡ false
  pub all : (after_book empty_ledger zero_map book).refused ≡ 0

-- the event that a record of kind 2 or 3 tells
abbrev pub event_in : List ℕ → Event
event_in s = cond (eqb (kind_of s) 2) (simple (simple_in s)) (stepped (head_in s).t0 (steps_in s))

-- the ledger's row of its type
abbrev pub row_in : List ℕ → ℕ
row_in s = row_of (head_in s).typ

-- what the event of a record adds, under a sheet
abbrev pub event_at : Sheet → List ℕ → Verdict
event_at sheet s = event_verdict sheet (head_in s) (end_of (event_in s)) (figures_of (event_in s))

-- the accepted records that pass a test, among those taken from a state on: the events, and the sheets
abbrev pub accepted_of : (List ℕ → Bool) → BookState → List (List ℕ) → List (List ℕ)
accepted_of f st [] = []
accepted_of f st (s ∷ ss) =
    cond (eqb (answer_of st.ledger st.map s) 0 && f s)
    (s ∷ accepted_of f (take_record st s) ss)
    (accepted_of f (take_record st s) ss)

abbrev pub is_sheet : List ℕ → Bool
is_sheet s = eqb (kind_of s) 1

abbrev pub accepted_events : BookState → List (List ℕ) → List (List ℕ)
accepted_events = accepted_of (λ (s : List ℕ). not (is_sheet s))

abbrev pub accepted_sheets : BookState → List (List ℕ) → List (List ℕ)
accepted_sheets = accepted_of is_sheet

-- the events of a row that are not short: those that count in its cells
abbrev pub counted_in : ℕ → List (List ℕ) → List (List ℕ)
counted_in row events = keep (λ (s : List ℕ). eqb (row_in s) row && not (short_event (event_in s))) events

abbrev pub short_ones : List (List ℕ) → List (List ℕ)
short_ones events = keep (λ (s : List ℕ). short_event (event_in s)) events

-- of a figure the sum over the counted events j of a row: Σ n_jh, and 2 · Σ n_jh · t_jh
abbrev pub sum_of : Figure → ℕ → ℕ → List (List ℕ) → ℕ
sum_of x row h events = sum (map (λ (s : List ℕ). given x h (event_in s)) (counted_in row events))

abbrev pub number_in : List ℕ → ℕ
number_in s = (head_in s).number

abbrev pub numbers_of : List (List ℕ) → List ℕ
numbers_of ss = map number_in ss

-- a map with the number of an event marked, and with those of all events
abbrev pub with_number : List ℕ → List ℕ → List ℕ
with_number m s = marked_with m (number_in s)

abbrev pub all_marked : List ℕ → List (List ℕ) → List ℕ
all_marked m ss = foldl with_number m ss

-- the sheet that is there, or else that of the first sheet record's bytes
abbrev pub sheet_by : Sheet → List (List ℕ) → Sheet
sheet_by sheet [] = sheet
sheet_by sheet (s ∷ ss) = cond sheet.there sheet (sheet_in s)
