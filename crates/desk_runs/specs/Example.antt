-- P7's book (01, "Worked year"; 003, 10.5), its stepped event built up at the desk: computed from the bytes it ends with the same ledger, 68696 halves.
-- And a book of three events, two of which are built up side by side while the third is entered.
use Rattle.std.specs.Prelude.{ℕ, List, [], ◌∷◌, ◌++◌, Bool, true, false, get_or}
use Rattle.wire.specs.Cut.{joined}
use Rattle.ledger.specs.declared.Ledger.{Ledger}
use Rattle.ledger.specs.Ledger.{empty_ledger, cell_of}
use Rattle.law_sums.specs.Accepted.{zero_map}
use Rattle.desk_days.specs.Day as day
use Rattle.desk_days.specs.Day.{Arrival, message, booked, after_all}
use Rattle.desk_days.specs.Story.{empty_day}
use Rattle.worked.specs.Bytes.{three, codes, times, stepped, step, simple}
use Rattle.worked.specs.Worked.{sheet105, example105}
use Rattle.desk_runs.specs.Messages.{messages_of}
use Rattle.desk_runs.specs.Runs.{Run, day_of}

abbrev pub book105 : List ℕ
book105 = joined (sheet105 ∷ example105 ∷ [])

-- the sheet is entered, the event is built up
abbrev pub choice105 : List Bool
choice105 = false ∷ true ∷ []

abbrev pub day105 : List Arrival
day105 = day_of choice105 (sheet105 ∷ example105 ∷ [])

abbrev pub evening105 : day.State
evening105 = after_all (empty_day empty_ledger zero_map) day105

-- customers and halves of type 11 on a level
abbrev pub cell : Ledger → ℕ → List ℕ
cell l level = (cell_of l 0 level).customers.0 ∷ (cell_of l 0 level).halves.0 ∷ []

-- ---- two outages side by side

-- P13's event, numbered 2, and P9's, numbered 3
abbrev pub second : List ℕ
second = stepped (codes 2 11 5) 0 2 (step 10 (three 10 0 0) ++ step 20 (three 0 5 0))

abbrev pub third : List ℕ
third = simple (codes 3 11 1) (times 0 10 15 20) (three 3 0 0) (three 2 0 0)

abbrev pub book_of_three : List ℕ
book_of_three = joined (sheet105 ∷ third ∷ second ∷ example105 ∷ [])

-- message k of a record, counted from 0
abbrev pub nth : List ℕ → ℕ → Arrival
nth s k = message (get_or (messages_of s) k [])

-- a run of the sheet alone, and a run of three events: P7's is open all the time, and P9's is entered while both others are open
abbrev pub two_runs : List Run
two_runs =
    (record { records = sheet105 ∷ []; arrivals = booked sheet105 ∷ [] }) ∷
    (record {
      records = third ∷ second ∷ example105 ∷ [];
      arrivals =
          nth example105 0 ∷
          nth second 0 ∷
          nth second 1 ∷
          nth example105 1 ∷
          booked third ∷
          nth example105 2 ∷
          nth second 2 ∷
          nth example105 3 ∷
          nth second 3 ∷
          nth example105 4 ∷
          nth example105 5 ∷ [];
    }) ∷ []
