-- *The desk too*: an accepted book cut anywhere into runs, where the events of a run are instead built up at a desk that is empty at the run's start
-- and end (01, "The desk"). Records and messages of a run may come in any order that tells the run's records.
use Rattle.std.specs.Prelude.{ℕ, ◌≡◌, List, [], ◌∷◌, ◌++◌, map, Bool, ◌&&◌, cond, eqb}
use Rattle.base.specs.Lists.{All, Bytes}
use Rattle.wire.specs.Frame.{kind_of}
use Rattle.ledger.specs.declared.Ledger.{Ledger}
use Rattle.ledger.specs.Ledger.{empty_ledger}
use Rattle.book.specs.Book.{starting, take_all, after_book}
use Rattle.law_sums.specs.Accepted.{zero_map}
use Rattle.desk_scan.specs.Desk.{empty_desk}
use Rattle.desk_days.specs.Day.{State, Arrival, message, booked, bytes_of, after_all, accepted_of}
use Rattle.desk_days.specs.Story.{complete_records, empty_day, NothingOpen}
use Rattle.desk_days.specs.Late.{answers_to}
use Rattle.desk_runs.specs.Messages.{messages_of}

-- from an empty desk with a given ledger and map, arrivals that leave nothing open build up records: what was accepted of them tells just these
pub record Builds (l : Ledger) (m : List ℕ) (rs : List (List ℕ)) (as' : List Arrival) : Type 0 where
  pub in_bytes : All (λ a. Bytes (bytes_of a)) as'
  pub nothing_open : NothingOpen (after_all (empty_day l m) as').desk
  pub complete : complete_records (accepted_of (empty_day l m) as') ≡ rs

-- a run: records that stand one after the other in a book, and what arrives in their stead
pub record Run : Type 0 where
  pub records : List (List ℕ)
  pub arrivals : List Arrival

abbrev pub records_in : List Run → List (List ℕ)
records_in [] = []
records_in (r ∷ rs) = r.records ++ records_in rs

abbrev pub arrivals_in : List Run → List Arrival
arrivals_in [] = []
arrivals_in (r ∷ rs) = r.arrivals ++ arrivals_in rs

-- each run is built up from the ledger and the map that the book has before the run's records
abbrev pub InRuns : Ledger → List ℕ → List Run → Type 0
InRuns l m [] = Unit {0}
InRuns l m (r ∷ rs) =
    Builds l m r.records r.arrivals ×
    InRuns (take_all (starting l m) r.records).ledger (take_all (starting l m) r.records).map rs

-- a day ends with the ledger and the map of a book, and with an empty desk
pub record SameEnd (book : List ℕ) (day : List Arrival) : Type 0 where
  pub ledger : (after_all (empty_day empty_ledger zero_map) day).ledger ≡ (after_book empty_ledger zero_map book).ledger
  pub map : (after_all (empty_day empty_ledger zero_map) day).map ≡ (after_book empty_ledger zero_map book).map
  pub desk : (after_all (empty_day empty_ledger zero_map) day).desk ≡ empty_desk

-- arrivals that are all accepted lead from one state to another
pub record Leads (st : State) (as' : List Arrival) (end : State) : Type 0 where
  pub accepted : All (λ n. n ≡ 0) (answers_to st as')
  pub ends : after_all st as' ≡ end

-- a record is entered as it is, or, where it is chosen and tells a stepped event, built up at the desk
abbrev pub arrivals_of : Bool → List ℕ → List Arrival
arrivals_of chosen s = cond (chosen && eqb (kind_of s) 3) (map message (messages_of s)) (booked s ∷ [])

-- records, of which each is chosen or not; past the choice's end none is
abbrev pub day_of : List Bool → List (List ℕ) → List Arrival
day_of choice [] = []
day_of [] (s ∷ ss) = booked s ∷ day_of [] ss
day_of (chosen ∷ later) (s ∷ ss) = arrivals_of chosen s ++ day_of later ss
