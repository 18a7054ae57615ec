-- What a day at the desk adds (01, "The desk", "What one event adds"; 003, 4.3.1), said of the desk alone: from an empty desk with a given ledger and map,
-- after messages that leave nothing open, each cell has grown by the annex's sum over the closed outages, and its half customer-minutes by twice the
-- minutes of their customers, added one by one. And the same of a day with records at the book entry in between.
use Rattle.std.specs.Prelude.{ℕ, ◌+◌, ◌<◌, ◌≡◌, Bool, ◌&&◌, not, length, eqb}
use mathlib.Core.List.{List, map, foldl}
use Rattle.base.specs.Lists.{All, sum, keep}
use Rattle.codes.specs.Codes.{rows, levels, row_of}
use Rattle.annex.specs.Annex.{Event, stepped, short_event}
use Rattle.annex.specs.Figure.{Figure, Halves, given}
use Rattle.used_numbers.specs.Marks.{marked_with}
use Rattle.ledger.specs.declared.Ledger.{Ledger}
use Rattle.ledger.specs.Ledger.{held_in}
use Rattle.law_sums.specs.Accepted as sums
use Rattle.law_people.specs.People.{halves_of_all, Agrees}
use Rattle.desk_days.specs.Day.{State, Arrival, message, after_all, accepted_of}
use Rattle.desk_days.specs.Story.{Deed, deed_of, SteppedEvent, event_for, closings, complete_records, empty_day}

-- the end of the day, and what its accepted messages did
abbrev pub end_of : Ledger → List ℕ → List (List ℕ) → State
end_of l m rs = after_all (empty_day l m) (map message rs)

abbrev pub deeds_of : Ledger → List ℕ → List (List ℕ) → List Deed
deeds_of l m rs = map deed_of (accepted_of (empty_day l m) (map message rs))

-- the closed outages in the order of closing: what was said when each was opened, and its steps
abbrev pub closed_events : Ledger → List ℕ → List (List ℕ) → List SteppedEvent
closed_events l m rs = map (event_for (deeds_of l m rs)) (closings (deeds_of l m rs))

-- an outage as the annex has an event
abbrev pub told : SteppedEvent → Event
told e = stepped e.head.t0 e.steps

-- those of a row that are not short: those that count in its cells
abbrev pub counted_in : ℕ → List SteppedEvent → List SteppedEvent
counted_in row es = keep (λ (e : SteppedEvent). eqb (row_of e.head.typ) row && not (short_event (told e))) es

abbrev pub short_ones : List SteppedEvent → List SteppedEvent
short_ones es = keep (λ (e : SteppedEvent). short_event (told e)) es

-- the annex's sums over them: Σ n_jh, and 2 · Σ n_jh · t_jh
abbrev pub sum_of : Figure → ℕ → ℕ → List SteppedEvent → ℕ
sum_of x row h es = sum (map (λ (e : SteppedEvent). given x h (told e)) (counted_in row es))

-- of each outage a list that says in which steps each customer of level h was off, and that agrees with the recorded counts
abbrev pub AllAgree : ℕ → (SteppedEvent → List (List Bool)) → List SteppedEvent → Type 0
AllAgree h customers es = All (λ (e : SteppedEvent). Agrees h e.steps (customers e)) es

-- the half customer-minutes of a row, added customer by customer
abbrev pub halves_by_customer : ℕ → (SteppedEvent → List (List Bool)) → List SteppedEvent → ℕ
halves_by_customer row customers es = sum (map (λ (e : SteppedEvent). halves_of_all e.head.t0 e.steps (customers e)) (counted_in row es))

-- a map with the numbers of outages marked
abbrev pub with_number : List ℕ → SteppedEvent → List ℕ
with_number m e = marked_with m e.head.number

pub record DeskAdds (l : Ledger) (m : List ℕ) (rs : List (List ℕ)) : Type 0 where
  pub cells :
      (x : Figure) (row h : ℕ) →
      row < rows →
      h < levels →
      held_in x (end_of l m rs).ledger row h ≡ held_in x l row h + sum_of x row h (closed_events l m rs)
  pub customers :
      (row h : ℕ) →
      row < rows →
      h < levels →
      (customers : SteppedEvent → List (List Bool)) →
      AllAgree h customers (closed_events l m rs) →
      held_in Halves (end_of l m rs).ledger row h ≡ held_in Halves l row h + halves_by_customer row customers (closed_events l m rs)
  pub events : (end_of l m rs).ledger.events ≡ l.events + length (closed_events l m rs)
  pub short : (end_of l m rs).ledger.short ≡ l.short + length (short_ones (closed_events l m rs))
  pub sheet : (end_of l m rs).ledger.sheet ≡ l.sheet
  pub map : (end_of l m rs).map ≡ foldl with_number m (closed_events l m rs)

-- the complete records of any day in their order: the records that were taken at the book entry, and the closed outages'
abbrev pub complete_of : Ledger → List ℕ → List Arrival → List (List ℕ)
complete_of l m as' = complete_records (accepted_of (empty_day l m) as')

abbrev pub events_in : List (List ℕ) → List (List ℕ)
events_in ss = keep (λ (s : List ℕ). not (sums.is_sheet s)) ss

-- each is accepted, and the annex's sums are over all their events
pub record DayAdds (l : Ledger) (m : List ℕ) (as' : List Arrival) : Type 0 where
  pub cells :
      (x : Figure) (row h : ℕ) →
      row < rows →
      h < levels →
      held_in x (after_all (empty_day l m) as').ledger row h ≡ held_in x l row h + sums.sum_of x row h (events_in (complete_of l m as'))
  pub events : (after_all (empty_day l m) as').ledger.events ≡ l.events + length (events_in (complete_of l m as'))
  pub short : (after_all (empty_day l m) as').ledger.short ≡ l.short + length (sums.short_ones (events_in (complete_of l m as')))
  pub sheet : (after_all (empty_day l m) as').ledger.sheet ≡ sums.sheet_by l.sheet (keep sums.is_sheet (complete_of l m as'))
  pub map : (after_all (empty_day l m) as').map ≡ sums.all_marked m (events_in (complete_of l m as'))
