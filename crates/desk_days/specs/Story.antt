-- A day told in complete records: "From an empty desk with a given ledger and map, after any sequence of desk messages that leaves nothing open,
-- ledger and map are those of taking the closed events as kind 3 records in the order of closing" (01, "The desk").
use Rattle.std.specs.Prelude.{ℕ, ◌≡◌, List, [], ◌∷◌, map, Bool, false, cond, length, eqb}
use Rattle.base.specs.Lists.{All, keep}
use Rattle.wire.specs.Frame.{kind_of}
use Rattle.annex.specs.declared.Step.{Step}
use Rattle.annex.specs.Stepped.{last_time, stepped_figures}
use Rattle.used_numbers.specs.Marks.{marked_with}
use Rattle.fields.specs.declared.Head.{Head}
use Rattle.fields.specs.Fields.{head_in, steps_in}
use Rattle.codec.specs.Codec.{event_record}
use Rattle.ledger.specs.declared.Ledger.{Ledger}
use Rattle.slot.specs.declared.Slot.{Slot}
use Rattle.slot.specs.Slot.{free_slot}
use Rattle.desk_scan.specs.Desk.{empty_desk, number_at, number_in}
use Rattle.desk_rules.specs.Rules.{step_in}
use Rattle.desk_days.specs.Day.{State, Arrival, message, booked}

-- what an accepted arrival does: it opens an outage, is a step of one or closes one, or is a record that the book entry takes
pub data Deed : Type 0 where
  opens : Head → Deed
  steps : ℕ → Step → Deed
  closes : ℕ → Deed
  takes : List ℕ → Deed

-- "16 open", "17 step", "18 close": an accepted message is of one of these kinds
abbrev pub message_in : ℕ → List ℕ → Deed
message_in kind s = cond (eqb kind 16) (opens (head_in s)) (cond (eqb kind 17) (steps (number_in s) (step_in s)) (closes (number_in s)))

abbrev pub deed_of : Arrival → Deed
deed_of (message s) = message_in (kind_of s) s
deed_of (booked s) = takes s

-- a complete stepped event
pub record SteppedEvent : Type 0 where
  pub head : Head
  pub steps : List Step

-- what a record of kind 3 tells
abbrev pub stepped_event_in : List ℕ → SteppedEvent
stepped_event_in s = record { head = head_in s; steps = steps_in s }

-- what was said when v was opened
abbrev pub head_for : ℕ → List Deed → Head
head_for v [] = free_slot.head
head_for v (opens h ∷ ds) = cond (eqb h.number v) h (head_for v ds)
head_for v (steps w st ∷ ds) = head_for v ds
head_for v (closes w ∷ ds) = head_for v ds
head_for v (takes s ∷ ds) = head_for v ds

-- the steps of v, in their order
abbrev pub steps_for : ℕ → List Deed → List Step
steps_for v [] = []
steps_for v (opens h ∷ ds) = steps_for v ds
steps_for v (steps w st ∷ ds) = cond (eqb w v) (st ∷ steps_for v ds) (steps_for v ds)
steps_for v (closes w ∷ ds) = steps_for v ds
steps_for v (takes s ∷ ds) = steps_for v ds

-- the outage numbered v, as a complete event
abbrev pub event_for : List Deed → ℕ → SteppedEvent
event_for ds v = record { head = head_for v ds; steps = steps_for v ds }

-- the numbers opened, and the numbers closed, in their order
abbrev pub openings : List Deed → List ℕ
openings [] = []
openings (opens h ∷ ds) = h.number ∷ openings ds
openings (steps w st ∷ ds) = openings ds
openings (closes w ∷ ds) = openings ds
openings (takes s ∷ ds) = openings ds

abbrev pub closings : List Deed → List ℕ
closings [] = []
closings (opens h ∷ ds) = closings ds
closings (steps w st ∷ ds) = closings ds
closings (closes w ∷ ds) = w ∷ closings ds
closings (takes s ∷ ds) = closings ds

-- the deeds of the outage numbered v, in their order
abbrev pub names : ℕ → Deed → Bool
names v (opens h) = eqb h.number v
names v (steps w st) = eqb w v
names v (closes w) = eqb w v
names v (takes s) = false

abbrev pub about : ℕ → List Deed → List Deed
about v ds = keep (names v) ds

-- what they are while it is open: its open and its steps
abbrev pub open_deeds : ℕ → SteppedEvent → List Deed
open_deeds v e = opens e.head ∷ map (λ st. steps v st) e.steps

-- 3 stepped event: number 2, type 1, voltage 1, cause 1, T0, step count 1, then per step: time, 3 counts; 14 + 16 x steps
abbrev pub record_of : SteppedEvent → List ℕ
record_of e = event_record e.head e.steps

-- "the closed events as kind 3 records in the order of closing"
abbrev pub closed_in : List Deed → List (List ℕ)
closed_in ds = map (λ v. record_of (event_for ds v)) (closings ds)

abbrev pub closed_records : List Arrival → List (List ℕ)
closed_records as' = closed_in (map deed_of as')

-- the same where the book entry takes records too, each as it is and in its place among the closed events
abbrev pub complete_in : List Deed → List Deed → List (List ℕ)
complete_in all [] = []
complete_in all (opens h ∷ ds) = complete_in all ds
complete_in all (steps w st ∷ ds) = complete_in all ds
complete_in all (closes w ∷ ds) = record_of (event_for all w) ∷ complete_in all ds
complete_in all (takes s ∷ ds) = s ∷ complete_in all ds

abbrev pub complete_records : List Arrival → List (List ℕ)
complete_records as' = complete_in (map deed_of as') (map deed_of as')

-- the slot that holds an event whose steps have all arrived
abbrev pub slot_holding : SteppedEvent → Slot
slot_holding e =
    record {
      head = e.head;
      last = last_time e.head.t0 e.steps;
      steps = length e.steps;
      figures = stepped_figures e.head.t0 e.steps;
    }

-- a map in which further numbers are marked
abbrev pub marked_all : List ℕ → List ℕ → List ℕ
marked_all m [] = m
marked_all m (v ∷ vs) = marked_with (marked_all m vs) v

-- "an empty desk with a given ledger and map"
abbrev pub empty_day : Ledger → List ℕ → State
empty_day l m = record { ledger = l; map = m; desk = empty_desk }

-- "leaves nothing open"
abbrev pub NothingOpen : List Slot → Type 0
NothingOpen d = All (λ s. number_at s ≡ 0) d

-- no number twice
abbrev pub Once : List ℕ → Type 0
Once [] = Unit {0}
Once (v ∷ vs) = All (λ w. w ≡ v → ⊥) vs × Once vs
