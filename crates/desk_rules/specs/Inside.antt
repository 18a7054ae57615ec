-- Inner vocabulary: the plan of a message from what one pass over the desk gathered, and the rules of a framed message read at a kind.
use Rattle.std.specs.Prelude.{ℕ, List, [], ◌∷◌, Bool, ◌&&◌, ◌||◌, not, cond, length, get_or, leb, ltb, eqb, Option, Some, None, Result, Ok, Err}
use Rattle.base.specs.Lists.{place}
use Rattle.refusals.specs.declared.Refusal.{Refusal}
use Rattle.refusals.specs.Refusals.{number_of}
use Rattle.codes.specs.Codes.{level_of}
use Rattle.annex.specs.declared.Step.{Step}
use Rattle.annex.specs.Times.{minutes_in}
use Rattle.used_numbers.specs.Marks.{marked}
use Rattle.fields.specs.declared.Sheet.{Sheet}
use Rattle.fields.specs.declared.Head.{Head}
use Rattle.fields.specs.Tests.{head_listed}
use Rattle.limits.specs.Limits.{exceeding, above_level, late_step}
use Rattle.slot.specs.declared.Slot.{Slot}
use Rattle.slot.specs.Slot.{free_slot}
use Rattle.slot.specs.Sound.{slot_sound}
use Rattle.desk_scan.specs.declared.Roll.{Roll}
use Rattle.desk_scan.specs.Desk.{slot_count, number_in}
use Rattle.desk_scan.specs.Inside.{roll_of, roll_sound, found, place_named}
use Rattle.desk_rules.specs.Rules.{Look, rules_at}
use Rattle.base.specs.First.{Rule, first}
use Rattle.ledger.specs.declared.Ledger.{Ledger}
use Rattle.desk_rules.specs.declared.Seen.{Seen}
use Rattle.desk_rules.specs.declared.Plan.{Plan as Accepted}
use Rattle.desk_rules.specs.Plan.{Plan, refused_plan, accepted_plan, plan_of}

-- the same from a roll and the slot that was taken out
abbrev pub look_by : ℕ → Roll → Slot → List ℕ → Look
look_by slots roll slot s =
    record {
      sound = roll_sound slots roll && slot_sound slot;
      passed = place_named roll s;
      gap = place 0 roll.numbers;
      slot = slot;
    }

unfoldable pub answer_at : ℕ → Look → Ledger → List ℕ → List ℕ → ℕ
answer_at kind k l m s = first (rules_at kind k l m s)

unfoldable pub plan_at : ℕ → Look → ℕ → Ledger → List ℕ → List ℕ → Plan
plan_at kind k slots l m s =
    cond (eqb (answer_at kind k l m s) 0) (accepted_plan kind k l s) (refused_plan l slots (answer_at kind k l m s))

abbrev pub plan_by : ℕ → Roll → Slot → Ledger → List ℕ → List ℕ → Plan
plan_by slots roll slot l m s = plan_of (look_by slots roll slot s) slots l m s

-- the slot at a place that was found, zeros only where none was
abbrev pub slot_found : List Slot → Option ℕ → Slot
slot_found d (Some i) = get_or d i free_slot
slot_found d None = free_slot

-- what a message sees of a desk: its roll, and the slot that holds the message's number
abbrev pub seen_of : List Slot → List ℕ → Seen
seen_of d s = record { slots = length d; roll = roll_of d; slot = slot_found d (found (number_in s) (roll_of d).numbers) }

-- look and plan of what is seen
abbrev pub look_seen : Seen → List ℕ → Look
look_seen d s = look_by d.slots d.roll d.slot s

abbrev pub plan_seen_at : ℕ → Seen → Ledger → List ℕ → List ℕ → Plan
plan_seen_at kind d l m s = plan_at kind (look_seen d s) d.slots l m s

abbrev pub plan_seen : Seen → Ledger → List ℕ → List ℕ → Plan
plan_seen d l m s = plan_by d.slots d.roll d.slot l m s

-- what an outcome comes to for a caller that holds the ledger, at a desk of so many slots: a refusal puts nothing and marks nothing
abbrev pub planned_in : Ledger → ℕ → Result Accepted Refusal → Plan
planned_in l slots (Ok p) = record { served = record { answer = 0; ledger = p.ledger }; at = p.at; slot = p.slot; number = p.number }
planned_in l slots (Err r) = refused_plan l slots (number_of r)

-- the tests of an open of the right length, by its head and the numbers of the slots, in their order
abbrev pub open_tests : Head → Sheet → List ℕ → List ℕ → List Rule
open_tests h sheet m numbers =
    (5, not sheet.there) ∷
    (7, not (head_listed h)) ∷
    (10, leb (minutes_in sheet.year) h.t0) ∷
    (14, marked m h.number || ltb (place h.number numbers) slot_count) ∷
    (16, leb slot_count (place 0 numbers)) ∷ []

-- those that a step and a close share, by the slots that the search for their number passes and whether their ordinal or count is wrong
abbrev pub named_tests : Sheet → List ℕ → ℕ → Bool → List Rule
named_tests sheet s passed miscounted =
    (5, not sheet.there) ∷ (7, eqb (number_in s) 0) ∷ (8, leb slot_count passed) ∷ (9, miscounted) ∷ []

-- and those of a step alone
abbrev pub step_tests : Step → Sheet → Slot → List Rule
step_tests step sheet slot =
    (10, late_step slot.last step.time) ∷
    (11, exceeding sheet.totals step.counts) ∷
    (12, above_level (level_of slot.head.voltage) step.counts) ∷ []
