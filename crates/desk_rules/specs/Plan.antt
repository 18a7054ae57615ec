-- What a message does, as one plan: the answer and the ledger, a place and the slot that is put there, and a number that is marked.
use Rattle.std.specs.Prelude.{ℕ, List, cond, eqb}
use Rattle.base.specs.First.{first}
use Rattle.wire.specs.Frame.{kind_of}
use Rattle.fields.specs.Fields.{head_in}
use Rattle.verdict.specs.Verdict.{event_verdict}
use Rattle.ledger.specs.declared.Ledger.{Ledger}
use Rattle.ledger.specs.Ledger.{added}
use Rattle.slot.specs.declared.Slot.{Slot}
use Rattle.slot.specs.Slot.{free_slot, opened_by, stepped_by}
use Rattle.desk_scan.specs.Desk.{number_in}
use Rattle.desk_rules.specs.Rules.{Look, step_in, on_message, rules}

-- what the desk answers: the answer number, and the ledger handed back
pub record Served : Type 0 where
  pub answer : ℕ
  pub ledger : Ledger

-- what is to be done: the answer and the ledger handed back; the slot to put, and where (past the desk's end: nowhere); the number to mark, or 0
pub record Plan : Type 0 where
  pub served : Served
  pub at : ℕ
  pub slot : Slot
  pub number : ℕ

-- a refusal: the ledger as it was, no number to mark, and the place past the last of so many slots, where nothing is put
abbrev pub refused_plan : Ledger → ℕ → ℕ → Plan
refused_plan l slots answer = record { served = record { answer = answer; ledger = l }; at = slots; slot = free_slot; number = 0 }

-- "close adds the event to the ledger": the closed slot's event, as a complete stepped record with its head, last time and figures adds it
abbrev pub ledger_closed : Look → Ledger → Ledger
ledger_closed k l = added l (event_verdict l.sheet k.slot.head k.slot.last k.slot.figures)

-- an accepted message: "Open takes the free slot of lowest index", and "at the desk opening marks it"; a step changes the slot that holds its number;
-- "close adds the event to the ledger and frees its slot, which then holds zeros only". "Sheet, step and close leave the map as lent"
abbrev pub accepted_plan : ℕ → Look → Ledger → List ℕ → Plan
accepted_plan kind k l s =
    on_message kind
    (record { served = record { answer = 0; ledger = l }; at = k.gap; slot = opened_by (head_in s); number = number_in s })
    (record { served = record { answer = 0; ledger = l }; at = k.passed; slot = stepped_by k.slot (step_in s); number = 0 })
    (record { served = record { answer = 0; ledger = ledger_closed k l }; at = k.passed; slot = free_slot; number = 0 })
    (refused_plan l k.passed 0)

-- the smallest number that applies, 0 for an accepted message
unfoldable pub look_answer : Look → Ledger → List ℕ → List ℕ → ℕ
look_answer k l m s = first (rules k l m s)

unfoldable pub plan_of : Look → ℕ → Ledger → List ℕ → List ℕ → Plan
plan_of k slots l m s =
    cond (eqb (look_answer k l m s) 0) (accepted_plan (kind_of s) k l s) (refused_plan l slots (look_answer k l m s))
