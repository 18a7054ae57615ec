-- One message at the desk entry: the answer, the ledger handed back, and map and desk afterwards (01, "The desk", "Refusal numbers").
use Rattle.std.specs.Prelude.{ℕ, List, length, set, Result, Ok, Err}
use Rattle.refusals.specs.declared.Refusal.{Refusal}
use Rattle.refusals.specs.Refusals.{number_of}
use Rattle.used_numbers.specs.Marks.{marked_with}
use Rattle.ledger.specs.declared.Ledger.{Ledger}
use Rattle.slot.specs.declared.Slot.{Slot}
use Rattle.desk_rules.specs.Rules.{look_at}
use Rattle.desk_rules.specs.Plan.{Served, Plan, look_answer, plan_of}

-- "The smallest number that applies is the answer. It is given exactly then."
unfoldable pub message_answer : Ledger → List ℕ → List Slot → List ℕ → ℕ
message_answer l m d s = look_answer (look_at d s) l m s

-- what the message does, from what is found at the desk
abbrev pub planned : Ledger → List ℕ → List Slot → List ℕ → Plan
planned l m d s = plan_of (look_at d s) (length d) l m s

unfoldable pub ledger_served : Ledger → List ℕ → List Slot → List ℕ → Ledger
ledger_served l m d s = (planned l m d s).served.ledger

-- the number 0 marks nothing
unfoldable pub map_served : Ledger → List ℕ → List Slot → List ℕ → List ℕ
map_served l m d s = marked_with m (planned l m d s).number

-- past the last slot nothing is put
unfoldable pub desk_served : Ledger → List ℕ → List Slot → List ℕ → List Slot
desk_served l m d s = set d (planned l m d s).at (planned l m d s).slot

abbrev pub served_of : Ledger → List ℕ → List Slot → List ℕ → Served
served_of l m d s = record { answer = message_answer l m d s; ledger = ledger_served l m d s }

-- what an outcome comes to for a caller that holds the ledger: a refusal leaves it that ledger
abbrev pub served_in : Ledger → Result Ledger Refusal → Served
served_in l (Ok next) = record { answer = 0; ledger = next }
served_in l (Err r) = record { answer = number_of r; ledger = l }
