-- One record at the book entry: the answer, the ledger handed back, and the map afterwards (01, "Refusal numbers").
use Rattle.std.specs.Prelude.{ℕ, List, ◌∷◌, Bool, ◌||◌, not, cond, length, eqb, Result, Ok, Err}
use Rattle.refusals.specs.declared.Refusal.{Refusal}
use Rattle.refusals.specs.Refusals.{number_of}
use Rattle.base.specs.First.{Rule, first}
use Rattle.used_numbers.specs.Marks.{marked_with, map_size}
use Rattle.record.specs.Rules.{rules}
use Rattle.record.specs.Verdict.{verdict_of}
use Rattle.ledger.specs.declared.Ledger.{Ledger}
use Rattle.ledger.specs.Ledger.{added}
use Rattle.ledger.specs.Sound.{sound_ledger}

-- an answer, and the next ledger
pub record Taken : Type 0 where
  pub answer : ℕ
  pub ledger : Ledger

-- 1: "map not 8,192 bytes, unsound ledger"
abbrev pub unsound : Ledger → List ℕ → Bool
unsound l m = not (eqb (length m) map_size) || not (sound_ledger l)

abbrev pub take_rules : Ledger → List ℕ → List ℕ → List Rule
take_rules l m s = (1, unsound l m) ∷ rules s l.sheet m l.events

-- "The smallest number that applies is the answer."
unfoldable pub answer_of : Ledger → List ℕ → List ℕ → ℕ
answer_of l m s = first (take_rules l m s)

-- an accepted record adds its verdict; "on a refusal, ledger entries return the number and the same ledger"
unfoldable pub ledger_after : Ledger → List ℕ → List ℕ → Ledger
ledger_after l m s = cond (eqb (answer_of l m s) 0) (added l (verdict_of s l.sheet m l.events)) l

-- "An accepted book event marks its number"; a sheet, and every refused record, leaves the map as lent
unfoldable pub map_after : Ledger → List ℕ → List ℕ → List ℕ
map_after l m s = cond (eqb (answer_of l m s) 0) (marked_with m (verdict_of s l.sheet m l.events).number) m

abbrev pub taken_of : Ledger → List ℕ → List ℕ → Taken
taken_of l m s = record { answer = answer_of l m s; ledger = ledger_after l m s }

-- what an outcome comes to for a caller that holds the ledger: a refusal leaves it that ledger
abbrev pub taken_in : Ledger → Result Ledger Refusal → Taken
taken_in l (Ok next) = record { answer = 0; ledger = next }
taken_in l (Err r) = record { answer = number_of r; ledger = l }
