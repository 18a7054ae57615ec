-- What *customer by customer* says (01, "What one event adds", Stepped): the half customer-minutes of a counted stepped event are twice the minutes
-- added customer by customer, whichever customers of a level were off, as long as in every step as many were off as its count says.
use Rattle.std.specs.Prelude.{ℕ, ◌+◌, ◌*◌, ◌-◌, ◌<◌, ◌≡◌, ◌≢◌, List, [], ◌∷◌, map, Bool, false, cond, length, get_or}
use Rattle.base.specs.Lists.{sum, keep, All}
use Rattle.wire.specs.Frame.{kind_of}
use Rattle.codes.specs.Codes.{rows, levels}
use Rattle.annex.specs.declared.Step.{Step}
use Rattle.annex.specs.Annex.{counts_of, short_event}
use Rattle.annex.specs.Figure.{Halves}
use Rattle.fields.specs.Fields.{head_in, steps_in}
use Rattle.ledger.specs.declared.Ledger.{Ledger}
use Rattle.ledger.specs.Ledger.{cell_of, held_in}
use Rattle.ledger.specs.Take.{answer_of, ledger_after}
use Rattle.law_sums.specs.Accepted.{event_in, row_in}

-- "The counts of step k hold from the time before it (T0 for the first) to its own time": how long each step holds
abbrev pub durations : ℕ → List Step → List ℕ
durations before [] = []
durations before (s ∷ ss) = (s.time - before) ∷ durations s.time ss

-- a customer is told by one Bool for each step, whether it was off in it: its minutes are the durations of the steps in which it was
abbrev pub minutes_off : List Bool → List ℕ → ℕ
minutes_off [] ds = 0
minutes_off (off ∷ later) [] = 0
minutes_off (off ∷ later) (d ∷ ds) = cond off d 0 + minutes_off later ds

-- the minutes added customer by customer, of an event that starts at T0
abbrev pub minutes_of_all : ℕ → List Step → List (List Bool) → ℕ
minutes_of_all t0 ss customers = sum (map (λ (c : List Bool). minutes_off c (durations t0 ss)) customers)

-- the same as half customer-minutes, which the ledger keeps
abbrev pub halves_of_all : ℕ → List Step → List (List Bool) → ℕ
halves_of_all t0 ss customers = 2 * minutes_of_all t0 ss customers

-- how many customers were off in step k, counted from 0
abbrev pub was_off : ℕ → List Bool → Bool
was_off k customer = get_or customer k false

abbrev pub off_in : ℕ → List (List Bool) → ℕ
off_in k customers = length (keep (was_off k) customers)

-- customers that agree with the recorded counts of level h: each has one Bool for each step, and in every step exactly as many are off as its
-- count says
pub record Agrees (h : ℕ) (ss : List Step) (customers : List (List Bool)) : Type 0 where
  pub entries : All (λ (c : List Bool). length c ≡ length ss) customers
  pub counts : (k : ℕ) → k < length ss → off_in k customers ≡ get_or (counts_of h ss) k 0

-- a record of kind 3 that is accepted and not short: a stepped event that counts
pub record Counted (l : Ledger) (m s : List ℕ) : Type 0 where
  pub kind : kind_of s ≡ 3
  pub accepted : answer_of l m s ≡ 0
  pub not_short : short_event (event_in s) ≡ false

-- the cell of the event's row and level h grows by twice the minutes of its customers; the cells of the other rows are as they were
pub record AddsByCustomer (l : Ledger) (m s : List ℕ) (h : ℕ) (customers : List (List Bool)) : Type 0 where
  pub halves :
      held_in Halves (ledger_after l m s) (row_in s) h ≡ held_in Halves l (row_in s) h + halves_of_all (head_in s).t0 (steps_in s) customers
  pub others : (row level : ℕ) → row < rows → level < levels → row ≢ row_in s → cell_of (ledger_after l m s) row level ≡ cell_of l row level
