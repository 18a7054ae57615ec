-- A reading in pieces as a loop over `read_behind` has it: some pieces came, one at most in a turn and none longer than the buffer, and the reading holds
-- them. Which pieces, the system decides.
use Rattle.std.specs.Prelude.{ℕ, ◌*◌, ◌≤◌, List, length}
use Rattle.wire.specs.Cut.{joined}
use Rattle.records.specs.Pieces.{beginning, fed_all, Held}
use Rattle.records.proofs.HeldLaws.{Holding}

-- the most bytes that a buffer has: as many as the programs read into
abbrev pub room : ℕ
room = 65536

-- the most turns of a loop: more than any file has pieces, 2^40
abbrev pub most_turns : ℕ
most_turns = 1099511627776

pub record Arrived {S : Type 0} (step : S → List ℕ → S) (st : S) (h : Held S) (b : List ℕ) (turns : ℕ) : Type 0 where
  pub pieces : List (List ℕ)
  pub holds : Holding step h b (fed_all step (beginning st) pieces)
  pub few : length (joined pieces) ≤ turns * room
