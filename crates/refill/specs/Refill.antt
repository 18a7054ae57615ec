-- What a read behind the bytes held at a buffer's front does to it: which bytes came, and whether any did, the system decides.
use Rattle.std.specs.Prelude.{ℕ, ◌≤◌, ◌<◌, ◌≡◌, Bool, true, false, List, length, take, Result, Ok, Err, Option, Some, None}
use Rattle.refill.specs.declared.Failed.{Failed}

-- how many bytes of the buffer are filled; whether none came, as at the end of the input; whether that is because the read failed
pub record Filled : Type 0 where
  pub count : ℕ
  pub ended : Bool
  pub failed : Bool

-- what is answered says all three
abbrev pub filled_in : ℕ → Result (Option ℕ) Failed → Filled
filled_in held (Ok (Some count)) = record { count = count; ended = false; failed = false }
filled_in held (Ok None) = record { count = held; ended = true; failed = false }
filled_in held (Err failed) = record { count = held; ended = true; failed = true }

pub record Refilled (before : List ℕ) (held : ℕ) (r : Filled) (after : List ℕ) : Type 0 where
  -- the bytes held stay, and the buffer keeps its size
  pub front : take held after ≡ take held before
  pub long : length after ≡ length before
  -- where bytes came they stand behind those held, within the buffer
  pub behind : r.ended ≡ false → held < r.count
  pub within : r.ended ≡ false → r.count ≤ length after
  -- a read that failed brought none
  pub none : r.failed ≡ true → r.ended ≡ true
