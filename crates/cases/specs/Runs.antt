-- The numbers of a line: its runs of decimal digits, whatever stands between them. Assumes nothing.
use Rattle.std.specs.Prelude.{ℕ, ◌+◌, ◌*◌, ◌%◌, ◌^◌, not, List, ◌++◌, cond, ltb, length, get_or, set, take, map, filter, fold, replicate}
use Rattle.std.specs.Char.{is_ascii_digit}
use Rattle.std.specs.List.{slice_split}

-- the runs of one digit or more, in their order
abbrev pub runs_in : List (List ℕ) → List (List ℕ)
runs_in parts = filter (λ part. ltb 0 (length part)) parts

abbrev pub runs_of : List ℕ → List (List ℕ)
runs_of line = runs_in (slice_split (λ b. not (is_ascii_digit b)) line)

-- a number with one digit more. What a u64 has no room for wraps, and past that no digit is added
abbrev pub wrapped : ℕ → ℕ → ℕ
wrapped n digit = cond (ltb (n * 10) (2 ^ 64)) ((n * 10 + digit % 16) % 2 ^ 64) n

-- a number with one digit more, as long as a u64 has room for it
abbrev pub fitted : ℕ → ℕ → ℕ
fitted n digit =
    cond (ltb (n * 10) (2 ^ 64)) (cond (ltb (n * 10 + digit % 16) (2 ^ 64)) (n * 10 + digit % 16) (n * 10 + digit % 16 % 6)) n

-- the numbers of runs, each from 0 on
abbrev pub numbers_in : List (List ℕ) → List ℕ
numbers_in runs = map (fold wrapped 0) runs

-- the first twelve, and behind them as many 0 as are missing
abbrev pub twelve_of : List ℕ → List ℕ
twelve_of numbers = take 12 (numbers ++ replicate 12 0)

-- the numbers that stand at places 1 to 15 of sixteen, and the place of the last one
pub record Turns : Type 0 where
  pub values : List ℕ
  pub count : ℕ

abbrev pub no_turns : Turns
no_turns = record { values = replicate 16 0; count = 0 }

-- a run more: at the next place, or again at the first behind the fifteenth, on from the number that stands there
abbrev pub turned : Turns → List ℕ → Turns
turned told run =
    record {
      values = set told.values (told.count % 15 + 1) (fold fitted (get_or told.values (told.count % 15 + 1) 0) run);
      count = told.count % 15 + 1;
    }

abbrev pub turns_in : List (List ℕ) → Turns
turns_in runs = fold turned no_turns runs
