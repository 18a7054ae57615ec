-- What the functions answer, in the numbers of the definitions.
use Rattle.std.specs.Prelude.{ℕ, List, Option, Some, None, Result, Ok, Err, cond, ltb, length}
use Rattle.text_scan.specs.Found.{Found}
use Rattle.text_scan.specs.declared.Found.{Found as Item}
use Rattle.text_scan.specs.declared.Wrong.{Wrong}
use Rattle.text_scan.specs.declared.Expected.{Expected}
use Rattle.text_scan.specs.declared.Expected.TheVariants.{Word, Number, AtMost255, AtMost65535, AtMost4294967295, Time, SheetBefore, DayOfYear, TwoDigits, Gap, NoMore, More, OtherSeparator, Separator, EmptyCell}

abbrev pub expected_number : Expected → ℕ
expected_number Word = 1
expected_number Number = 2
expected_number AtMost255 = 3
expected_number AtMost65535 = 4
expected_number AtMost4294967295 = 5
expected_number Time = 6
expected_number SheetBefore = 7
expected_number DayOfYear = 8
expected_number TwoDigits = 9
expected_number Gap = 10
expected_number NoMore = 11
expected_number More = 12
expected_number OtherSeparator = 13
expected_number Separator = 14
expected_number EmptyCell = 15

-- the number of what was expected, if that has a name; 0: it has none
abbrev pub asked_number : Option Expected → ℕ
asked_number None = 0
asked_number (Some e) = expected_number e

-- a number as far as it names what was expected, 1 to 15; any other names nothing, as 0 does
abbrev pub number_named : ℕ → ℕ
number_named n = cond (ltb 15 n) 0 n

-- what was expected, so many bytes on
abbrev pub wrong_at : Expected → ℕ → Wrong
wrong_at e at = record { expected = e; at = at }

-- what is wrong, as the definitions say it
abbrev pub wrong_in : Wrong → Found
wrong_in w = record { answer = expected_number w.expected; value = 0; used = w.at }

-- an item that was read, or what is wrong
abbrev pub found_in : Result Item Wrong → Found
found_in (Ok f) = record { answer = 0; value = f.value; used = f.used }
found_in (Err w) = wrong_in w

-- a gap that is right, or what is wrong with it
abbrev pub gap_in : Result (Unit {0}) Wrong → Found
gap_in (Ok _) = record { answer = 0; value = 0; used = 0 }
gap_in (Err w) = wrong_in w

-- a place of a line, and none where that is the line's length
abbrev pub place_within : ℕ → List ℕ → Option ℕ
place_within n s = cond (ltb n (length s)) (Some n) None

-- the number of a hexadecimal digit, and none where it is 16
abbrev pub below_16 : ℕ → Option ℕ
below_16 n = cond (ltb 15 n) None (Some n)
