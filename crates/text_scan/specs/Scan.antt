-- The items of a line of text (docs/TEXT.md), read from the front of what is left of the line.
use Rattle.std.specs.Prelude.{ℕ, suc, ◌+◌, ◌-◌, ◌*◌, List, [], ◌∷◌, Bool, true, ◌&&◌, ◌||◌, not, cond, eqb, ltb, leb, length, drop}
use Rattle.wire.specs.Numbers.{byte_at}
use Rattle.calendar.specs.Calendar.{Minute}
use Rattle.calendar.specs.Calendar.{minute_of}
use Rattle.text_scan.specs.Found.{Found}
use Rattle.text_scan.specs.declared.Digits.{Digits}

-- an item read, and one that is not there: what was expected
abbrev pub read : ℕ → ℕ → Found
read value used = record { answer = 0; value = value; used = used }

abbrev pub expected : ℕ → Found
expected answer = record { answer = answer; value = 0; used = 0 }

-- what is said of a place so many bytes on
abbrev pub said_at : ℕ → ℕ → Found
said_at answer used = record { answer = answer; value = 0; used = used }

-- a space, a tab, a comma, a semicolon, a bar or a carriage return
unfoldable pub is_gap : ℕ → Bool
is_gap b = eqb b 32 || eqb b 9 || eqb b 44 || eqb b 59 || eqb b 124 || eqb b 13

abbrev pub gaps_in : List ℕ → ℕ
gaps_in [] = 0
gaps_in (b ∷ bs) = cond (is_gap b) (suc (gaps_in bs)) 0

-- the line's end, or # and a comment
abbrev pub ends_here : List ℕ → Bool
ends_here [] = true
ends_here (b ∷ bs) = eqb b 35

abbrev pub parted_here : List ℕ → Bool
parted_here s = ends_here s || is_gap (byte_at s 0)

-- a tab, a comma or a semicolon: each makes a line one of cells
unfoldable pub separates : ℕ → Bool
separates b = eqb b 9 || eqb b 44 || eqb b 59

-- the line's separator: the first of the three before the comment; 0: no line of cells
abbrev pub separator_of : List ℕ → ℕ
separator_of [] = 0
separator_of (b ∷ bs) = cond (eqb b 35) 0 (cond (separates b) b (separator_of bs))

-- where the first byte of a sort stands: the length where none does
abbrev pub first_of : (ℕ → Bool) → List ℕ → ℕ
first_of p [] = 0
first_of p (b ∷ bs) = cond (p b) 0 (suc (first_of p bs))

-- where "another of the three" stands in a gap
unfoldable pub is_other : ℕ → ℕ → Bool
is_other b sep = separates b && not (eqb b sep)

abbrev pub other_at : List ℕ → ℕ → ℕ
other_at gap sep = first_of (λ (b : ℕ). is_other b sep) gap

-- where the separator first stands in a gap, and where for the second time
abbrev pub separator_place : List ℕ → ℕ → ℕ
separator_place gap sep = first_of (λ (b : ℕ). eqb b sep) gap

abbrev pub second_of : List ℕ → ℕ → ℕ
second_of gap sep = separator_place gap sep + 1 + separator_place (drop (separator_place gap sep + 1) gap) sep

-- a gap of a line of cells: 13 at another separator; and where an item follows it, "exactly one separator": 14 at the item where it has none, and 15 at the
-- second, where an empty cell ends
unfoldable pub gap_said : List ℕ → ℕ → Bool → Found
gap_said gap sep due =
    cond (ltb (other_at gap sep) (length gap)) (said_at 13 (other_at gap sep))
    (cond (not due) (said_at 0 0)
    (cond (leb (length gap) (separator_place gap sep)) (said_at 14 (length gap))
    (cond (ltb (second_of gap sep) (length gap)) (said_at 15 (second_of gap sep)) (said_at 0 0))))

-- numbers in plain decimal: 0 to 9
unfoldable pub is_digit : ℕ → Bool
is_digit b = leb 48 b && leb b 57

-- one digit more; past 4,294,967,295 the number stays, as it is too large already
unfoldable pub grown : ℕ → ℕ → ℕ
grown value b = cond (ltb 4294967295 value) value (value * 10 + (b - 48))

abbrev pub digits_from : ℕ → ℕ → List ℕ → Digits
digits_from value used [] = record { value = value; used = used }
digits_from value used (b ∷ bs) = cond (is_digit b) (digits_from (grown value b) (used + 1) bs) (record { value = value; used = used })

-- the digits in front, and the number that they write
unfoldable pub digits_of : List ℕ → Digits
digits_of s = digits_from 0 0 s

unfoldable pub number_found : List ℕ → ℕ → ℕ → ℕ → Found
number_found s most none large =
    cond (eqb (digits_of s).used 0) (expected none)
    (cond (ltb most (digits_of s).value) (expected large)
    (read (digits_of s).value (digits_of s).used))

-- two digits at a place (of the first 16), and their number
unfoldable pub two_stand : List ℕ → ℕ → Bool
two_stand s at = ltb at 16 && is_digit (byte_at s at) && is_digit (byte_at s (at + 1))

unfoldable pub two_at : List ℕ → ℕ → ℕ
two_at s at = cond (two_stand s at) ((byte_at s at - 48) * 10 + (byte_at s (at + 1) - 48)) 0

-- MM-DD hh:mm
unfoldable pub date_stands : List ℕ → Bool
date_stands s =
    two_stand s 0 && eqb (byte_at s 2) 45 && two_stand s 3 && eqb (byte_at s 5) 32 && two_stand s 6 && eqb (byte_at s 8) 58 && two_stand s 9

abbrev pub date_minute : List ℕ → ℕ → Minute
date_minute s year = minute_of year (record { month = two_at s 0; day = two_at s 3; hour = two_at s 6; minute = two_at s 9 })

-- 6: a time; 7: a sheet before it, where no year is known; 8: a day of the year, and a time of it
unfoldable pub date_found : List ℕ → ℕ → Found
date_found s year =
    cond (not (date_stands s)) (expected 6)
    (cond (eqb year 0) (expected 7)
    (cond (not (date_minute s year).there) (expected 8)
    (read (date_minute s year).value 11)))

-- times as minutes, or as MM-DD hh:mm
unfoldable pub time_found : List ℕ → ℕ → Found
time_found s year = cond (eqb (byte_at s 2) 45) (date_found s year) (number_found s 4294967295 6 5)

-- 0 to 9, A to F, a to f; 16 for any other byte
unfoldable pub hex_value : ℕ → ℕ
hex_value b =
    cond (ltb b 48) 16
    (cond (leb b 57) (b - 48)
    (cond (ltb b 65) 16
    (cond (leb b 70) (b - 55)
    (cond (ltb b 97) 16
    (cond (leb b 102) (b - 87) 16)))))

unfoldable pub hex_found : List ℕ → Found
hex_found s =
    cond (ltb 15 (hex_value (byte_at s 0))) (expected 9)
    (cond (ltb 15 (hex_value (byte_at s 1))) (expected 9)
    (read (hex_value (byte_at s 0) * 16 + hex_value (byte_at s 1)) 2))

-- an item of a sort: numbers of 1, of 2 and of 4 bytes, a time, two hexadecimal digits
unfoldable pub item_found : List ℕ → ℕ → ℕ → Found
item_found s item year =
    cond (eqb item 1) (number_found s 255 2 3)
    (cond (eqb item 2) (number_found s 65535 2 4)
    (cond (eqb item 4) (time_found s year)
    (cond (eqb item 5) (hex_found s)
    (number_found s 4294967295 2 5))))
