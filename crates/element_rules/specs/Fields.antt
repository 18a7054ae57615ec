-- The bodies of kinds 4 and 5 (02, K1); a year sheet is as in 01.
use Rattle.std.specs.Prelude.{ℕ, List}
use Rattle.wire.specs.Numbers.{byte_at, le16, le32}

-- kinds 4 and 5 begin with "element code 2"
abbrev pub code_in : List ℕ → ℕ
code_in s = le16 s 4

-- kind 4: "start 4, end minute 4"
abbrev pub start_in : List ℕ → ℕ
start_in s = le32 s 6

abbrev pub end_in : List ℕ → ℕ
end_in s = le32 s 10

-- kind 5: "a byte 0 for pieces or 1 for line, pieces or tenths of a kilometre 4"
abbrev pub unit_in : List ℕ → ℕ
unit_in s = byte_at s 6

abbrev pub amount_in : List ℕ → ℕ
amount_in s = le32 s 7
