-- The bodies of records, by the offsets of 01's table ("Bytes on the wire").
use Rattle.std.specs.Prelude.{ℕ, zero, suc, ◌+◌, List, [], ◌∷◌, true, false}
use Rattle.wire.specs.Numbers.{byte_at, le16, le32, counts_at}
use Rattle.annex.specs.declared.Simple.{Simple}
use Rattle.annex.specs.declared.Step.{Step}
use Rattle.fields.specs.declared.Sheet.{Sheet}
use Rattle.fields.specs.declared.Head.{Head}

-- kind 1: "year 2, customers of each level 3x4"
abbrev pub sheet_in : List ℕ → Sheet
sheet_in s = record { there = true; year = le16 s 4; totals = counts_at s 6 }

-- "the year sheet (or none)"
abbrev pub no_sheet : Sheet
no_sheet = record { there = false; year = 0; totals = 0 ∷ 0 ∷ 0 ∷ [] }

-- kinds 2, 3 and 16: "number 2, type 1, voltage 1, cause 1, T0"
abbrev pub head_in : List ℕ → Head
head_in s = record { number = le16 s 4; typ = byte_at s 6; voltage = byte_at s 7; cause = byte_at s 8; t0 = le32 s 9 }

-- kind 2: ".. T0 T1 T2 T3 T4, n1 3x4, n2 3x4"
abbrev pub simple_in : List ℕ → Simple
simple_in s =
    record {
      t0 = le32 s 9;
      t1 = le32 s 13;
      t2 = le32 s 17;
      t3 = le32 s 21;
      t4 = le32 s 25;
      n1 = counts_at s 29;
      n2 = counts_at s 41;
    }

-- kind 3: ".. step count 1, then per step: time, 3 counts"
abbrev pub step_at : List ℕ → ℕ → Step
step_at s at = record { time = le32 s at; counts = counts_at s (at + 4) }

abbrev pub steps_from : List ℕ → ℕ → ℕ → List Step
steps_from s zero at = []
steps_from s (suc k) at = step_at s at ∷ steps_from s k (at + 16)

abbrev pub step_count : List ℕ → ℕ
step_count s = byte_at s 13

abbrev pub steps_in : List ℕ → List Step
steps_in s = steps_from s (step_count s) 14
