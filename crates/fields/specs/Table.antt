-- 01's table of kinds ("Bytes on the wire"): the fields of each kind's body, in order, each a number of 1, 2 or 4 bytes. Where a field stands, and how long
-- the record is, follows from it.
use Rattle.std.specs.Prelude.{ℕ, zero, suc, ◌+◌, List, [], ◌∷◌, ◌++◌, map, take}
use Rattle.base.specs.Lists.{sum}
use Rattle.wire.specs.Numbers.{byte_at, le16, le32}
use Rattle.annex.specs.declared.Step.{Step}
use Rattle.fields.specs.declared.Head.{Head}

pub data Width : Type 0 where
  One : Width
  Two : Width
  Four : Width

abbrev pub bytes_of : Width → ℕ
bytes_of One = 1
bytes_of Two = 2
bytes_of Four = 4

-- "Counts (4 bytes each) come as three counts"; times are of 4 bytes too
abbrev pub counts : List Width
counts = Four ∷ Four ∷ Four ∷ []

-- 1, year sheet: "year 2, customers of each level 3x4"
abbrev pub sheet_fields : List Width
sheet_fields = Two ∷ counts

-- 16, open: "number 2, type 1, voltage 1, cause 1, T0"; both events begin so too
abbrev pub open_fields : List Width
open_fields = Two ∷ One ∷ One ∷ One ∷ Four ∷ []

-- 2, simple event: ".. T0 T1 T2 T3 T4, n1 3x4, n2 3x4"
abbrev pub simple_fields : List Width
simple_fields = open_fields ++ (Four ∷ Four ∷ Four ∷ Four ∷ (counts ++ counts))

-- 3, stepped event: ".. T0, step count 1, then per step: time, 3 counts"
abbrev pub steps_fields : ℕ → List Width
steps_fields zero = []
steps_fields (suc k) = Four ∷ (counts ++ steps_fields k)

abbrev pub stepped_fields : ℕ → List Width
stepped_fields steps = open_fields ++ (One ∷ steps_fields steps)

-- 17, step: "number 2, ordinal 1, time, 3 counts"
abbrev pub step_fields : List Width
step_fields = Two ∷ One ∷ Four ∷ counts

-- 18, close: "number 2, steps taken 1"
abbrev pub close_fields : List Width
close_fields = Two ∷ One ∷ []

-- behind "its whole length in bytes (2), then its kind (2)": the whole length, and where the field with i fields before it stands
abbrev pub length_of : List Width → ℕ
length_of ws = 4 + sum (map bytes_of ws)

abbrev pub offset_of : List Width → ℕ → ℕ
offset_of ws i = 4 + sum (map bytes_of (take i ws))

-- the number of a field that stands at an offset
abbrev pub number_at : Width → List ℕ → ℕ → ℕ
number_at One s at = byte_at s at
number_at Two s at = le16 s at
number_at Four s at = le32 s at

-- the numbers of fields that stand one after the other, and those of a record
abbrev pub numbers_from : List Width → List ℕ → ℕ → List ℕ
numbers_from [] s at = []
numbers_from (w ∷ ws) s at = number_at w s at ∷ numbers_from ws s (at + bytes_of w)

abbrev pub numbers_by : List Width → List ℕ → List ℕ
numbers_by ws s = numbers_from ws s 4

-- a head's numbers and those of steps, in the table's order
abbrev pub head_numbers : Head → List ℕ
head_numbers h = h.number ∷ h.typ ∷ h.voltage ∷ h.cause ∷ h.t0 ∷ []

abbrev pub steps_numbers : List Step → List ℕ
steps_numbers [] = []
steps_numbers (st ∷ ss) = st.time ∷ (st.counts ++ steps_numbers ss)
