-- The numbers of a record by 01's table ("Bytes on the wire"), in the order of the line that stands for it.
use Rattle.std.specs.Prelude.{ℕ, zero, suc, ◌+◌, ◌-◌, ◌*◌, List, [], ◌∷◌, not, cond, eqb, ltb, leb, length, take}
use Rattle.wire.specs.Numbers.{byte_at, le16, le32}
use Rattle.wire.specs.Frame.{framed, kind_of}
use Rattle.fields.specs.Fields.{sheet_in, step_count}
use Rattle.fields.specs.Tests.{in_range}
use Rattle.text_items.specs.Entry.{Entry}
use Rattle.text_items.specs.Shape.{most_of, entry_of, no_entry}

-- "14 + 16 x steps", "Steps are 1 to 64"
abbrev pub stepped_in : List ℕ → ℕ
stepped_in s =
    cond (eqb (step_count s) 0) 0
    (cond (ltb 64 (step_count s)) 0
    (cond (eqb (length s) (14 + 16 * step_count s)) 3 0))

-- a record with its own length and the length of its kind
unfoldable pub kind_in : List ℕ → ℕ
kind_in s =
    cond (not (framed s)) 0
    (cond (eqb (kind_of s) 1) (cond (eqb (length s) 18) 1 0)
    (cond (eqb (kind_of s) 2) (cond (eqb (length s) 53) 2 0)
    (cond (not (eqb (kind_of s) 3)) 0 (stepped_in s))))

unfoldable pub count_in : List ℕ → ℕ → ℕ
count_in s kind = cond (eqb kind 3) (5 + 4 * step_count s) (most_of kind)

-- the k-th number: 2 bytes, then of an event three codes of 1 byte and T0; all others are 4 bytes each, a stepped event's after its step count
unfoldable pub value_in : List ℕ → ℕ → ℕ → ℕ
value_in s kind k =
    cond (leb 261 k) 0
    (cond (eqb k 0) (le16 s 4)
    (cond (eqb kind 1) (le32 s (4 * k + 2))
    (cond (ltb k 4) (byte_at s (k + 5))
    (cond (eqb k 4) (le32 s 9)
    (cond (eqb kind 2) (le32 s (4 * k - 7))
    (le32 s (4 * k - 6)))))))

-- so many numbers, from the k-th on
abbrev pub values_run : ℕ → List ℕ → ℕ → ℕ → List ℕ
values_run zero s kind k = []
values_run (suc n) s kind k = value_in s kind k ∷ values_run n s kind (k + 1)

abbrev pub values_in : List ℕ → List ℕ
values_in s = values_run (count_in s (kind_in s)) s (kind_in s) 0

unfoldable pub unpacked_of : List ℕ → Entry
unpacked_of s = cond (eqb (kind_in s) 0) no_entry (entry_of (kind_in s) (values_in s))

-- a line of bytes: as many as there are, at most 32
unfoldable pub bytes_entry : List ℕ → Entry
bytes_entry s = entry_of 4 (take 32 s)

-- the year of the first sheet in range
unfoldable pub year_after : ℕ → List ℕ → ℕ
year_after year s =
    cond (not (eqb year 0)) year
    (cond (not (eqb (kind_in s) 1)) 0
    (cond (in_range (sheet_in s)) (sheet_in s).year 0))
