-- The bytes that a line stands for, by 01's table ("Bytes on the wire").
use Rattle.std.specs.Prelude.{ℕ, ◌-◌, ◌/◌, ◌%◌, List, [], ◌∷◌, not, cond, eqb, length, take, drop, get_or}
use Rattle.fields.specs.declared.Head.{Head}
use Rattle.codec.specs.Codec.{sheet_record, simple_record, stepped_record}
use Rattle.text_items.specs.Entry.{Entry}
use Rattle.text_items.specs.Shape.{whole_of}

abbrev pub one_each : List ℕ → List ℕ
one_each [] = []
one_each (v ∷ vs) = v % 256 ∷ one_each vs

-- the head of an event's line
abbrev pub head_of : List ℕ → Head
head_of vs = record { number = get_or vs 0 0; typ = get_or vs 1 0; voltage = get_or vs 2 0; cause = get_or vs 3 0; t0 = get_or vs 4 0 }

-- a sheet's line, a simple event's and a stepped event's
unfoldable pub sheet_bytes : List ℕ → List ℕ
sheet_bytes vs = sheet_record (get_or vs 0 0) (drop 1 vs)

unfoldable pub simple_bytes : List ℕ → List ℕ
simple_bytes vs = simple_record (head_of vs) (drop 5 vs)

abbrev pub steps_of : List ℕ → ℕ
steps_of vs = (length vs - 5) / 4

unfoldable pub stepped_bytes : List ℕ → List ℕ
stepped_bytes vs = stepped_record (head_of vs) (steps_of vs) (drop 5 vs)

-- the bytes of a line's numbers
unfoldable pub packed_as : ℕ → List ℕ → List ℕ
packed_as kind vs =
    cond (eqb kind 1) (sheet_bytes vs)
    (cond (eqb kind 2) (simple_bytes vs)
    (cond (eqb kind 3) (stepped_bytes vs)
    (one_each vs)))

-- those of an entry, where it is whole
unfoldable pub packed_of : Entry → List ℕ
packed_of e = cond (not (whole_of e.kind e.count)) [] (packed_as e.kind (take e.count e.values))
