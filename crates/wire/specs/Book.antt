-- What stands at an offset of a book: the next record's place, "the end when no byte is left", or "a broken length (stated under 4 or past
-- the end, or only 1 to 3 bytes left)" (01, "Bytes on the wire").
use Rattle.std.specs.Prelude.{ℕ, ◌+◌, ◌-◌, List, cond, length, take, drop, ltb, leb}
use Rattle.wire.specs.Numbers.{le16}
use Rattle.wire.specs.declared.Place.{Place}
use Rattle.wire.specs.declared.Place.TheVariants.{Record, End, Broken}

unfoldable pub place_at : List ℕ → ℕ → Place
place_at book at =
    cond (leb (length book) at) End
    (cond (ltb (length book - at) 4) Broken
    (cond (ltb (le16 book at) 4) Broken
    (cond (ltb (length book - at) (le16 book at)) Broken
    (Record at (at + le16 book at)))))

-- 0 a record, 1 the end, 2 a broken length
abbrev pub which_of : Place → ℕ
which_of (Record start end) = 0
which_of End = 1
which_of Broken = 2

-- where the record starts and ends; where none stands, both are the offset itself
abbrev pub start_of : Place → ℕ → ℕ
start_of (Record start end) at = start
start_of End at = at
start_of Broken at = at

abbrev pub end_of : Place → ℕ → ℕ
end_of (Record start end) at = end
end_of End at = at
end_of Broken at = at

-- the same in numbers, with the record's place; where no record stands, both places are the offset
pub record Stand : Type 0 where
  pub which : ℕ
  pub start : ℕ
  pub end : ℕ

abbrev pub stand_of : Place → ℕ → Stand
stand_of p at = record { which = which_of p; start = start_of p at; end = end_of p at }

abbrev pub part_of : List ℕ → ℕ → ℕ → List ℕ
part_of book start end = take (end - start) (drop start book)

-- what a reading at an offset finds: which case, the record's bytes, and the offset past it
abbrev pub which_at : List ℕ → ℕ → ℕ
which_at book at = which_of (place_at book at)

abbrev pub record_at : List ℕ → ℕ → List ℕ
record_at book at = part_of book (start_of (place_at book at) at) (end_of (place_at book at) at)

abbrev pub after_at : List ℕ → ℕ → ℕ
after_at book at = end_of (place_at book at) at
