-- The worked year (01, "Worked year") with its three faults in another order: the third, the first, the second. Computed from the bytes, it is
-- another book that is accepted, with P1 to P3 as its totals.
use Rattle.std.specs.Prelude.{ℕ, List, [], ◌∷◌}
use Rattle.wire.specs.Cut.{joined}
use Rattle.worked.specs.Bytes.{three, sheet, times}
use Rattle.worked.specs.Worked.{fault}

abbrev pub year_sheet : List ℕ
year_sheet = sheet 2009 (three 1000 10 1)

abbrev pub first : List ℕ
first = fault 1 13 7 (times 100 100 104 104) (three 1000 10 1)

abbrev pub second : List ℕ
second = fault 2 11 5 (times 200 200 225 225) (three 1000 10 0)

abbrev pub third : List ℕ
third = fault 3 11 1 (times 300 300 350 350) (three 1000 0 0)

-- the year's records, and the same in another order
abbrev pub as_worked : List (List ℕ)
as_worked = first ∷ second ∷ third ∷ []

abbrev pub turned : List (List ℕ)
turned = third ∷ first ∷ second ∷ []

abbrev pub turned_year : List ℕ
turned_year = joined (year_sheet ∷ turned)
