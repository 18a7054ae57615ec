-- *Turned* and *joined* of small files, computed from their bytes, and what becomes of each where one of its conditions does not hold: each of them
-- is needed.
use Rattle.std.specs.Prelude.{ℕ, List, [], ◌∷◌, ◌++◌, true}
use Rattle.wire.specs.Cut.{joined}
use Rattle.wire.specs.Numbers.{le2, le4}
use Rattle.codec.specs.Codec.{four_each, frame, sheet_record}
use Rattle.element_row.specs.declared.Row.{Row}
use Rattle.element_table.specs.declared.Table.{Table}
use Rattle.element_table.specs.Table.{begun, seen_as}
use Rattle.element_table.specs.Take.{with_row}
use Rattle.element_laws.specs.Turned.{files_of}
use Rattle.element_laws.specs.Join.{plus_row, table_of, row_in}

-- records as bytes, field by field in the order of 02, K1: an element outage, and a stock of pieces (0) or of a line (1)
abbrev pub outage : ℕ → ℕ → ℕ → List ℕ
outage code start end = frame 14 4 ++ (le2 code ++ four_each (start ∷ end ∷ []))

abbrev pub stock : ℕ → ℕ → ℕ → List ℕ
stock code unit amount = frame 11 5 ++ (le2 code ++ (unit ∷ le4 amount))

abbrev pub sheet_of : ℕ → List ℕ
sheet_of year = sheet_record year (1000 ∷ 10 ∷ 1 ∷ [])

-- two yearly files: code 1 has pieces and code 2 is a line; and the same with the files, and the records after each sheet, in another order
abbrev pub year1 : List (List ℕ)
year1 = sheet_of 2008 ∷ outage 1 100 160 ∷ stock 1 0 40 ∷ outage 2 500 530 ∷ []

abbrev pub year2 : List (List ℕ)
year2 = sheet_of 2009 ∷ stock 2 1 250 ∷ outage 1 7 9 ∷ []

abbrev pub turned1 : List (List ℕ)
turned1 = sheet_of 2008 ∷ stock 1 0 40 ∷ outage 1 100 160 ∷ outage 2 500 530 ∷ []

abbrev pub turned2 : List (List ℕ)
turned2 = sheet_of 2009 ∷ outage 1 7 9 ∷ stock 2 1 250 ∷ []

abbrev pub as_fed : List (List ℕ)
as_fed = files_of (year1 ∷ year2 ∷ [])

abbrev pub as_turned : List (List ℕ)
as_turned = files_of (turned2 ∷ turned1 ∷ [])

-- code 1 has two outages of 60 and 2 minutes and 40 pieces; code 2 one of 30 minutes and 250 tenths of a kilometre
abbrev pub row_one : Row
row_one = record { outages = 2; minutes = 62; stock = 1; amount = 40 }

abbrev pub row_two : Row
row_two = record { outages = 1; minutes = 30; stock = 2; amount = 250 }

-- and this is what the records after the sheets tell of these elements
abbrev pub after_sheets : List (List ℕ)
after_sheets = outage 1 100 160 ∷ stock 1 0 40 ∷ outage 2 500 530 ∷ stock 2 1 250 ∷ outage 1 7 9 ∷ []

abbrev pub sum_in : ℕ → Row
sum_in row = plus_row (row_in (table_of 2 (joined year1 ∷ [])) row) (row_in (table_of 2 (joined year2 ∷ [])) row)

-- not every record accepted: the stock of one code told twice in a file. The second is refused, so that the order decides which amount stays.
abbrev pub stocked : ℕ → ℕ → List (List ℕ)
stocked a b = sheet_of 2009 ∷ stock 1 0 a ∷ stock 1 0 b ∷ []

-- the sheet moved behind a record: the record before it is refused 5, and its outage is not counted
abbrev pub sheet_first : List ℕ
sheet_first = joined (sheet_of 2009 ∷ outage 1 100 160 ∷ [])

abbrev pub sheet_behind : List ℕ
sheet_behind = joined (outage 1 100 160 ∷ sheet_of 2009 ∷ [])

-- a file without a record: nothing is refused, but it clears the mark, so that the table is another where it is moved to the end
abbrev pub empty : List (List ℕ)
empty = []

abbrev pub only : List (List ℕ)
only = sheet_of 2009 ∷ []

-- a stocked code that is shared: two files that are accepted each by itself, but the stock of the second is refused 5 after the first
abbrev pub ten_pieces : List ℕ
ten_pieces = joined (sheet_of 2008 ∷ stock 1 0 10 ∷ [])

abbrev pub twenty_pieces : List ℕ
twenty_pieces = joined (sheet_of 2009 ∷ stock 1 0 20 ∷ [])

-- an element with 65,535 outages, in a sound table that is lent so: the next outage is refused 15, and with 65,534 it is accepted
abbrev pub holding : ℕ → Table
holding outages = seen_as true (with_row (begun 1) 0 (record { outages = outages; minutes = 0; stock = 0; amount = 0 }))
