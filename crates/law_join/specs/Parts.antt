-- The worked year (01, "Worked year") cut in two, after fault 1 and after fault 2: parts that are books, each with the year's sheet. And a book
-- under another sheet of that year.
use Rattle.std.specs.Prelude.{ℕ, List, [], ◌∷◌, ◌++◌}
use Rattle.wire.specs.Cut.{joined}
use Rattle.index.specs.declared.Level.TheVariants as level
use Rattle.worked.specs.Bytes.{three, sheet}
use Rattle.worked.specs.Worked.{ledger_of, totals}
use Rattle.law_order.specs.Turned.{year_sheet, first, second, third}

abbrev pub with1 : List ℕ
with1 = joined (year_sheet ∷ first ∷ [])

abbrev pub with23 : List ℕ
with23 = joined (year_sheet ∷ second ∷ third ∷ [])

abbrev pub with12 : List ℕ
with12 = joined (year_sheet ∷ first ∷ second ∷ [])

abbrev pub with3 : List ℕ
with3 = joined (year_sheet ∷ third ∷ [])

-- 100 customers on NN for 1000, and no events
abbrev pub fewer : List ℕ
fewer = sheet 2009 (three 100 10 1)

-- events and short events of a book, then customers and halves of NN, of VN and of VVN
abbrev pub figures : List ℕ → List ℕ
figures book =
    (ledger_of book).events ∷
    (ledger_of book).short ∷
    (totals (ledger_of book) level.NN ++ (totals (ledger_of book) level.VN ++ totals (ledger_of book) level.VVN))
