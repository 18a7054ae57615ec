-- The customers of P7 (01, "Worked year"; 003, 10.5), on NN: "times 84, 87, 167, 174, NN counts 62, 2418, 62, 2418".
use Rattle.std.specs.Prelude.{List, [], ◌∷◌, ◌++◌, Bool, true, false, replicate}
use Rattle.book.specs.Book.{BookState}
use Rattle.worked.specs.Worked.{sheet105, after_sheet}

-- off in all four steps, and in the second and the fourth
abbrev pub in_all : List Bool
in_all = true ∷ true ∷ true ∷ true ∷ []

abbrev pub in_two : List Bool
in_two = false ∷ true ∷ false ∷ true ∷ []

abbrev pub customers105 : List (List Bool)
customers105 = replicate 62 in_all ++ replicate 2356 in_two

-- the ledger and the map that P7 is taken with: those after its sheet
abbrev pub before105 : BookState
before105 = after_sheet sheet105
