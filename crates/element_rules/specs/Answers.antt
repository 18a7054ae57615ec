-- 02, K1: the refusal numbers of a record of a yearly file that are left for each kind, once the table is sound and the record framed.
use Rattle.std.specs.Prelude.{ℕ, List, [], ◌∷◌, Bool, ◌||◌, not, length, leb, ltb, eqb}
use Rattle.base.specs.First.{first}
use Rattle.codes.specs.Ranges.{latest}
use Rattle.fields.specs.Fields.{sheet_in}
use Rattle.fields.specs.Tests.{in_range}
use Rattle.element_codes.specs.Elements.{element_listed}
use Rattle.element_row.specs.declared.Row.{Row}
use Rattle.element_row.specs.Row.{most_outages}
use Rattle.element_rules.specs.Fields.{code_in, start_in, end_in, unit_in}

-- a year sheet: 4 its length, 5 a second one in a file, 6 "year or a level total out of range"
abbrev pub sheet_answer : Bool → List ℕ → ℕ
sheet_answer seen s = first ((4, not (eqb (length s) 18)) ∷ (5, seen) ∷ (6, not (in_range (sheet_in s))) ∷ [])

-- an outage: 5 before its file's sheet, 7 an unknown element, 10 its times, 15 "a code with 65,535 outages"
abbrev pub outage_answer : Bool → Row → List ℕ → ℕ
outage_answer seen r s =
    first
    ((4, not (eqb (length s) 14)) ∷
    (5, not seen) ∷
    (7, not (element_listed (code_in s))) ∷
    (10, ltb (end_in s) (start_in s) || ltb latest (start_in s) || ltb latest (end_in s)) ∷
    (15, leb most_outages r.outages) ∷ [])

-- a stock: 5 before its file's sheet or a second one of its code, 7 an unknown element or "a stock byte that is neither"
abbrev pub stock_answer : Bool → Row → List ℕ → ℕ
stock_answer seen r s =
    first
    ((4, not (eqb (length s) 11)) ∷
    (5, not seen || ltb 0 r.stock) ∷
    (7, not (element_listed (code_in s)) || ltb 1 (unit_in s)) ∷ [])
