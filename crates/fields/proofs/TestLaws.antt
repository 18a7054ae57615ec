-- What passing a test of a sheet or a head says of its numbers: level totals and codes within their ranges. Assumes nothing.
use Prim.Native.Nat.{◌<◌}
use mathlib.Core.Path.{◌≡◌}
use mathlib.Core.List.{[], ◌∷◌}
use mathlib.Core.Bool.{true, not}
use lib.ListN.{get_or}
use lib.Dec.{leb, ltb, eqb}
use borrow.Author.Tests.{ltb-true, leb-true, eqb-false, not-true}
use Rattle.base.specs.Lists.{All}
use Rattle.base.proofs.ChainLaws.{each_holds}
use Rattle.codes.specs.Codes.{row_of, level_of, cause_listed, rows, levels}
use Rattle.codes.specs.Ranges.{most_customers}
use Rattle.annex.specs.Inside.{Few}
use Rattle.fields.specs.declared.Sheet.{Sheet}
use Rattle.fields.specs.declared.Head.{Head}
use Rattle.fields.specs.Tests.{in_range, head_listed}

-- a sheet in range has at most 10,000,000 customers on each level
pub range_few : (sheet : Sheet) → in_range sheet ≡ true → Few most_customers sheet.totals
range_few sheet e =
    let k =
    each_holds
    (leb 2000 sheet.year)
    (leb sheet.year 2099 ∷ leb (get_or sheet.totals 0 0) most_customers ∷ leb (get_or sheet.totals 1 0) most_customers
    ∷ leb (get_or sheet.totals 2 0) most_customers ∷ [])
    e in
    record { nn = leb-true _ _ k.1.1.0; vn = leb-true _ _ k.1.1.1.0; vvn = leb-true _ _ k.1.1.1.1.0 }

-- the four tests of a head
tests_of :
    (h : Head) →
    head_listed h ≡ true →
    All (λ b. b ≡ true) (not (eqb h.number 0) ∷ ltb (row_of h.typ) rows ∷ ltb (level_of h.voltage) levels ∷ cause_listed h.cause ∷ [])
tests_of h =
    each_holds (not (eqb h.number 0)) (ltb (row_of h.typ) rows ∷ ltb (level_of h.voltage) levels ∷ cause_listed h.cause ∷ [])

-- of a head that is listed the number is not 0, the type has a row and the voltage a level
pub listed_number : (h : Head) → head_listed h ≡ true → h.number ≡ 0 → ⊥
listed_number h e = eqb-false _ _ (not-true _ (tests_of h e).0)

pub listed_row : (h : Head) → head_listed h ≡ true → row_of h.typ < rows
listed_row h e = ltb-true _ _ (tests_of h e).1.0

pub listed_level : (h : Head) → head_listed h ≡ true → level_of h.voltage < levels
listed_level h e = ltb-true _ _ (tests_of h e).1.1.0
