-- What the bounds of a row say, in numbers. Assumes nothing.
use Prim.Native.Nat.{◌*◌}
use mathlib.Core.Path.{◌≡◌, ap, ◌∙◌}
use mathlib.Core.Logic.{◌↔◌}
use mathlib.Core.List.{[], ◌∷◌}
use mathlib.Core.Bool.{Bool, true, ◌&&◌, ◌||◌, or-true}
use lib.Dec.{leb, ltb, eqb}
use native.Mathlib.Omega.{arith}
use borrow.Author.Tests.{leb-true, le-leb, le-ltb, ltb-false, eqb-true, eq-eqb}
use Rattle.base.proofs.TestLaws.{Tested, holds, fails, test, and_both, or_other}
use Rattle.base.proofs.ChainLaws.{each_holds}
use Rattle.element_row.specs.declared.Row.{Row}
use Rattle.element_row.specs.Row.{row_within, RowSound, longest, most_outages}

-- the test of a row passes exactly where the row is within each of its bounds
pub row_exactly : (r : Row) → (row_within r ≡ true) ↔ RowSound r
row_exactly r = (there, back)
  where
    told : Bool
    told = ltb 0 r.stock || eqb r.amount 0

    nothing : told ≡ true → r.stock ≡ 0 → r.amount ≡ 0
    nothing e none = eqb-true r.amount 0 (or_other (ltb 0 r.stock) _ (le-ltb 0 r.stock (omega arith)) e)

    there : row_within r ≡ true → RowSound r
    there e =
        let k = each_holds (leb r.outages most_outages) (leb r.minutes (r.outages * longest) ∷ leb r.stock 2 ∷ told ∷ []) e in
        record {
          outages = leb-true _ _ k.0;
          minutes = leb-true _ _ k.1.0;
          stock = leb-true _ _ k.1.1.0;
          amount = nothing k.1.1.1.0;
        }

    tells : Tested (ltb 0 r.stock) → (r.stock ≡ 0 → r.amount ≡ 0) → told ≡ true
    tells (holds e) none = ap (λ b. b || eqb r.amount 0) e
    tells (fails e) none =
        let z : r.stock ≡ 0 = omega (arith, ltb-false 0 r.stock e) in
        ap (λ b. ltb 0 r.stock || b) (eq-eqb r.amount 0 (none z)) ∙ or-true (ltb 0 r.stock)

    back : RowSound r → row_within r ≡ true
    back s =
        and_both (leb r.outages most_outages && leb r.minutes (r.outages * longest) && leb r.stock 2) told
        (and_both (leb r.outages most_outages && leb r.minutes (r.outages * longest)) (leb r.stock 2)
        (and_both (leb r.outages most_outages) (leb r.minutes (r.outages * longest)) (le-leb _ _ s.outages) (le-leb _ _ s.minutes))
        (le-leb _ _ s.stock))
        (tells (test (ltb 0 r.stock)) s.amount)
