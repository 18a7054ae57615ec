-- What a whole line of each sort has, in numbers. Assumes nothing.
use Prim.Native.Nat.{ℕ, zero, suc, ◌+◌, ◌-◌, ◌*◌, ◌/◌, ◌%◌, ◌≤◌}
use mathlib.Core.Path.{◌≡◌, refl, sym, ap, subst, ◌∙◌}
use mathlib.Core.Bool.{Bool, true, false, cond}
use mathlib.Core.List.{List}
use lib.ListN.{length, take}
use lib.Seq.{length-take-le}
use lib.Dec.{T, eqb, ltb, leb}
use native.Mathlib.Omega.{arith}
use borrow.Author.Tests.{eqb-true, eqb-false, ltb-false, leb-true}
use Rattle.base.proofs.TestLaws.{Tested, holds, fails, test}
use Rattle.text_items.specs.Shape.{most_of, whole_of}

-- how many items each sort has at most
pub most_at : (most_of 0 ≡ 0) × (most_of 1 ≡ 4) × (most_of 2 ≡ 15) × (most_of 3 ≡ 261) × (most_of 4 ≡ 32)
unfolding most_of
most_at = (refl, refl, refl, refl, refl)

-- no sort has more than 261
pub most_small : (kind : ℕ) → most_of kind ≤ 261
unfolding most_of
most_small kind = go (test (eqb kind 1)) (test (eqb kind 2)) (test (eqb kind 3)) (test (eqb kind 4))
  where
    go : Tested (eqb kind 1) → Tested (eqb kind 2) → Tested (eqb kind 3) → Tested (eqb kind 4) → most_of kind ≤ 261
    go (holds a) b c d = rw (most_of, a) (omega arith)
    go (fails a) (holds b) c d = rw (most_of, a, b) (omega arith)
    go (fails a) (fails b) (holds c) d = rw (most_of, a, b, c) (omega arith)
    go (fails a) (fails b) (fails c) (holds d) = rw (most_of, a, b, c, d) (omega arith)
    go (fails a) (fails b) (fails c) (fails d) = rw (most_of, a, b, c, d) (omega arith)

-- a test after one that must fail
past : (t b : Bool) → cond t false b ≡ true → (t ≡ false) × (b ≡ true)
past true b e = absurd (subst T (sym e) tt)
past false b e = (refl, e)

-- a sheet and a simple event are whole with as many items as they have at most
pub whole_sheet : (count : ℕ) → whole_of 1 count ≡ true → count ≡ 4
unfolding whole_of most_of
whole_sheet count e = eqb-true count 4 (past (eqb count 0) (eqb count 4) e).1

pub whole_simple : (count : ℕ) → whole_of 2 count ≡ true → count ≡ 15
unfolding whole_of most_of
whole_simple count e = eqb-true count 15 (past (eqb count 0) (eqb count 15) e).1

-- a stepped event has its five items and 1 to 64 times four
pub whole_stepped : (count : ℕ) → whole_of 3 count ≡ true → (9 ≤ count) × (count ≤ 261) × (count ≡ 5 + 4 * ((count - 5) / 4))
unfolding whole_of
whole_stepped count e =
    let few = past (ltb count 9) (cond (ltb 261 count) false (eqb ((count - 5) % 4) 0)) e in
    let many = past (ltb 261 count) (eqb ((count - 5) % 4) 0) few.1 in
    let least : 9 ≤ count = ltb-false count 9 few.0 in
    let fours : (count - 5) % 4 ≡ 0 = eqb-true ((count - 5) % 4) 0 many.1 in
    (least, ltb-false 261 count many.0, omega arith)

pub stepped_least : (count : ℕ) → whole_of 3 count ≡ true → 9 ≤ count
stepped_least count e = (whole_stepped count e).0

-- a line of bytes has 1 to 32 of them
pub whole_bytes : (count : ℕ) → whole_of 4 count ≡ true → (1 ≤ count) × (count ≤ 32)
unfolding whole_of
whole_bytes count e =
    let some = past (eqb count 0) (leb count 32) e in
    (one_or_more count (eqb-false count 0 some.0), leb-true count 32 some.1)
  where
    one_or_more : (n : ℕ) → (n ≡ 0 → ⊥) → 1 ≤ n
    one_or_more zero h = absurd (h refl)
    one_or_more (suc n) h = omega arith

never : (t : Bool) → cond t false t ≡ true → ⊥
never true h = subst T (sym h) tt
never false h = subst T (sym h) tt

-- only the four sorts are ever whole
pub whole_sort : (kind count : ℕ) → whole_of kind count ≡ true → (eqb kind 1 ≡ false) → (eqb kind 2 ≡ false) → (eqb kind 3 ≡ false) → kind ≡ 4
unfolding whole_of most_of
whole_sort kind count e a b c = go (test (eqb kind 4))
  where
    go : Tested (eqb kind 4) → kind ≡ 4
    go (holds d) = eqb-true kind 4 d
    go (fails d) =
        let none : cond (eqb count 0) false (eqb count 0) ≡ true = sym (rw (whole_of, most_of, a, b, c, d) refl) ∙ e in
        absurd (never (eqb count 0) none)

-- a whole line has at most 261 items
pub whole_few : (kind count : ℕ) → whole_of kind count ≡ true → count ≤ 261
unfolding whole_of
whole_few kind count e = go (test (eqb kind 3)) (test (eqb kind 4))
  where
    go : Tested (eqb kind 3) → Tested (eqb kind 4) → count ≤ 261
    go (holds a) b = (whole_stepped count (ap (λ (n : ℕ). whole_of n count) (sym (eqb-true kind 3 a)) ∙ e)).1
    go (fails a) (holds b) = omega (arith, (whole_bytes count (ap (λ (n : ℕ). whole_of n count) (sym (eqb-true kind 4 b)) ∙ e)).1)
    go (fails a) (fails b) =
        let other : cond (eqb count 0) false (eqb count (most_of kind)) ≡ true = sym (rw (whole_of, a, b) refl) ∙ e in
        let most : count ≡ most_of kind = eqb-true count (most_of kind) (past (eqb count 0) (eqb count (most_of kind)) other).1 in
        omega (arith, most_small kind)

-- the items of a whole line among an entry's numbers are as many as it has
pub whole_items : (kind count : ℕ) (vs : List ℕ) → length vs ≡ 261 → whole_of kind count ≡ true → whole_of kind (length (take count vs)) ≡ true
whole_items kind count vs all e =
    let few : count ≤ 261 = whole_few kind count e in
    ap (whole_of kind) (length-take-le count vs (omega arith)) ∙ e
