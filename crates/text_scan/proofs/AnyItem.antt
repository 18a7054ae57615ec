-- A number that names no sort of item is read as what it is taken for. Assumes nothing.
use Rattle.std.specs.Prelude.{ℕ, List, ◌≡◌, false, eqb}
use mathlib.Core.Path.{refl}
use Rattle.base.proofs.TestLaws.{Tested, holds, fails, test}
use Rattle.text_items.specs.Sorts.{item_number, item_named}
use Rattle.text_scan.specs.Scan.{item_found}

pub item_found_any : (s : List ℕ) (n year : ℕ) → item_found s (item_number (item_named n)) year ≡ item_found s n year
unfolding item_found
item_found_any s n year = one (test (eqb n 1))
  where
    four : eqb n 1 ≡ false → eqb n 2 ≡ false → eqb n 4 ≡ false → Tested (eqb n 5) → item_found s (item_number (item_named n)) year ≡ item_found s n year
    four a b c (holds d) = rw a (rw b (rw c (rw d refl)))
    four a b c (fails d) = rw a (rw b (rw c (rw d refl)))

    three : eqb n 1 ≡ false → eqb n 2 ≡ false → Tested (eqb n 4) → item_found s (item_number (item_named n)) year ≡ item_found s n year
    three a b (holds c) = rw a (rw b (rw c refl))
    three a b (fails c) = four a b c (test (eqb n 5))

    two : eqb n 1 ≡ false → Tested (eqb n 2) → item_found s (item_number (item_named n)) year ≡ item_found s n year
    two a (holds b) = rw a (rw b refl)
    two a (fails b) = three a b (test (eqb n 4))

    one : Tested (eqb n 1) → item_found s (item_number (item_named n)) year ≡ item_found s n year
    one (holds a) = rw a refl
    one (fails a) = two a (test (eqb n 2))
