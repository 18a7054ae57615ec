-- A book's ledger is sound, and a sound ledger that serves anybody has a sheet. Assumes nothing.
use Prim.Native.Nat.{ℕ}
use mathlib.Core.Path.{◌≡◌}
use mathlib.Core.List.{List}
use mathlib.Core.Bool.{Bool, true, false, ◌&&◌, ◌||◌, not, true≢false}
use lib.ListN.{get_or}
use lib.Dec.{eqb}
use native.Mathlib.Omega.{arith}
use borrow.Author.Tests.{eqb-true}
use Rattle.base.proofs.TestLaws.{Tested, holds, fails, test, and_left, and_right}
use Rattle.wire.specs.Cut.{records_of}
use Rattle.fields.specs.Tests.{in_range}
use Rattle.ledger.specs.declared.Ledger.{Ledger}
use Rattle.ledger.specs.Ledger.{empty_ledger}
use Rattle.ledger.specs.Sound.{sound_ledger}
use Rattle.ledger.proofs.SoundLaws.{empty_sound}
use Rattle.book.specs.Book.{starting}
use Rattle.book.proofs.SoundLaws.{sound_run}
use Rattle.law_sums.specs.Accepted.{zero_map}
use Rattle.law_sums.specs.Theorem.{book_ledger}
use Rattle.index.specs.declared.Level.{Level}
use Rattle.index.specs.declared.Level.TheVariants.{NN, VN, VVN, Network}
use Rattle.index.specs.Sums.{customers_of}

-- whatever its records, refused ones too
pub book_sound : (book : List ℕ) → sound_ledger (book_ledger book) ≡ true
book_sound book = sound_run (starting empty_ledger zero_map) (records_of book) empty_sound

-- what is asked of the fields where there is no sheet
unsheeted : (there ranged zeros : Bool) → ((there && ranged) || (not there && zeros)) ≡ true → there ≡ false → zeros ≡ true
unsheeted true ranged zeros e none = absurd (true≢false none)
unsheeted false ranged zeros e none = e

module _ (l : Ledger) (sound : sound_ledger l ≡ true) where
  -- without a sheet the totals are zero
  sheetless_totals :
      l.sheet.there ≡ false →
      (get_or l.sheet.totals 0 0 ≡ 0) × (get_or l.sheet.totals 1 0 ≡ 0) × (get_or l.sheet.totals 2 0 ≡ 0)
  unfolding sound_ledger
  sheetless_totals none =
      let zeros = unsheeted l.sheet.there (in_range l.sheet) _ (and_left _ _ (and_left _ _ (and_left _ _ sound))) none in
      let upto2 = and_left _ _ zeros in
      let upto1 = and_left _ _ upto2 in (
        eqb-true _ _ (and_right (eqb l.sheet.year 0) _ (and_left _ _ upto1)),
        eqb-true _ _ (and_right (eqb l.sheet.year 0 && eqb (get_or l.sheet.totals 0 0) 0) _ upto1),
        eqb-true _ _ (and_right (eqb l.sheet.year 0 && eqb (get_or l.sheet.totals 0 0) 0 && eqb (get_or l.sheet.totals 1 0) 0) _ upto2),
      )

  -- where a level, or the network, has customers, there is a sheet
  pub served_by_sheet : (level : Level) → (customers_of l.sheet.totals level ≡ 0 → ⊥) → l.sheet.there ≡ true
  served_by_sheet level somebody = go (test l.sheet.there)
    where
      nobody : (level : Level) → l.sheet.there ≡ false → customers_of l.sheet.totals level ≡ 0
      nobody NN none = (sheetless_totals none).0
      nobody VN none = (sheetless_totals none).1
      nobody VVN none = (sheetless_totals none).2
      nobody Network none = let z = sheetless_totals none in omega (arith, z.0, z.1, z.2)

      go : Tested l.sheet.there → l.sheet.there ≡ true
      go (holds t) = t
      go (fails none) = absurd (somebody (nobody level none))
