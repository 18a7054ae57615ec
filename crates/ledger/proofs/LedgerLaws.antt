-- What soundness says of a ledger, part by part, and that a ledger stays sound with a verdict that it has room for. Assumes nothing.
use Prim.Native.Nat.{ℕ, ◌+◌, ◌*◌, ◌<◌, ◌≤◌}
use mathlib.Core.Path.{◌≡◌, refl}
use mathlib.Core.Logic.{◌⊎◌, inl, inr}
use mathlib.Core.Bool.{Bool, true, false, ◌&&◌, ◌||◌, not, false≢true}
use lib.ListN.{get_or, set}
use lib.Dec.{leb}
use native.Mathlib.Nat.{add-zero}
use native.Mathlib.Omega.{arith}
use borrow.Author.Tests.{leb-true, le-leb}
use Rattle.base.specs.Lists.{every}
use Rattle.base.proofs.TestLaws.{and_left, and_right, and_both}
use Rattle.base.proofs.ListLaws.{every_set, every_weaker, every_or_default}
use Rattle.codes.specs.Codes.{levels}
use Rattle.codes.specs.Ranges.{most_events}
use Rattle.annex.specs.Figure.{Figure, Off, Halves, most_of}
use Rattle.fields.specs.declared.Sheet.{Sheet}
use Rattle.fields.specs.Tests.{in_range}
use Rattle.verdict.specs.Verdict.{Verdict}
use Rattle.record.specs.Inside.{Fair}
use Rattle.ledger.specs.declared.Cell.{Cell}
use Rattle.ledger.specs.declared.TypeRow.{TypeRow}
use Rattle.ledger.specs.declared.Ledger.{Ledger}
use Rattle.ledger.specs.Ledger.{no_cell, no_row, held, held_in, grown_row, added}
use Rattle.ledger.specs.Sound.{sheet_sound, cell_within, row_within, sound_ledger}
use Rattle.ledger.specs.Inside.{SpareRow, Small, Fits}
use Rattle.ledger.proofs.CellLaws.{grown_with, row_every}

-- a sheet that is there is in range, and one that is in range is sound whatever the events
in_range_lem : (there range none : Bool) → there ≡ true → (there && range || not there && none) ≡ true → range ≡ true
in_range_lem true true none t e = refl
in_range_lem true false none t e = e
in_range_lem false range none t e = absurd (false≢true t)

ranged_sound : (sheet : Sheet) (events : ℕ) → sheet.there ≡ true → in_range sheet ≡ true → sheet_sound sheet events ≡ true
ranged_sound sheet events t r = rw (t, r)

-- a cell within its bounds
pub within_bound : (events : ℕ) (c : Cell) → cell_within events c ≡ true → (x : Figure) → held x c ≤ events * most_of x
within_bound events c w Off = leb-true _ _ (and_left _ _ w)
within_bound events c w Halves = leb-true _ _ (and_right (leb (held Off c) (events * most_of Off)) _ w)

bound_within : (events : ℕ) (c : Cell) → ((x : Figure) → held x c ≤ events * most_of x) → cell_within events c ≡ true
bound_within events c b = and_both _ _ (le-leb _ _ (b Off)) (le-leb _ _ (b Halves))

no_cell_within : (events : ℕ) → cell_within events no_cell ≡ true
no_cell_within events = bound_within events no_cell bound
  where
    bound : (x : Figure) → held x no_cell ≤ events * most_of x
    bound Off = omega arith
    bound Halves = omega arith

-- what soundness says, part by part
module _ (l : Ledger) (e : sound_ledger l ≡ true) where
  sound_sheet : sheet_sound l.sheet l.events ≡ true
  unfolding sound_ledger
  sound_sheet = and_left _ _ (and_left _ _ (and_left _ _ e))

  pub sound_events : l.events ≤ most_events
  unfolding sound_ledger
  sound_events = leb-true _ _ (and_right (sheet_sound l.sheet l.events) _ (and_left _ _ (and_left _ _ e)))

  pub sound_short : l.short ≤ l.events
  unfolding sound_ledger
  sound_short = leb-true _ _ (and_right (sheet_sound l.sheet l.events && leb l.events most_events) _ (and_left _ _ e))

  sound_rows : every (row_within l.events) l.rows ≡ true
  unfolding sound_ledger
  sound_rows = and_right (sheet_sound l.sheet l.events && leb l.events most_events && leb l.short l.events) _ e

  sound_row : (row : ℕ) → row_within l.events (get_or l.rows row no_row) ≡ true
  sound_row = every_or_default (row_within l.events) no_row l.rows sound_rows refl

  -- every cell is within its bounds
  sound_cell : (row h : ℕ) → cell_within l.events (get_or (get_or l.rows row no_row).levels h no_cell) ≡ true
  sound_cell row = every_or_default (cell_within l.events) no_cell (get_or l.rows row no_row).levels (sound_row row) (no_cell_within l.events)

  pub sound_bound : (x : Figure) (row h : ℕ) → held_in x l row h ≤ l.events * most_of x
  sound_bound x row h = within_bound l.events _ (sound_cell row h) x

  -- each cell has room for one event more
  pub sound_spare : (row : ℕ) → SpareRow (get_or l.rows row no_row).levels
  sound_spare row h Off = omega (arith, sound_bound Off row h, sound_events)
  sound_spare row h Halves = omega (arith, sound_bound Halves row h, sound_events)

  -- a sheet that is there is in range
  pub sound_range : l.sheet.there ≡ true → in_range l.sheet ≡ true
  sound_range t = in_range_lem l.sheet.there (in_range l.sheet) _ t sound_sheet

-- a verdict's figures are those of one event at most
pub fair_small : (sheet : Sheet) (events : ℕ) (v : Verdict) → Fair sheet events v → Small v.figures
fair_small sheet events v fair Off h l = omega (arith, fair.small Off h l, fair.one)
fair_small sheet events v fair Halves h l = omega (arith, fair.small Halves h l, fair.one)

-- what is sound stays sound
module _ (l : Ledger) (v : Verdict) (fits : Fits l v) where
  abbrev after : ℕ
  after = l.events + v.events

  sheet_kept : sheet_sound v.sheet after ≡ true
  sheet_kept = go fits.fair.goes_on
    where
      go :
          ((v.sheet ≡ l.sheet) × ((l.sheet.there ≡ true) ⊎ (v.events ≡ 0))) ⊎
          ((l.sheet.there ≡ false) × (v.sheet.there ≡ true) × (in_range v.sheet ≡ true) × (v.events ≡ 0)) →
          sheet_sound v.sheet after ≡ true
      go (inl (same, inl there)) = rw same (ranged_sound l.sheet after there (sound_range l fits.sound there))
      go (inl (same, inr none)) = rw (same, none, add-zero) (sound_sheet l fits.sound)
      go (inr (none, there, range, still)) = ranged_sound v.sheet after there range

  cell_kept : (c : Cell) → cell_within l.events c ≡ true → cell_within after c ≡ true
  cell_kept c w = bound_within after c bound
    where
      bound : (x : Figure) → held x c ≤ after * most_of x
      bound Off = omega (arith, within_bound l.events c w Off)
      bound Halves = omega (arith, within_bound l.events c w Halves)

  -- a cell of the verdict's row, with its figures
  grown_kept : (h : ℕ) → h < levels → cell_within after (grown_with v.figures (get_or (get_or l.rows v.row no_row).levels h no_cell) h) ≡ true
  grown_kept h b = bound_within after _ bound
    where
      bound : (x : Figure) → held x (grown_with v.figures (get_or (get_or l.rows v.row no_row).levels h no_cell) h) ≤ after * most_of x
      bound Off = omega (arith, sound_bound l fits.sound Off v.row h, fits.fair.small Off h b)
      bound Halves = omega (arith, sound_bound l fits.sound Halves v.row h, fits.fair.small Halves h b)

  row_kept : (r : TypeRow) → row_within l.events r ≡ true → row_within after r ≡ true
  row_kept r = every_weaker (cell_within l.events) (cell_within after) cell_kept r.levels

  rows_kept : every (row_within after) (set l.rows v.row (grown_row (get_or l.rows v.row no_row) v.figures)) ≡ true
  rows_kept =
      every_set (row_within after) l.rows v.row _
      (every_weaker (row_within l.events) (row_within after) row_kept l.rows (sound_rows l fits.sound))
      (row_every (get_or l.rows v.row no_row) v.figures (cell_within after) (row_kept (get_or l.rows v.row no_row) (sound_row l fits.sound v.row)) grown_kept)

  pub sound_kept : sound_ledger (added l v) ≡ true
  unfolding sound_ledger added
  sound_kept =
      let short : l.short + v.short ≤ l.events + v.events = omega (arith, sound_short l fits.sound, fits.fair.short) in
      and_both _ _ (and_both _ _ (and_both _ _ sheet_kept (le-leb _ _ fits.fair.room)) (le-leb _ _ short)) rows_kept
