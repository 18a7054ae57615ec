-- "A ledger is sound if: without a sheet all is zero; a sheet is in range; events are at most 65,535; short ones at most events; every cell at
-- most events times 10,000,000 customers and events times 12,000,000,000,000 half minutes" (01, "Refusal numbers").
use Rattle.std.specs.Prelude.{ℕ, ◌*◌, Bool, ◌&&◌, ◌||◌, not, get_or, leb, eqb}
use Rattle.base.specs.Lists.{every}
use Rattle.codes.specs.Ranges.{most_events}
use Rattle.annex.specs.Figure.{Off, Halves, most_of}
use Rattle.fields.specs.declared.Sheet.{Sheet}
use Rattle.fields.specs.Tests.{in_range}
use Rattle.ledger.specs.declared.Cell.{Cell}
use Rattle.ledger.specs.declared.TypeRow.{TypeRow}
use Rattle.ledger.specs.declared.Ledger.{Ledger}
use Rattle.ledger.specs.Ledger.{held}

-- without a sheet year, totals and events are zero; short events and cells are so by their bounds
abbrev pub sheet_sound : Sheet → ℕ → Bool
sheet_sound sheet events =
    (sheet.there && in_range sheet) ||
    (not sheet.there &&
    (eqb sheet.year 0 &&
    eqb (get_or sheet.totals 0 0) 0 &&
    eqb (get_or sheet.totals 1 0) 0 &&
    eqb (get_or sheet.totals 2 0) 0 &&
    eqb events 0))

abbrev pub cell_within : ℕ → Cell → Bool
cell_within events c = leb (held Off c) (events * most_of Off) && leb (held Halves c) (events * most_of Halves)

abbrev pub row_within : ℕ → TypeRow → Bool
row_within events r = every (cell_within events) r.levels

unfoldable pub sound_ledger : Ledger → Bool
sound_ledger l =
    sheet_sound l.sheet l.events &&
    leb l.events most_events &&
    leb l.short l.events &&
    every (row_within l.events) l.rows
