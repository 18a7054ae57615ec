-- Inner vocabulary: what adding asks of a row and a ledger.
use Rattle.std.specs.Prelude.{ℕ, ◌*◌, ◌<◌, ◌≤◌, ◌≡◌, true, List, get_or}
use Rattle.codes.specs.Codes.{levels}
use Rattle.codes.specs.Ranges.{most_events}
use Rattle.annex.specs.declared.Figures.{Figures}
use Rattle.annex.specs.Figure.{Figure, figure_at, most_of}
use Rattle.verdict.specs.Verdict.{Verdict}
use Rattle.record.specs.Inside.{Fair}
use Rattle.ledger.specs.declared.Cell.{Cell}
use Rattle.ledger.specs.declared.Ledger.{Ledger}
use Rattle.ledger.specs.Ledger.{no_cell, held}
use Rattle.ledger.specs.Sound.{sound_ledger}

-- a cell, and a row, with room for one event more
abbrev pub Spare : Cell → Type 0
Spare c = (x : Figure) → held x c ≤ most_events * most_of x

abbrev pub SpareRow : List Cell → Type 0
SpareRow cells = (h : ℕ) → Spare (get_or cells h no_cell)

-- figures that one event may add
abbrev pub Small : Figures → Type 0
Small f = (x : Figure) (h : ℕ) → h < levels → figure_at x f h ≤ most_of x

-- a verdict that a sound ledger has room for
pub record Fits (l : Ledger) (v : Verdict) : Type 0 where
  pub sound : sound_ledger l ≡ true
  pub fair : Fair l.sheet l.events v
