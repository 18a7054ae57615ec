-- A ledger lent as words of 64 bits, in the order of `temelyak_ledger` in include/temelyak.h: the flag, the year, three totals, the events, the short
-- events, then row by row two words for each cell.
use Rattle.std.specs.Prelude.{ℕ, ◌+◌, ◌*◌, ◌≤◌, ◌≡◌, List, [], ◌∷◌, ◌++◌, Bool, ◌&&◌, cond, length, get_or, drop, leb, eqb}
use Rattle.codes.specs.Codes.{rows, levels}
use Rattle.annex.specs.Figures.{customers, half_minutes}
use Rattle.ledger.specs.declared.Cell.{Cell}
use Rattle.ledger.specs.declared.TypeRow.{TypeRow}
use Rattle.ledger.specs.declared.Ledger.{Ledger}
use Rattle.ledger.specs.Ledger.{no_cell, Shaped}

-- how many words stand before the rows, how many a row has, and how many a ledger has: TEMELYAK_LEDGER_WORDS
abbrev pub words_first : ℕ
words_first = 7

abbrev pub row_words : ℕ
row_words = levels * 2

abbrev pub ledger_words : ℕ
ledger_words = words_first + rows * row_words

abbrev pub word : List ℕ → ℕ → ℕ
word ws i = get_or ws i 0

-- there are as many, the flag is 0 or 1, and each word fits what it holds; a cell's words always do
unfoldable pub words_fit : List ℕ → Bool
words_fit ws =
    eqb (length ws) ledger_words &&
    leb (word ws 0) 1 &&
    leb (word ws 1) 65535 &&
    leb (word ws 2) 4294967295 &&
    leb (word ws 3) 4294967295 &&
    leb (word ws 4) 4294967295 &&
    leb (word ws 5) 65535 &&
    leb (word ws 6) 65535

-- the same as facts
pub record Fit (ws : List ℕ) : Type 0 where
  pub size : length ws ≡ ledger_words
  pub flag : word ws 0 ≤ 1
  pub year : word ws 1 ≤ 65535
  pub nn : word ws 2 ≤ 4294967295
  pub vn : word ws 3 ≤ 4294967295
  pub vvn : word ws 4 ≤ 4294967295
  pub events : word ws 5 ≤ 65535
  pub short : word ws 6 ≤ 65535

-- two words for each cell
abbrev pub cells_of : List ℕ → List Cell
cells_of [] = []
cells_of (n ∷ []) = []
cells_of (n ∷ h ∷ ws) = record { customers = customers n; halves = half_minutes h } ∷ cells_of ws

abbrev pub cell_words : List Cell → List ℕ
cell_words [] = []
cell_words (c ∷ cs) = c.customers.0 ∷ c.halves.0 ∷ cell_words cs

-- three cells for each row
abbrev pub rows_of : List Cell → List TypeRow
rows_of [] = []
rows_of (a ∷ []) = []
rows_of (a ∷ b ∷ []) = []
rows_of (a ∷ b ∷ c ∷ cs) = record { levels = a ∷ b ∷ c ∷ [] } ∷ rows_of cs

abbrev pub cells_in : List TypeRow → List Cell
cells_in [] = []
cells_in (r ∷ rs) = get_or r.levels 0 no_cell ∷ get_or r.levels 1 no_cell ∷ get_or r.levels 2 no_cell ∷ cells_in rs

-- the ledger that words hold
unfoldable pub ledger_in : List ℕ → Ledger
ledger_in ws =
    record {
      sheet = record { there = eqb (word ws 0) 1; year = word ws 1; totals = word ws 2 ∷ word ws 3 ∷ word ws 4 ∷ [] };
      events = word ws 5;
      short = word ws 6;
      rows = rows_of (cells_of (drop words_first ws));
    }

-- the words that hold a ledger
abbrev pub flag_of : Bool → ℕ
flag_of t = cond t 1 0

abbrev pub words_before : Ledger → List ℕ
words_before l =
    flag_of l.sheet.there ∷
    l.sheet.year ∷
    get_or l.sheet.totals 0 0 ∷
    get_or l.sheet.totals 1 0 ∷
    get_or l.sheet.totals 2 0 ∷
    l.events ∷
    l.short ∷ []

unfoldable pub words_of : Ledger → List ℕ
words_of l = words_before l ++ cell_words (cells_in l.rows)

-- a ledger whose numbers fit the words, with all its totals, rows and levels
pub record Fitting (l : Ledger) : Type 0 where
  pub year : l.sheet.year ≤ 65535
  pub totals : length l.sheet.totals ≡ levels
  pub nn : get_or l.sheet.totals 0 0 ≤ 4294967295
  pub vn : get_or l.sheet.totals 1 0 ≤ 4294967295
  pub vvn : get_or l.sheet.totals 2 0 ≤ 4294967295
  pub events : l.events ≤ 65535
  pub short : l.short ≤ 65535
  pub shaped : Shaped l
