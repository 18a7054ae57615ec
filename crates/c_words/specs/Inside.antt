-- What the functions between an exported call and the call behind it do.
use Rattle.std.specs.Prelude.{ℕ, ◌+◌, List, [], ◌∷◌, ◌&&◌, cond, length, get_or, set, replicate, eqb, Result, Ok, Err}
use Rattle.refusals.specs.declared.Refusal.{Refusal}
use Rattle.refusals.specs.Refusals.{number_of}
use Rattle.codes.specs.Codes.{rows}
use Rattle.fields.specs.Fields.{no_sheet}
use Rattle.ledger.specs.declared.Ledger.{Ledger}
use Rattle.ledger.specs.Take.{Taken}
use Rattle.annex.specs.Figures.{customers, half_minutes}
use Rattle.ledger.specs.declared.Cell.{Cell}
use Rattle.ledger.specs.declared.TypeRow.{TypeRow}
use Rattle.ledger.specs.Ledger.{no_cell, empty_row}
use Rattle.c_words.specs.Words.{ledger_words, words_fit, ledger_in, words_of}
use Rattle.c_words.specs.Header.{header_word, headed, if_accepted}

-- a ledger that every call refuses with 1: a short event, and no event
abbrev pub no_ledger : Ledger
no_ledger = record { sheet = no_sheet; events = 0; short = 1; rows = replicate rows empty_row }

-- the ledger that is handed on
unfoldable pub lent_ledger : ℕ → List ℕ → Ledger
lent_ledger header ws = cond (eqb header header_word && words_fit ws) (ledger_in ws) no_ledger

-- words with a ledger written over them
unfoldable pub written : List ℕ → Ledger → List ℕ
written ws l = cond (eqb (length ws) ledger_words) (words_of l) ws

unfoldable pub settled : ℕ → List ℕ → Taken → List ℕ
settled header ws t = if_accepted (headed header t.answer) (written ws t.ledger) ws

-- what the call behind answers, as a number and a ledger; where it refuses, its ledger is not written
abbrev pub handed : Result Ledger Refusal → Taken
handed (Ok l) = record { answer = 0; ledger = l }
handed (Err r) = record { answer = number_of r; ledger = no_ledger }

-- the words for an output; where a call refuses, there are none
abbrev pub words_in : Result (List ℕ) Refusal → List ℕ
words_in (Ok ws) = ws
words_in (Err r) = []

-- two words stored, and six: a cell, and the cells of a row
abbrev pub put_cell : List ℕ → ℕ → Cell → List ℕ
put_cell ws at c = set (set ws at c.customers.0) (at + 1) c.halves.0

abbrev pub put_row : List ℕ → ℕ → List Cell → List ℕ
put_row ws at cs = put_cell (put_cell (put_cell ws at (get_or cs 0 no_cell)) (at + 2) (get_or cs 1 no_cell)) (at + 4) (get_or cs 2 no_cell)

-- the cell of two words, and the row of six
abbrev pub cell_at : List ℕ → ℕ → Cell
cell_at ws at = record { customers = customers (get_or ws at 0); halves = half_minutes (get_or ws (at + 1) 0) }

abbrev pub row_at : List ℕ → ℕ → TypeRow
row_at ws at = record { levels = cell_at ws at ∷ cell_at ws (at + 2) ∷ cell_at ws (at + 4) ∷ [] }
