use Prim.Native.Nat.{◌-◌, ◌≤◌}
use mathlib.Core.Path.{◌≡◌}
use mathlib.Core.List.{◌++◌}
use lib.ListN.{length, take, drop}
use Rattle.codes.specs.Codes as codes
use Rattle.c_words.specs.Words.{words_first, ledger_words, cell_words, cells_in}
use Rattle.c_words.proofs.WordLaws.{row_start}
use Rattle.c_words.proofs.write_rows.Given as goal

abbrev pub invariant-loop-k : goal.invariant-loop-k
invariant-loop-k l =
    (l.k ≤ codes.rows) × (length l.words ≡ ledger_words) × (length l.rows ≡ codes.rows) ×
    (take (row_start l.k) l.words ++ cell_words (cells_in (drop l.k l.rows)) ≡ take words_first l.initial.words ++ cell_words (cells_in l.rows))

abbrev pub decreases-loop-k : goal.decreases-loop-k
decreases-loop-k l = codes.rows - l.k
