use Prim.Native.Nat.{◌-◌, ◌≤◌}
use mathlib.Core.Path.{◌≡◌}
use mathlib.Core.List.{◌++◌}
use lib.ListN.{length, take, drop}
use Rattle.codes.specs.Codes as codes
use Rattle.c_words.specs.Words.{words_first, cells_of, rows_of}
use Rattle.c_words.proofs.WordLaws.{row_start}
use Rattle.c_words.proofs.rows_in.Given as goal

abbrev pub invariant-loop-k : goal.invariant-loop-k
invariant-loop-k l =
    (l.k ≤ codes.rows) × (length l.rows ≡ codes.rows) × (take l.k l.rows ++ rows_of (cells_of (drop (row_start l.k) l.words)) ≡ rows_of (cells_of (drop words_first l.words)))

abbrev pub decreases-loop-k : goal.decreases-loop-k
decreases-loop-k l = codes.rows - l.k
