-- Invariant: the rows read so far, and those that the words from there on hold, are all that the words hold. Assumes nothing.
use Prim.Native.Nat.{◌+◌}
use mathlib.Core.Path.{sym, ap, ◌∙◌}
use mathlib.Core.List.{◌++◌}
use lib.ListN.{set, take, drop, length-set}
use native.Mathlib.Omega.{arith}
use Rattle.c_words.specs.Words.{cells_of, rows_of}
use Rattle.c_words.proofs.WordLaws.{row_start, read_more, read_ends}
use borrow.Author.Rules.{rules}
use Rattle.c_words.proofs.rows_in.Goals as goal

pub row_at-requires : goal.row_at-requires
row_at-requires c = omega (arith, c.requires)

pub loop-k-preserved : goal.loop-k-preserved
loop-k-preserved c =
    let ws = c.args.words.now in
    let l = c.loop-k in
    (search rules, length-set l.rows l.k _ ∙ l.invariant.1, ap (λ r. take (l.k + 1) (set l.rows l.k r) ++ rows_of (cells_of (drop (row_start (l.k + 1)) ws))) c.row_at.ensures ∙ read_more ws l.rows l.k (omega arith) (omega (arith, c.requires)) ∙ l.invariant.2)

pub returns : goal.returns
returns c =
    let l = c.loop-k in
    sym (read_ends c.args.words.now l.rows l.k (omega arith) (omega (arith, c.requires))) ∙ l.invariant.2
