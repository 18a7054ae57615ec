-- Invariant: the words written so far, and those of the rows that are left, are all that is to be written. Assumes nothing.
use Prim.Native.Nat.{◌+◌}
use mathlib.Core.Path.{sym, ap, ◌∙◌}
use mathlib.Core.List.{◌++◌}
use lib.ListN.{take, drop}
use native.Mathlib.Omega.{arith}
use Rattle.c_words.specs.Words.{cell_words, cells_in}
use Rattle.c_words.proofs.WordLaws.{row_start, write_more, write_ends}
use borrow.Author.Rules.{rules}
use Rattle.c_words.proofs.write_rows.Goals as goal

pub put_row-requires : goal.put_row-requires
put_row-requires c = omega (arith, c.loop-k.invariant.1)

pub loop-k-preserved : goal.loop-k-preserved
loop-k-preserved c =
    let l = c.loop-k in
    let rs = c.args.rows in (
      search rules,
      c.words-1.given ∙ l.invariant.1,
      l.invariant.2,
      ap (λ ws. take (row_start (l.k + 1)) ws ++ cell_words (cells_in (drop (l.k + 1) rs))) c.put_row.ensures ∙ write_more l.words rs l.k (omega arith) (omega (arith, l.invariant.1)) ∙ l.invariant.3,
    )

pub returns : goal.returns
returns c =
    let l = c.loop-k in
    sym (write_ends l.words c.args.rows l.k (omega arith) (omega arith)) ∙ l.invariant.3
