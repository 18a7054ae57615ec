-- What was tested so far, and what is left, make the whole test. Assumes nothing.
use mathlib.Core.Path.{sym, ◌∙◌}
use Prim.Native.Nat.{◌+◌}
use mathlib.Core.Bool.{◌&&◌}
use lib.ListN.{drop}
use Rattle.base.specs.Lists.{every}
use Rattle.base.proofs.ListLaws.{every_more, every_ends}
use Rattle.ledger.specs.Ledger.{no_row}
use Rattle.ledger.specs.Sound.{row_within}
use borrow.Author.Rules.{rules}
use Rattle.ledger.proofs.rows_within.Goals as goal

pub loop-row-preserved : goal.loop-row-preserved
loop-row-preserved c =
    let a = c.args in
    let l = c.loop-row in
    l.invariant ∙
    every_more (row_within a.events) no_row l.row-index l.ok a.rows (search rules) ∙
    (λ j. l.ok && sym c.within-ok.ensures j && every (row_within a.events) (drop (l.row-index + 1) a.rows))

pub returns : goal.returns
returns c =
    let a = c.args in
    let l = c.loop-row in
    sym (l.invariant ∙ every_ends (row_within a.events) l.row-index l.ok a.rows (search rules))
