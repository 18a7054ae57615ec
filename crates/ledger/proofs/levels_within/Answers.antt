-- What was tested so far, and what is left, make the whole test. Assumes nothing.
use mathlib.Core.Path.{sym, ◌∙◌}
use Prim.Native.Nat.{◌+◌}
use mathlib.Core.Bool.{◌&&◌}
use lib.ListN.{drop}
use Rattle.base.specs.Lists.{every}
use Rattle.base.proofs.ListLaws.{every_more, every_ends}
use Rattle.ledger.specs.Ledger.{no_cell}
use Rattle.ledger.specs.Sound.{cell_within}
use borrow.Author.Rules.{rules}
use Rattle.ledger.proofs.levels_within.Goals as goal

pub loop-cell-preserved : goal.loop-cell-preserved
loop-cell-preserved c =
    let a = c.args in
    let l = c.loop-cell in
    l.invariant ∙
    every_more (cell_within a.events) no_cell l.cell-index l.ok a.levels (search rules) ∙
    (λ j. l.ok && sym c.within-ok.ensures j && every (cell_within a.events) (drop (l.cell-index + 1) a.levels))

pub returns : goal.returns
returns c =
    let a = c.args in
    let l = c.loop-cell in
    sym (l.invariant ∙ every_ends (cell_within a.events) l.cell-index l.ok a.levels (search rules))
