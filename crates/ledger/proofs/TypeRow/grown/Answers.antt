-- A level's cell is as it was lent until it is grown, so that it has room. Assumes nothing.
use Prim.Native.Nat.{suc, ◌+◌}
use mathlib.Core.Path.{◌≡◌, sym, ap, ◌∙◌, subst⁻¹}
use lib.ListN.{get_or, set}
use native.Mathlib.Omega.{arith}
use Rattle.annex.specs.Figure.{Off, Halves}
use Rattle.ledger.specs.Ledger.{no_cell, grown_at}
use Rattle.ledger.specs.Inside.{Spare}
use Rattle.ledger.proofs.CellLaws.{grown_below, below_untouched}
use Rattle.ledger.proofs.TypeRow.grown.Goals as goal

pub grown-requires : goal.grown-requires
grown-requires c =
    let h = c.loop-level.level in
    let cells = c.args.self.levels in
    let lent : get_or c.loop-level.self.levels h no_cell ≡ get_or cells h no_cell =
    ap (λ l. get_or l h no_cell) c.loop-level.invariant ∙ below_untouched h h c.args.figures cells (omega arith) in
    (subst⁻¹ Spare lent (c.requires.0 h), c.requires.1 Off h c.loop-level-test.true, c.requires.1 Halves h c.loop-level-test.true)

pub loop-level-preserved : goal.loop-level-preserved
loop-level-preserved c =
    let h = c.loop-level.level in
    let f = c.args.figures in
    let more : h + 1 ≡ suc h = omega arith in
    ap (set c.loop-level.self.levels h) c.grown.ensures ∙
    ap (grown_at h f) c.loop-level.invariant ∙
    ap (λ n. grown_below n f c.args.self.levels) (sym more)

pub returns : goal.returns
returns c =
    let all : c.loop-level.level ≡ 3 = omega arith in
    let cells = c.loop-level.invariant ∙ ap (λ n. grown_below n c.args.figures c.args.self.levels) all in
    λ i. record { levels = cells i }
