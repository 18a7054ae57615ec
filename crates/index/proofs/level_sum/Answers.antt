-- Invariant: `sum` is the sum over the rows below `row`. Assumes nothing.
use mathlib.Core.Path.{◌≡◌, ap, ◌∙◌}
use native.Mathlib.Omega.{arith}
use Rattle.codes.specs.Codes as codes
use Rattle.index.specs.Sums.{sum_to, cell_at, held_or, held_cell, level_sum}
use Rattle.index.proofs.SumLaws.{within_fit, sum_within, one_within, held_spare}
use Rattle.index.proofs.level_sum.Goals as goal

pub plus-sum-requires : goal.plus-sum-requires
plus-sum-requires c =
    let added-here : let a = c.args in
    c.held_or.result ≡ held_cell a.rows a.level a.set c.loop-row.row = let a = c.args in
    c.held_or.ensures ∙ (λ i. held_or (c.holds_row-held.ensures i) (cell_at a.rows a.level c.loop-row.row)) in
    let a = c.args in
    let l = c.loop-row in
    let spare = held_spare a.rows c.requires.1 a.level a.set in
    rw (l.invariant, added-here)
    (within_fit l.row 1 _ _ (sum_within (held_cell a.rows a.level a.set) spare l.row) (one_within _ (spare l.row)) (omega arith))

pub returns : goal.returns
unfolding level_sum
returns c =
    let a = c.args in
    let l = c.loop-row in
    let last : l.row ≡ codes.rows = omega arith in
    l.invariant ∙ ap (sum_to (held_cell a.rows a.level a.set)) last
