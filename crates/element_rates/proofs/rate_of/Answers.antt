-- Each test of the code is the definition's, so that each return is one of the four ways; a known code has a row, and a sound table's outages and
-- period are small enough for the products. Assumes nothing.
use Rattle.std.specs.Prelude.{Ok}
use mathlib.Core.Path.{◌≡◌, sym, ap, ◌∙◌}
use mathlib.Core.Bool.{true, ◌||◌}
use lib.Dec.{eqb}
use Prim.Native.Nat.{◌*◌, ◌<◌}
use native.Mathlib.Omega.{arith}
use Rattle.ratio.specs.Lowest.{lowest_of}
use Rattle.element_codes.specs.Elements.{element_listed}
use Rattle.element_codes.proofs.CodeLaws.{listed_row}
use Rattle.element_table.specs.Table.{row_or, sound_table}
use Rattle.element_rates.specs.Rates.{row_at, weight_of}
use Rattle.element_rates.proofs.FigureLaws.{unsound_refused, unknown_refused, rate_by0, rate_refused, rate_answered}
use Rattle.element_rates.proofs.rate_of.Goals as goal

pub returns-then-not-sound : goal.returns-then-not-sound
returns-then-not-sound c =
    let a = c.args in
    sym (unsound_refused a.table a.code (sym c.sound.ensures ∙ c.if-not-sound.true)).0

pub returns-then-not-is_element : goal.returns-then-not-is_element
returns-then-not-is_element c =
    let sound : sound_table c.args.table ≡ true = sym c.sound.ensures ∙ c.if-not-sound.false in
    let a = c.args in
    sym (unknown_refused a.table a.code sound (sym c.is_element.ensures ∙ c.if-not-is_element.true)).0

pub offset_bounds-table-row_of : goal.offset_bounds-table-row_of
offset_bounds-table-row_of c =
    let known : element_listed c.args.code ≡ true = sym c.is_element.ensures ∙ c.if-not-is_element.false in
    let has-row : c.row_of.result < 62 = rw c.row_of.ensures (listed_row c.args.code known) in
    let l = has-row in omega arith

pub bounds-table-row_of : goal.bounds-table-row_of
bounds-table-row_of c =
    let known : element_listed c.args.code ≡ true = sym c.is_element.ensures ∙ c.if-not-is_element.false in
    let has-row : c.row_of.result < 62 = rw c.row_of.ensures (listed_row c.args.code known) in
    has-row

pub returns-then-row : goal.returns-then-row
returns-then-row c =
    let sound : sound_table c.args.table ≡ true = sym c.sound.ensures ∙ c.if-not-sound.false in
    let known : element_listed c.args.code ≡ true = sym c.is_element.ensures ∙ c.if-not-is_element.false in
    let read : let a = c.args in row_or a.table.rows c.row_of.result ≡ row_at a.table a.code = ap (row_or c.args.table.rows) c.row_of.ensures in
    let tested : let a = c.args in
    (eqb (row_or a.table.rows c.row_of.result).stock 0 || eqb (row_or a.table.rows c.row_of.result).amount 0) ≡ rate_by0 a.table a.code = λ i. eqb (read i).stock 0 || eqb (read i).amount 0 in
    let a = c.args in
    sym
    (rate_refused a.table a.code sound known
    (sym tested ∙ c.if-row.true))

pub returns : goal.returns
returns c =
    let sound : sound_table c.args.table ≡ true = sym c.sound.ensures ∙ c.if-not-sound.false in
    let known : element_listed c.args.code ≡ true = sym c.is_element.ensures ∙ c.if-not-is_element.false in
    let read : let a = c.args in row_or a.table.rows c.row_of.result ≡ row_at a.table a.code = ap (row_or c.args.table.rows) c.row_of.ensures in
    let tested : let a = c.args in
    (eqb (row_or a.table.rows c.row_of.result).stock 0 || eqb (row_or a.table.rows c.row_of.result).amount 0) ≡ rate_by0 a.table a.code = λ i. eqb (read i).stock 0 || eqb (read i).amount 0 in
    let a = c.args in
    (λ i. Ok (c.lowest.ensures i)) ∙
    (λ i. Ok (lowest_of (c.weight.ensures.0 i * (row_or a.table.rows c.row_of.result).outages) ((row_or a.table.rows c.row_of.result).amount * a.table.period))) ∙
    (λ i. Ok (lowest_of (weight_of (read i).stock * (read i).outages) ((read i).amount * a.table.period))) ∙
    sym
    (rate_answered a.table a.code sound known
    (sym tested ∙ c.if-row.false))
