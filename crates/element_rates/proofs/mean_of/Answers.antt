-- Each test of the code is the definition's, so that each return is one of the four ways; a known code has a row, and 60 times its outages is small
-- enough. Assumes nothing.
use Rattle.std.specs.Prelude.{Ok}
use mathlib.Core.Path.{◌≡◌, sym, ap, ◌∙◌}
use mathlib.Core.Bool.{true}
use Prim.Native.Nat.{◌*◌, ◌<◌}
use native.Mathlib.Omega.{arith}
use borrow.Author.Tests.{eq-eqb, ne_eqb}
use Rattle.ratio.specs.Lowest.{lowest_of}
use Rattle.element_codes.specs.Elements.{element_listed}
use Rattle.element_codes.proofs.CodeLaws.{listed_row}
use Rattle.element_row.specs.declared.Row.{Row}
use Rattle.element_table.specs.Table.{row_or, sound_table}
use Rattle.element_rates.specs.Rates.{row_at}
use Rattle.element_rates.proofs.FigureLaws.{unsound_refused, unknown_refused, mean_refused, mean_answered}
use Rattle.element_rates.proofs.mean_of.Goals as goal

pub returns-then-not-sound : goal.returns-then-not-sound
returns-then-not-sound c =
    let a = c.args in
    sym (unsound_refused a.table a.code (sym c.sound.ensures ∙ c.if-not-sound.true)).1

pub returns-then-not-is_element : goal.returns-then-not-is_element
returns-then-not-is_element c =
    let sound : sound_table c.args.table ≡ true = sym c.sound.ensures ∙ c.if-not-sound.false in
    let a = c.args in
    sym (unknown_refused a.table a.code sound (sym c.is_element.ensures ∙ c.if-not-is_element.true)).1

pub offset_bounds-table-row_of : goal.offset_bounds-table-row_of
offset_bounds-table-row_of c =
    let known : element_listed c.args.code ≡ true = sym c.is_element.ensures ∙ c.if-not-is_element.false in
    let has-row : c.row_of.result < 62 = rw c.row_of.ensures (listed_row c.args.code known) in
    let l = has-row in omega arith

pub bounds-table-row_of : goal.bounds-table-row_of
bounds-table-row_of c =
    let known : element_listed c.args.code ≡ true = sym c.is_element.ensures ∙ c.if-not-is_element.false in
    let has-row : c.row_of.result < 62 = rw c.row_of.ensures (listed_row c.args.code known) in
    has-row

pub returns-then-row-eq0 : goal.returns-then-row-eq0
returns-then-row-eq0 c =
    let sound : sound_table c.args.table ≡ true = sym c.sound.ensures ∙ c.if-not-sound.false in
    let known : element_listed c.args.code ≡ true = sym c.is_element.ensures ∙ c.if-not-is_element.false in
    let read : let a = c.args in row_or a.table.rows c.row_of.result ≡ row_at a.table a.code = ap (row_or c.args.table.rows) c.row_of.ensures in
    let a = c.args in
    sym
    (mean_refused a.table a.code sound known
    (eq-eqb (row_at a.table a.code).outages 0 (sym (ap (λ (x : Row). x.outages) read) ∙ c.if-row-eq0.true)))

pub returns : goal.returns
returns c =
    let sound : sound_table c.args.table ≡ true = sym c.sound.ensures ∙ c.if-not-sound.false in
    let known : element_listed c.args.code ≡ true = sym c.is_element.ensures ∙ c.if-not-is_element.false in
    let read : let a = c.args in row_or a.table.rows c.row_of.result ≡ row_at a.table a.code = ap (row_or c.args.table.rows) c.row_of.ensures in
    let a = c.args in
    (λ i. Ok (c.lowest.ensures i)) ∙
    (λ i. Ok (lowest_of (read i).minutes (60 * (read i).outages))) ∙
    sym
    (mean_answered a.table a.code sound known
    (ne_eqb (row_at a.table a.code).outages 0 (λ e. c.if-row-eq0.false (ap (λ (x : Row). x.outages) read ∙ e))))
