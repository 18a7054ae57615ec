-- An unsound table and an unknown code have no text. Otherwise the code has a row, and the parts of the line are pushed in their order. Assumes nothing.
use Prim.Native.Nat.{ℕ, ◌<◌}
use Rattle.std.specs.Prelude.{Ok}
use mathlib.Core.Path.{◌≡◌, sym, ap, ◌∙◌}
use mathlib.Core.Bool.{true}
use native.Mathlib.Omega.{arith}
use Rattle.element_codes.specs.Elements.{element_listed}
use Rattle.element_codes.proofs.CodeLaws.{listed_row}
use Rattle.element_table.specs.Table.{row_or, sound_table}
use Rattle.element_rates.specs.Rates.{row_at, rate_of, mean_of, shown_rate, shown_mean}
use Rattle.text.specs.declared.Text.{Text}
use Rattle.text.specs.Text.{pushed_all, number_text}
use Rattle.element_line.specs.Listing.{figure_text, per_text, told}
use Rattle.element_line.proofs.LineLaws.{unsound_no_line, unknown_no_line, known_line, parts_pushed}
use Rattle.element_line.proofs.line_of.Goals as goal

pub returns-then-not-sound : goal.returns-then-not-sound
returns-then-not-sound c =
    let a = c.args in
    sym (unsound_no_line a.table a.code a.name.now (sym c.sound.ensures ∙ c.if-not-sound.true))

pub returns-then-not-is_element : goal.returns-then-not-is_element
returns-then-not-is_element c =
    let sound : sound_table c.args.table ≡ true = sym c.sound.ensures ∙ c.if-not-sound.false in
    let a = c.args in
    sym
    (unknown_no_line a.table a.code a.name.now sound
    (sym c.is_element.ensures ∙ c.if-not-is_element.true))

pub offset_bounds-table-row_of : goal.offset_bounds-table-row_of
offset_bounds-table-row_of c =
    let known : element_listed c.args.code ≡ true = sym c.is_element.ensures ∙ c.if-not-is_element.false in
    let has-row : c.row_of.result < 62 = rw c.row_of.ensures (listed_row c.args.code known) in
    let l = has-row in omega arith

pub bounds-table-row_of : goal.bounds-table-row_of
bounds-table-row_of c =
    let known : element_listed c.args.code ≡ true = sym c.is_element.ensures ∙ c.if-not-is_element.false in
    let has-row : c.row_of.result < 62 = rw c.row_of.ensures (listed_row c.args.code known) in
    has-row

pub returns : goal.returns
returns c =
    let sound : sound_table c.args.table ≡ true = sym c.sound.ensures ∙ c.if-not-sound.false in
    let known : element_listed c.args.code ≡ true = sym c.is_element.ensures ∙ c.if-not-is_element.false in
    let a = c.args in
    ap (λ (t : Text). told (Ok t))
    (parts_pushed (number_text a.code) a.name.now (number_text (row_at a.table a.code).outages) (per_text (row_at a.table a.code).stock)
    (figure_text (rate_of a.table a.code) (shown_rate a.table a.code 6))
    (figure_text (mean_of a.table a.code) (shown_mean a.table a.code 6))
    (c.with_number.ensures ∙ ap (λ (t : Text). pushed_all t (number_text a.code)) c.empty.ensures)
    c.with_byte-a.ensures
    c.with_words.ensures
    c.with_byte.ensures
    (c.with_number-2.ensures ∙ ap (λ (at : ℕ). pushed_all c.with_byte.result (number_text (row_or a.table.rows at).outages)) c.row_of.ensures)
    c.with_byte-b.ensures
    (c.with_per.ensures ∙ ap (λ (at : ℕ). pushed_all c.with_byte-b.result (per_text (row_or a.table.rows at).stock)) c.row_of.ensures)
    (c.with_figure-c.ensures ∙ (λ i. pushed_all c.with_per.result (figure_text (c.rate_of.ensures i) (c.shown_rate.ensures i))))
    (c.with_figure-d.ensures ∙ (λ i. pushed_all c.with_figure-c.result (figure_text (c.mean_of.ensures i) (c.shown_mean.ensures i))))
    c.with_byte-2.ensures) ∙
    sym (known_line a.table a.code a.name.now sound known)
