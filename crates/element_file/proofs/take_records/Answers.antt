-- Invariant (`Going`): the run from the start is the run from here on, and no more records were refused than bytes were read. Assumes nothing.
use mathlib.Core.Path.{sym, ap, ◌∙◌}
use native.Mathlib.Omega.{arith}
use Rattle.element_table.specs.Take.{taken_of}
use Rattle.records.proofs.RunLaws.{going_begins, going_nearer, going_room, none_stands}
use Rattle.element_file.specs.Yearly.{starting, take_record}
use Rattle.element_file.proofs.RunLaws.{refused_in, going_accepted, going_refused, going_ends}
use Rattle.element_file.proofs.take_records.Goals as goal

pub loop-start-init : goal.loop-start-init
loop-start-init c = let a = c.args in going_begins take_record refused_in (starting a.table) a.bytes.now

pub overflow_add-refused : goal.overflow_add-refused
overflow_add-refused c =
    let g = c.loop-start in
    let a = c.args in
    omega (arith, going_room take_record refused_in (starting a.table) a.bytes.now _ g.at g.invariant (sym c.in-Record.ensures))

pub loop-start-smaller-in-Ok : goal.loop-start-smaller-in-Ok
loop-start-smaller-in-Ok c =
    let g = c.loop-start in
    let a = c.args in
    going_nearer take_record refused_in (starting a.table) a.bytes.now _ g.at g.invariant (sym c.in-Record.ensures)

pub loop-start-preserved-in-Ok : goal.loop-start-preserved-in-Ok
loop-start-preserved-in-Ok c =
    let g = c.loop-start in
    let a = c.args in
    going_accepted a.table a.bytes.now g.table g.refused g.at g.invariant (sym c.in-Record.ensures) c.in-Ok.next (c.in-Ok.ensures ∙ ap (taken_of g.table) c.part.ensures)

pub loop-start-smaller : goal.loop-start-smaller
loop-start-smaller c =
    let g = c.loop-start in
    let a = c.args in
    going_nearer take_record refused_in (starting a.table) a.bytes.now _ g.at g.invariant (sym c.in-Record.ensures)

pub loop-start-preserved : goal.loop-start-preserved
loop-start-preserved c =
    let g = c.loop-start in
    let a = c.args in
    going_refused a.table a.bytes.now g.table g.refused g.at g.invariant (sym c.in-Record.ensures) c.in-Err.field-0 (c.in-Err.ensures ∙ ap (taken_of g.table) c.part.ensures)

pub returns : goal.returns
returns c =
    let a = c.args in
    let g = c.loop-start in
    going_ends a.table a.bytes.now g.table g.refused g.at g.invariant (none_stands a.bytes.now g.at c.place_at.result c.place_at.ensures c.in_default.not-Record)
