-- Invariant (`Going`): the run from the start is the run from here on; the ledger is sound, so what an accepted record adds fits it.
-- Assumes nothing.
use borrow.Author.Rules.{rules}
use Prim.Native.Nat.{ℕ, ◌+◌}
use mathlib.Core.Path.{◌≡◌, sym, ap, ◌∙◌, subst₂}
use mathlib.Core.List.{List}
use lib.ListN.{set}
use native.Mathlib.Omega.{arith}
use Rattle.wire.specs.Book.{part_of}
use Rattle.verdict.specs.Judged.{judged, accepted_verdict}
use Rattle.record.specs.Verdict.{verdict_of}
use Rattle.ledger.specs.Ledger.{added}
use Rattle.ledger.specs.Inside.{Fits}
use Rattle.ledger.proofs.LedgerLaws.{sound_spare, sound_short, fair_small}
use Rattle.records.proofs.RunLaws.{going_nearer, going_room, none_stands}
use Rattle.std.specs.Prelude.{Ok}
use Rattle.book.specs.Book.{starting, take_record}
use Rattle.book.proofs.RunLaws.{Going, refused_in, going_begins, accepted_fits, going_accepted, going_refused, going_ends}
use Rattle.book.proofs.take_records.Goals as goal
use Rattle.book.proofs.take_records.Goals.{In-Ok}

-- what an accepted record adds, and that it fits the ledger
abbrev Here : In-Ok → Type 0
Here c =
    let g = c.loop-start in
    judged g.ledger.sheet (Ok c.in-Ok.accepted) ≡ verdict_of (part_of c.args.book.now c.in-Record.start c.in-Record.end) g.ledger.sheet g.map g.ledger.events

judged_here : (c : In-Ok) → Here c
judged_here c = let g = c.loop-start in c.in-Ok.ensures ∙ ap (λ (s : List ℕ). verdict_of s g.ledger.sheet g.map g.ledger.events) c.part.ensures

fits_here : (c : In-Ok) → Fits c.loop-start.ledger (accepted_verdict c.in-Ok.accepted)
fits_here c =
    let a = c.args in
    let g = c.loop-start in
    accepted_fits a.ledger a.map.now a.book.now g.ledger g.map g.refused g.at g.invariant (sym c.in-Record.ensures) c.in-Ok.accepted (judged_here c)

pub loop-start-init : goal.loop-start-init
loop-start-init c = let a = c.args in going_begins a.ledger a.map.now a.book.now c.requires.0 c.requires.1 (search rules)

pub bounds-ledger-row : goal.bounds-ledger-row
bounds-ledger-row c = let f = fits_here (goal.at.bounds-ledger-row c).In-Ok in omega (arith, f.fair.row)

pub grown-requires : goal.grown-requires
grown-requires c =
    let g = c.loop-start in
    let f = fits_here (goal.at.grown-requires c).In-Ok in
    (sound_spare g.ledger f.sound c.in-Ok.accepted.row, fair_small _ _ _ f.fair)

pub overflow_add-ledger : goal.overflow_add-ledger
overflow_add-ledger c = let f = fits_here (goal.at.overflow_add-ledger c).In-Ok in omega (arith, f.fair.room)

pub overflow_add-ledger-in-Ok : goal.overflow_add-ledger-in-Ok
overflow_add-ledger-in-Ok c =
    let f = fits_here (goal.at.overflow_add-ledger-in-Ok c).In-Ok in
    omega (arith, f.fair.room, f.fair.short, sound_short _ f.sound)

pub overflow_add-refused : goal.overflow_add-refused
overflow_add-refused c =
    let a = c.args in
    let g = c.loop-start in
    omega (arith, going_room take_record refused_in (starting a.ledger a.map.now) a.book.now _ g.at g.invariant.on (sym c.in-Record.ensures))

pub loop-start-smaller-in-Ok : goal.loop-start-smaller-in-Ok
loop-start-smaller-in-Ok c =
    let a = c.args in
    let g = c.loop-start in
    going_nearer take_record refused_in (starting a.ledger a.map.now) a.book.now _ g.at g.invariant.on (sym c.in-Record.ensures)

pub loop-start-smaller : goal.loop-start-smaller
loop-start-smaller c =
    let a = c.args in
    let g = c.loop-start in
    going_nearer take_record refused_in (starting a.ledger a.map.now) a.book.now _ g.at g.invariant.on (sym c.in-Record.ensures)

pub loop-start-preserved-in-Ok : goal.loop-start-preserved-in-Ok
unfolding added
loop-start-preserved-in-Ok c =
    let a = c.args in
    let g = c.loop-start in
    let v = c.in-Ok.accepted in
    subst₂ (λ l m. Going a.ledger a.map.now a.book.now l m g.refused c.in-Record.end)
    (λ i. record { sheet = v.sheet; events = g.ledger.events + v.events; short = g.ledger.short + v.short; rows = set g.ledger.rows v.row (sym c.grown.ensures i) })
    (sym c.mark.ensures)
    (going_accepted a.ledger a.map.now a.book.now g.ledger g.map g.refused g.at g.invariant (sym c.in-Record.ensures) v (judged_here (goal.at.loop-start-preserved-in-Ok c).In-Ok))

pub loop-start-preserved : goal.loop-start-preserved
loop-start-preserved c =
    let a = c.args in
    let g = c.loop-start in
    going_refused a.ledger a.map.now a.book.now g.ledger g.map g.refused g.at g.invariant (sym c.in-Record.ensures) c.in-Err.field-0
    (c.in-Err.ensures ∙ ap (λ (s : List ℕ). verdict_of s g.ledger.sheet g.map g.ledger.events) c.part.ensures)

pub shape_of-map : goal.shape_of-map
shape_of-map c = c.loop-start.invariant.size ∙ sym c.requires.1

pub returns : goal.returns
returns c =
    let a = c.args in
    let g = c.loop-start in
    going_ends a.ledger a.map.now a.book.now g.ledger g.map g.refused g.at g.invariant (none_stands a.book.now g.at c.place_at.result c.place_at.ensures c.in_default.not-Record)
