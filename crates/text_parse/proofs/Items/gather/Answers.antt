-- At each turn the outcome is that of the items read so far and of what is left of the line, with as many turns as there are places left; none is left after the last. Assumes nothing.
use Prim.Native.Nat.{ℕ, suc, ◌+◌, ◌-◌}
use mathlib.Core.Path.{◌≡◌, sym, ap, ◌∙◌}
use lib.ListN.{drop}
use native.Mathlib.Omega.{arith}
use borrow.Author.Rules.{rules}
use Rattle.std.specs.Prelude.{Ok}
use Rattle.text_items.specs.Sorts.{sort_number}
use Rattle.text_scan.specs.Scan.{read, said_at}
use Rattle.text_parse.specs.declared.Next.{Next}
use Rattle.text_parse.specs.Outcomes.{next_in, placed}
use Rattle.text_parse.specs.Entry.{next_cell, gathered}
use Rattle.text_parse.proofs.EntryLaws.{going_on, going_starts, gather_item, stops_wrong, stops_end, item_room}
use Rattle.text_parse.proofs.Items.gather.Goals as goal

pub loop-k-init : goal.loop-k-init
loop-k-init c =
    let a = c.args in
    (search rules, going_starts a.line.now a.start (sort_number a.self.kind) a.self.year a.self.sep)

pub returns-in_err-found : goal.returns-in_err-found
returns-in_err-found c =
    let a = c.args in
    let l = c.loop-k in
    let kind = sort_number a.self.kind in
    let whole = gathered a.line.now a.start kind a.self.year a.self.sep in
    stops_wrong a.line.now l.at kind l.k a.self.year a.self.sep l.values whole c.from_residual.result (261 - l.k) l.invariant.1 c.in_err-found.field-0.0 (search rules) c.in_err-found.ensures

pub loop-k-preserved : goal.loop-k-preserved
loop-k-preserved c =
    let a = c.args in
    let l = c.loop-k in
    let kind = sort_number a.self.kind in
    let fuel : 261 - l.k ≡ suc (261 - (l.k + 1)) = omega (arith, c.if-k-lt261.true) in
    let goes = l.invariant.1 ∙ ap (λ (n : ℕ). going_on n a.line.now l.at kind l.k a.self.year a.self.sep l.values) fuel in
    let whole = gathered a.line.now a.start kind a.self.year a.self.sep in
    let told : read c.in-Item.found.value c.in-Item.found.used ≡ placed c.loop-k.at (next_cell (drop c.loop-k.at c.args.line.now) (sort_number c.args.self.kind) c.loop-k.k c.args.self.year c.args.self.sep) = ap (λ (n : Next). next_in (Ok n)) (sym c.in-Item.is) ∙ c.in_ok-found.ensures in
    (search rules, gather_item a.line.now l.at kind l.k a.self.year a.self.sep l.values whole (261 - (l.k + 1)) c.in-Item.found.value c.in-Item.found.used goes told)

pub returns-in-Item-2 : goal.returns-in-Item-2
returns-in-Item-2 c =
    let a = c.args in
    let l = c.loop-k in
    let kind = sort_number a.self.kind in
    let told : read c.in-Item-2.found.value c.in-Item-2.found.used ≡ placed c.loop-k.at (next_cell (drop c.loop-k.at c.args.line.now) (sort_number c.args.self.kind) c.loop-k.k c.args.self.year c.args.self.sep) = ap (λ (n : Next). next_in (Ok n)) (sym c.in-Item-2.is) ∙ c.in_ok-found.ensures in
    let room = item_room a.line.now l.at kind l.k a.self.year a.self.sep c.in-Item-2.found.value c.in-Item-2.found.used told in
    absurd (omega (arith, room, c.if-k-lt261.false))

pub returns-in-End : goal.returns-in-End
returns-in-End c =
    let a = c.args in
    let l = c.loop-k in
    let kind = sort_number a.self.kind in
    let whole = gathered a.line.now a.start kind a.self.year a.self.sep in
    let told : said_at 255 c.in-End.end ≡ placed c.loop-k.at (next_cell (drop c.loop-k.at c.args.line.now) (sort_number c.args.self.kind) c.loop-k.k c.args.self.year c.args.self.sep) = ap (λ (n : Next). next_in (Ok n)) (sym c.in-End.is) ∙ c.in_ok-found.ensures in
    stops_end a.line.now l.at kind l.k a.self.year a.self.sep l.values whole c.ended.result (261 - l.k) l.invariant.1 c.in-End.end told c.ended.ensures

pub returns : goal.returns
returns c =
    let l = c.loop-k in
    absurd (omega (arith, c.loop-k-test.false, l.invariant.0))
