-- At each turn the items read are those passed and those of what is left of the line, with as many turns as there are places left. Assumes nothing.
use Prim.Native.Nat.{ℕ, suc, ◌+◌, ◌-◌}
use mathlib.Core.Path.{◌≡◌, sym, ap, ◌∙◌}
use lib.ListN.{drop, length}
use native.Mathlib.Omega.{arith}
use borrow.Author.Rules.{rules}
use Rattle.std.specs.Prelude.{Ok}
use Rattle.text_items.specs.Sorts.{sort_number}
use Rattle.text_scan.specs.Scan.{read, said_at}
use Rattle.text_parse.specs.declared.Next.{Next}
use Rattle.text_parse.specs.Outcomes.{next_in, placed}
use Rattle.text_parse.specs.Entry.{next_cell, values_from, items_read}
use Rattle.text_parse.proofs.EntryLaws.{read_none, read_wrong, read_end, read_item}
use Rattle.text_parse.proofs.Items.items_read.Goals as goal

pub loop-read-init : goal.loop-read-init
unfolding items_read
loop-read-init c = (search rules, omega arith)

pub returns-in-Err : goal.returns-in-Err
returns-in-Err c =
    let a = c.args in
    let l = c.loop-read in
    let kind = sort_number a.self.kind in
    let fuel : 261 - l.read ≡ suc (261 - (l.read + 1)) = omega (arith, c.loop-read-test.true) in
    let goes = l.invariant.1 ∙ ap (λ (n : ℕ). l.read + length (values_from n (drop l.at a.line.now) kind l.read a.self.year a.self.sep)) fuel in
    sym (goes ∙ read_wrong a.line.now l.at kind l.read a.self.year a.self.sep (261 - (l.read + 1)) c.in-Err.field-0 c.in-Err.ensures)

pub returns-in_default : goal.returns-in_default
returns-in_default c =
    let a = c.args in
    let l = c.loop-read in
    let kind = sort_number a.self.kind in
    let fuel : 261 - l.read ≡ suc (261 - (l.read + 1)) = omega (arith, c.loop-read-test.true) in
    let goes = l.invariant.1 ∙ ap (λ (n : ℕ). l.read + length (values_from n (drop l.at a.line.now) kind l.read a.self.year a.self.sep)) fuel in
    let told : said_at 255 c.in_default.field-0 ≡ placed c.loop-read.at (next_cell (drop c.loop-read.at c.args.line.now) (sort_number c.args.self.kind) c.loop-read.read c.args.self.year c.args.self.sep) = ap (λ (n : Next). next_in (Ok n)) (sym c.in_default.is) ∙ c.in-Ok.ensures in
    sym (goes ∙ read_end a.line.now l.at kind l.read a.self.year a.self.sep (261 - (l.read + 1)) c.in_default.field-0 told)

pub loop-read-preserved : goal.loop-read-preserved
loop-read-preserved c =
    let a = c.args in
    let l = c.loop-read in
    let kind = sort_number a.self.kind in
    let fuel : 261 - l.read ≡ suc (261 - (l.read + 1)) = omega (arith, c.loop-read-test.true) in
    let goes = l.invariant.1 ∙ ap (λ (n : ℕ). l.read + length (values_from n (drop l.at a.line.now) kind l.read a.self.year a.self.sep)) fuel in
    let told : read c.in-Item.found.value c.in-Item.found.used ≡ placed c.loop-read.at (next_cell (drop c.loop-read.at c.args.line.now) (sort_number c.args.self.kind) c.loop-read.read c.args.self.year c.args.self.sep) = ap (λ (n : Next). next_in (Ok n)) (sym c.in-Item.is) ∙ c.in-Ok.ensures in
    (search rules, goes ∙ read_item a.line.now l.at kind l.read a.self.year a.self.sep (261 - (l.read + 1)) c.in-Item.found.value c.in-Item.found.used told)

pub returns : goal.returns
returns c =
    let a = c.args in
    let l = c.loop-read in
    let kind = sort_number a.self.kind in
    let all : l.read ≡ 261 = omega (arith, c.loop-read-test.false, l.invariant.0) in
    let none = (λ i. all i + length (values_from (261 - all i) (drop l.at a.line.now) kind (all i) a.self.year a.self.sep)) ∙ read_none a.line.now l.at kind 261 a.self.year a.self.sep in
    sym (l.invariant.1 ∙ none)
