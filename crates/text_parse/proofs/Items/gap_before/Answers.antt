-- Where the line has a separator the gap is what stands in front, and what follows it says whether an item is due. Assumes nothing.
use Prim.Native.Nat.{ℕ}
use mathlib.Core.Path.{◌≡◌, sym, ap, ◌∙◌}
use mathlib.Core.List.{List}
use lib.ListN.{take, drop}
use borrow.Author.Tests.{ne_eqb, eq-eqb}
use Rattle.text_items.specs.Sorts.{sort_number}
use Rattle.text_scan.specs.Scan.{gaps_in, gap_said}
use Rattle.text_scan.proofs.ScanLaws.{part_is_rest, part_is_front}
use Rattle.text_parse.specs.Entry.{item_due}
use Rattle.text_parse.proofs.EntryLaws.{gap_plain, gap_cells}
use Rattle.text_parse.proofs.Items.gap_before.Goals as goal

pub returns-then-self-eq0 : goal.returns-then-self-eq0
returns-then-self-eq0 c =
    let a = c.args in
    sym (gap_plain a.s.now (sort_number a.self.kind) a.k a.self.sep (eq-eqb a.self.sep 0 c.if-self-eq0.true))

pub returns : goal.returns
returns c =
    let a = c.args in
    let kind = sort_number a.self.kind in
    let g = c.gaps_in-skipped in
    let due : c.item_due-due.result ≡ item_due (drop (gaps_in c.args.s.now) c.args.s.now) (sort_number c.args.self.kind) c.args.k =
    c.item_due-due.ensures ∙
    ap (λ (s : List ℕ). item_due s kind a.k) (c.part.ensures ∙ part_is_rest a.s.now g.result ∙ ap (λ (n : ℕ). drop n a.s.now) g.ensures) in
    let gap : c.part-2.result.now ≡ take (gaps_in c.args.s.now) c.args.s.now =
    c.part-2.ensures ∙ part_is_front a.s.now g.result ∙ ap (λ (n : ℕ). take n a.s.now) g.ensures in
    c.gap_said.ensures ∙ (λ i. gap_said (gap i) a.self.sep (due i)) ∙
    sym (gap_cells a.s.now kind a.k a.self.sep (ne_eqb a.self.sep 0 c.if-self-eq0.false))
