-- Where the gap is wrong it is told, and elsewhere the item past it is read. Assumes nothing.
use mathlib.Core.Path.{◌≡◌, sym, ap, ◌∙◌}
use mathlib.Core.Bool.{true, false}
use lib.Dec.{eqb}
use borrow.Author.Rules.{rules}
use Rattle.text_items.specs.Sorts.{sort_number}
use Rattle.text_scan.specs.Found.{Found}
use Rattle.text_scan.specs.Outcomes.{wrong_in}
use Rattle.text_scan.proofs.OutcomeLaws.{wrong_answer}
use Rattle.text_parse.specs.Outcomes.{next_in}
use Rattle.text_parse.specs.Entry.{gap_before}
use Rattle.text_parse.proofs.EntryLaws.{cell_right, cell_wrong}
use Rattle.text_parse.proofs.Items.next_cell.Goals as goal

pub returns-in_err-gap_before : goal.returns-in_err-gap_before
returns-in_err-gap_before c =
    let a = c.args in
    let w = c.in_err-gap_before.field-0.0 in
    let said : wrong_in c.in_err-gap_before.field-0.0 ≡ gap_before c.args.s.now (sort_number c.args.self.kind) c.args.k c.args.self.sep = c.in_err-gap_before.ensures in
    let wrong : eqb (gap_before c.args.s.now (sort_number c.args.self.kind) c.args.k c.args.self.sep).answer 0 ≡ false = sym (ap (λ (r : Found). eqb r.answer 0) said) ∙ wrong_answer w in
    let told : next_in c.from_residual.result ≡ wrong_in c.in_err-gap_before.field-0.0 = search rules in
    told ∙ said ∙ sym (cell_wrong a.s.now (sort_number a.self.kind) a.k a.self.year a.self.sep wrong)

pub returns : goal.returns
returns c =
    let a = c.args in
    let right : eqb (gap_before c.args.s.now (sort_number c.args.self.kind) c.args.k c.args.self.sep).answer 0 ≡ true = sym (ap (λ (r : Found). eqb r.answer 0) (c.in_ok-gap_before.ensures)) in
    c.next_field.ensures ∙ sym (cell_right a.s.now (sort_number a.self.kind) a.k a.self.year a.self.sep right)
