-- The rules of a sheet in order: each return names the rule that is foremost, and the last that none applies. Assumes nothing.
use mathlib.Core.Path.{◌≡◌, refl, sym, ap, ◌∙◌}
use mathlib.Core.Bool.{true, false, not}
use mathlib.Core.List.{[]}
use borrow.Author.Tests.{eq-eqb, ne_eqb, eqb-false}
use Rattle.fields.specs.Fields.{sheet_in}
use Rattle.fields.specs.Tests.{in_range}
use Rattle.record.proofs.JudgeLaws.{refused_by, accepted_by}
use Rattle.record.proofs.judge_sheet.Goals as goal

pub returns-then-bytes-ne18 : goal.returns-then-bytes-ne18
returns-then-bytes-ne18 c =
    let a = c.args in
    sym (refused_by 1 a.bytes.now a.sheet [] 0 4 (refl, ap not (ne_eqb _ _ c.if-bytes-ne18.true)) (eqb-false 4 0 refl))

pub returns-then-sheet : goal.returns-then-sheet
returns-then-sheet c =
    let a = c.args in
    sym (refused_by 1 a.bytes.now a.sheet [] 0 5 (refl, (ap not (eq-eqb _ _ c.if-bytes-ne18.false), c.if-sheet.true)) (eqb-false 5 0 refl))

pub returns-then-not-in_range : goal.returns-then-not-in_range
returns-then-not-in_range c =
    let a = c.args in
    let out : not (in_range (sheet_in a.bytes.now)) ≡ true =
    ap (λ x. not (in_range x)) (sym c.sheet_of-next.ensures) ∙ ap not (sym c.in_range.ensures) ∙ (ap not c.if-not-in_range.true) in
    sym (refused_by 1 a.bytes.now a.sheet [] 0 6 (refl, (ap not (eq-eqb _ _ c.if-bytes-ne18.false), (c.if-sheet.false, out))) (eqb-false 6 0 refl))

pub returns : goal.returns
returns c =
    let a = c.args in
    let within : not (in_range (sheet_in a.bytes.now)) ≡ false =
    ap (λ x. not (in_range x)) (sym c.sheet_of-next.ensures) ∙ ap not (sym c.in_range.ensures) ∙ (ap not c.if-not-in_range.false) in
    (λ i. record { answer = 0; sheet = c.sheet_of-next.ensures i; number = 0; events = 0; short = 0; row = 0; figures = c.none.ensures i }) ∙
    sym
    (accepted_by 1 a.bytes.now a.sheet [] 0
    (refl, (ap not (eq-eqb _ _ c.if-bytes-ne18.false), (c.if-sheet.false, (within, (refl, (refl, (refl, (refl, (refl, (refl, (refl, tt))))))))))))
