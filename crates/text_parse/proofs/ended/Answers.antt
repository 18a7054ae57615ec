-- The test is that of `ended_by` at the line's end; no entry is 261 zeros. Assumes nothing.
use mathlib.Core.Path.{refl, sym, ap, ◌∙◌}
use Rattle.text_items.specs.Sorts.{sort_number}
use Rattle.text_scan.specs.Outcomes.{expected_number}
use Rattle.text_scan.specs.declared.Wrong.{Wrong}
use Rattle.text_parse.specs.Entry.{refused_at}
use Rattle.text_parse.proofs.EntryLaws.{ended_few, ended_whole}
use Rattle.text_parse.proofs.ended.Goals as goal

pub returns-then-not-is_whole : goal.returns-then-not-is_whole
returns-then-not-is_whole c =
    let a = c.args in
    let few = ended_few 255 a.end (sort_number a.kind) a.count a.values refl (sym c.is_whole.ensures ∙ c.if-not-is_whole.true) in
    ap (λ (w : Wrong). refused_at (expected_number w.expected) w.at) c.at.ensures ∙ sym few

pub returns : goal.returns
returns c =
    let a = c.args in
    sym (ended_whole 255 a.end (sort_number a.kind) a.count a.values refl (sym c.is_whole.ensures ∙ c.if-not-is_whole.false))
