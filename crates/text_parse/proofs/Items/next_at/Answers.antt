-- What comes next lies within what is left of the line, so its place is below 2 ^ 64. Assumes nothing.
use mathlib.Core.Path.{sym, ap, ◌∙◌}
use native.Mathlib.Omega.{arith}
use Rattle.text_items.specs.Sorts.{sort_number}
use Rattle.text_scan.specs.Found.{Found}
use Rattle.std.specs.Prelude.{Ok}
use Rattle.text_parse.specs.declared.Next.{Next}
use Rattle.text_parse.specs.Outcomes.{next_in}
use Rattle.text_parse.proofs.EntryLaws.{cell_short, rest_fits}
use Rattle.text_parse.proofs.Items.next_at.Goals as goal

pub overflow_add-result : goal.overflow_add-result
overflow_add-result c =
    let a = c.args in
    let used = ap (λ (n : Next). (next_in (Ok n)).used) (sym c.in-Ok-Item.field-0-is) ∙ ap (λ (f : Found). f.used) c.in-Ok-Item.ensures in
    omega (arith, cell_short c.part.result.now (sort_number a.self.kind) a.k a.self.year a.self.sep, used, rest_fits a.line.now a.at c.part.result.now c.part.ensures, c.ranges.at.fits)

pub overflow_add-result-in-Ok-End : goal.overflow_add-result-in-Ok-End
overflow_add-result-in-Ok-End c =
    let a = c.args in
    let used = ap (λ (n : Next). (next_in (Ok n)).used) (sym c.in-Ok-End.field-0-is) ∙ ap (λ (f : Found). f.used) c.in-Ok-End.ensures in
    omega (arith, cell_short c.part.result.now (sort_number a.self.kind) a.k a.self.year a.self.sep, used, rest_fits a.line.now a.at c.part.result.now c.part.ensures, c.ranges.at.fits)

pub overflow_add-at : goal.overflow_add-at
overflow_add-at c =
    let a = c.args in
    let used = ap (λ (f : Found). f.used) (c.in-Err.ensures) in
    omega (arith, cell_short c.part.result.now (sort_number a.self.kind) a.k a.self.year a.self.sep, used, rest_fits a.line.now a.at c.part.result.now c.part.ensures, c.ranges.at.fits)
