-- A line more for each level, and the lines of a set more for each set, pushed after those before. Assumes nothing.
use mathlib.Core.Path.{◌≡◌, refl, ap, ◌∙◌}
use mathlib.Core.List.{[], ◌∷◌}
use lib.ListN.{get_or}
use native.Mathlib.Omega.{arith}
use Rattle.codes.specs.declared.Set.{Set}
use Rattle.codes.specs.declared.Set.TheVariants.{All, Std}
use Rattle.index.specs.declared.Level.{Level}
use Rattle.index.specs.declared.Level.TheVariants.{NN}
use Rattle.text.specs.Text.{pushed_all}
use Rattle.report.specs.Report.{line_text}
use Rattle.report.proofs.ReportLaws.{one_more, each_level, level_lines, set_lines, both_sets}
use Rattle.report.proofs.with_lines.Goals as goal

pub loop-set-init : goal.loop-set-init
loop-set-init c = refl

pub loop-level-init : goal.loop-level-init
loop-level-init c = refl

pub loop-level-preserved : goal.loop-level-preserved
loop-level-preserved c =
    let set = get_or (All ∷ Std ∷ []) c.loop-set.set-index All in
    one_more (λ (level : Level). line_text c.args.ledger level set) c.loop-set.lines c.loop-level.lines c.with_line-lines.result _
    c.loop-level.level-index NN (omega arith) c.loop-level.invariant c.with_line-lines.ensures

pub loop-set-preserved : goal.loop-set-preserved
loop-set-preserved c =
    let l = c.args.ledger in
    let set = get_or (All ∷ Std ∷ []) c.loop-set.set-index All in
    let all : c.loop-level.level-index ≡ 4 = omega arith in
    let lines : c.loop-level.lines ≡ pushed_all c.loop-set.lines (level_lines l set each_level) =
    rw all at c.loop-level.invariant in
    one_more (λ (s : Set). level_lines l s each_level) c.args.t c.loop-set.lines c.loop-level.lines (All ∷ Std ∷ [])
    c.loop-set.set-index All (omega arith) c.loop-set.invariant lines

pub returns : goal.returns
returns c =
    let both : c.loop-set.set-index ≡ 2 = omega arith in
    let lines : c.loop-set.lines ≡ pushed_all c.args.t (set_lines c.args.ledger (All ∷ Std ∷ [])) = rw both at c.loop-set.invariant in
    lines ∙ ap (pushed_all c.args.t) (both_sets c.args.ledger)
