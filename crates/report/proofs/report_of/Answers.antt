-- An unsound ledger has no text. Of a sound one the head is pushed, and the lines where there is a sheet: together the report, which fits. Assumes nothing.
use Prim.Native.Nat.{ℕ}
use mathlib.Core.Path.{◌≡◌, ap, ◌∙◌, sym}
use mathlib.Core.Bool.{true, false}
use mathlib.Core.List.{List, []}
use Rattle.ledger.specs.Sound.{sound_ledger}
use Rattle.text.specs.declared.Text.{Text}
use Rattle.text.specs.Text.{text_of, pushed_all}
use Rattle.text.proofs.TextLaws.{pushed_all_append}
use Rattle.report.specs.Report.{head_text, lines_text}
use Rattle.report.proofs.ReportLaws.{report_whole, unsound_no_text, lines_with_sheet, head_without_sheet}
use Rattle.report.proofs.report_of.Goals as goal

pub returns-then-not-sound : goal.returns-then-not-sound
returns-then-not-sound c =
    let a = c.args in
    let sound = c.sound in
    let e : sound_ledger a.ledger ≡ false = sym sound.ensures ∙ c.if-not-sound.true in
    sym (unsound_no_text a.ledger a.refused e)

pub returns-then-ledger : goal.returns-then-ledger
returns-then-ledger c =
    let is-sound : sound_ledger c.args.ledger ≡ true = let sound = c.sound in sym sound.ensures ∙ c.if-not-sound.false in
    let head-pushed : c.with_head-head.result ≡ pushed_all (text_of []) (head_text c.args.ledger c.args.refused) = c.with_head-head.ensures ∙ ap (λ (t : Text). pushed_all t (head_text c.args.ledger c.args.refused)) c.empty.ensures in
    let a = c.args in
    let l = a.ledger in
    let head : List ℕ = head_text l a.refused in
    let lines : List ℕ = lines_text l in
    report_whole l a.refused c.with_lines.result
    (c.with_lines.ensures ∙
    ap (λ (t : Text). pushed_all t lines) head-pushed ∙
    sym (pushed_all_append (text_of []) head lines) ∙
    ap (pushed_all (text_of [])) (sym (lines_with_sheet l a.refused c.if-ledger.true)))
    is-sound

pub returns : goal.returns
returns c =
    let is-sound : sound_ledger c.args.ledger ≡ true = let sound = c.sound in sym sound.ensures ∙ c.if-not-sound.false in
    let head-pushed : c.with_head-head.result ≡ pushed_all (text_of []) (head_text c.args.ledger c.args.refused) = c.with_head-head.ensures ∙ ap (λ (t : Text). pushed_all t (head_text c.args.ledger c.args.refused)) c.empty.ensures in
    let a = c.args in
    let l = a.ledger in
    report_whole l a.refused c.with_head-head.result
    (head-pushed ∙ ap (pushed_all (text_of [])) (sym (head_without_sheet l a.refused c.if-ledger.false)))
    is-sound
