-- An unframed record is 2; a framed one is judged by its kind; kinds other than 1, 2 and 3 are 3. Assumes nothing.
use mathlib.Core.Path.{◌≡◌, refl, sym, ap, ◌∙◌}
use mathlib.Core.Bool.{true, false, not}
use borrow.Author.Tests.{eqb-false}
use native.Mathlib.Omega.{arith}
use Rattle.wire.specs.Frame.{framed, kind_of}
use Rattle.verdict.specs.Verdict.{refused_with}
use Rattle.record.specs.Rules.{by_kind}
use Rattle.record.specs.Inside.{verdict_at}
use Rattle.record.specs.Verdict.{record_answer}
use Rattle.record.proofs.JudgeLaws.{unframed_is_2, verdict_refused, verdict_by_kind, refused_by, sheet_alone}
use Rattle.record.proofs.judge.Goals as goal

pub returns-then-not-is_framed : goal.returns-then-not-is_framed
returns-then-not-is_framed c =
    let a = c.args in
    let s = a.bytes.now in
    let e : record_answer s a.sheet a.map.now a.events ≡ 2 =
    unframed_is_2 s a.sheet a.map.now a.events (sym c.is_framed.ensures ∙ c.if-not-is_framed.true) in
    ap (refused_with a.sheet) (sym e) ∙
    sym (verdict_refused s a.sheet a.map.now a.events (λ z. eqb-false 2 0 refl (sym e ∙ z)))

pub returns-in-1 : goal.returns-in-1
returns-in-1 c =
    let a = c.args in
    let s = a.bytes.now in
    let f : framed s ≡ true = sym c.is_framed.ensures ∙ c.if-not-is_framed.false in
    let k : kind_of s ≡ 1 = sym c.kind_of.ensures ∙ c.in-1.is in
    c.judge_sheet.ensures ∙
    sheet_alone s a.sheet a.map.now a.events ∙
    ap (λ n. verdict_at n s a.sheet a.map.now a.events) (sym k) ∙
    sym (verdict_by_kind s a.sheet a.map.now a.events f)

pub returns-in-2 : goal.returns-in-2
returns-in-2 c =
    let a = c.args in
    let s = a.bytes.now in
    let f : framed s ≡ true = sym c.is_framed.ensures ∙ c.if-not-is_framed.false in
    let k : kind_of s ≡ 2 = sym c.kind_of.ensures ∙ c.in-2.is in
    c.judge_simple.ensures ∙
    ap (λ n. verdict_at n s a.sheet a.map.now a.events) (sym k) ∙
    sym (verdict_by_kind s a.sheet a.map.now a.events f)

pub returns-in-3 : goal.returns-in-3
returns-in-3 c =
    let a = c.args in
    let s = a.bytes.now in
    let f : framed s ≡ true = sym c.is_framed.ensures ∙ c.if-not-is_framed.false in
    let k : kind_of s ≡ 3 = sym c.kind_of.ensures ∙ c.in-3.is in
    c.judge_stepped.ensures ∙
    ap (λ n. verdict_at n s a.sheet a.map.now a.events) (sym k) ∙
    sym (verdict_by_kind s a.sheet a.map.now a.events f)

pub returns-in_default : goal.returns-in_default
returns-in_default c =
    let a = c.args in
    let s = a.bytes.now in
    let f : framed s ≡ true = sym c.is_framed.ensures ∙ c.if-not-is_framed.false in
    let none : by_kind (kind_of s) true true true ≡ false =
    grind arith in
    sym (refused_by (kind_of s) s a.sheet a.map.now a.events 3 (ap not none) (eqb-false 3 0 refl)) ∙
    sym (verdict_by_kind s a.sheet a.map.now a.events f)
