-- A record of another length is 4. Else its steps are walked, the answer is that of the rules, and an event to which none applies adds the figures that its
-- steps fold to. Assumes nothing.
use mathlib.Core.Path.{◌≡◌, refl, sym, ap, ◌∙◌}
use Prim.Native.Nat.{◌+◌, ◌*◌}
use mathlib.Core.Bool.{◌||◌, not}
use lib.ListN.{length}
use lib.Dec.{ltb, eqb}
use borrow.Author.Tests.{eqb-false}
use Rattle.std.proofs.lemmas.Result.{err_from_is_err_and}
use Rattle.refusals.specs.Refusals.{answer_in}
use Rattle.base.specs.First.{first}
use Rattle.fields.specs.Fields.{head_in, steps_from, steps_in}
use Rattle.walk.specs.declared.Walk.{Walk}
use Rattle.walk.specs.Walk.{set_out, walked}
use Rattle.walk.proofs.WalkLaws.{walked_last, walked_figures}
use Rattle.verdict.specs.Verdict.{event_verdict}
use Rattle.record.specs.Rules.{length_wrong}
use Rattle.record.specs.Inside.{stepped_tests, answer_at}
use Rattle.record.proofs.JudgeLaws.{refused_by, at_accepted, stepped_answer, stepped_timely, err_refuses, ok_answers_0}
use Rattle.record.proofs.judge_stepped.Goals as goal

pub returns-then-bytes-steps : goal.returns-then-bytes-steps
returns-then-bytes-steps c =
    let length-is : let s = c.args.bytes.now in
    let n = c.byte_at-steps.result in
    (ltb (length s) 14 || eqb n 0 || ltb 64 n || not (eqb (length s) (14 + 16 * n))) ≡ length_wrong 3 s = let s = c.args.bytes.now in
    λ i. ltb (length s) 14 || eqb (c.byte_at-steps.ensures i) 0 || ltb 64 (c.byte_at-steps.ensures i) || not (eqb (length s) (14 + 16 * c.byte_at-steps.ensures i)) in
    let a = c.args in
    sym (refused_by 3 a.bytes.now a.held.sheet a.held.map.now a.held.events 4 (refl, sym length-is ∙ c.if-bytes-steps.true) (eqb-false 4 0 refl))

pub returns-in_err-admit_stepped : goal.returns-in_err-admit_stepped
returns-in_err-admit_stepped c =
    let length-is : let s = c.args.bytes.now in
    let n = c.byte_at-steps.result in
    (ltb (length s) 14 || eqb n 0 || ltb 64 n || not (eqb (length s) (14 + 16 * n))) ≡ length_wrong 3 s = let s = c.args.bytes.now in
    λ i. ltb (length s) 14 || eqb (c.byte_at-steps.ensures i) 0 || ltb 64 (c.byte_at-steps.ensures i) || not (eqb (length s) (14 + 16 * c.byte_at-steps.ensures i)) in
    let walk_is : let s = c.args.bytes.now in c.walk_of-walk.result ≡ walked (set_out (head_in s).t0) (steps_in s) = let s = c.args.bytes.now in
    c.walk_of-walk.ensures ∙ (λ i. walked (set_out (c.head_of-head.ensures i).t0) (steps_from s (c.byte_at-steps.ensures i) 14)) in
    let a = c.args in
    let answered : answer_in c.admit_stepped.result ≡ answer_at 3 a.bytes.now a.held.sheet a.held.map.now a.held.events =
    c.admit_stepped.ensures ∙
    (λ i. first (stepped_tests (c.head_of-head.ensures i) (walk_is i) a.held.sheet a.held.map.now a.held.events)) ∙
    sym (stepped_answer a.bytes.now a.held.sheet a.held.map.now a.held.events (sym length-is ∙ c.if-bytes-steps.false)) in
    let p = err_from_is_err_and c.from_residual.result c.from_residual.ensures.1 in
    rw (p.1, p.2) (err_refuses 3 a.bytes.now a.held.sheet a.held.map.now a.held.events c.admit_stepped.result answered _ (c.in_err-admit_stepped.was))

pub returns : goal.returns
returns c =
    let length-is : let s = c.args.bytes.now in
    let n = c.byte_at-steps.result in
    (ltb (length s) 14 || eqb n 0 || ltb 64 n || not (eqb (length s) (14 + 16 * n))) ≡ length_wrong 3 s = let s = c.args.bytes.now in
    λ i. ltb (length s) 14 || eqb (c.byte_at-steps.ensures i) 0 || ltb 64 (c.byte_at-steps.ensures i) || not (eqb (length s) (14 + 16 * c.byte_at-steps.ensures i)) in
    let walk_is : let s = c.args.bytes.now in c.walk_of-walk.result ≡ walked (set_out (head_in s).t0) (steps_in s) = let s = c.args.bytes.now in
    c.walk_of-walk.ensures ∙ (λ i. walked (set_out (c.head_of-head.ensures i).t0) (steps_from s (c.byte_at-steps.ensures i) 14)) in
    let a = c.args in
    let answered : answer_in c.admit_stepped.result ≡ answer_at 3 a.bytes.now a.held.sheet a.held.map.now a.held.events =
    c.admit_stepped.ensures ∙
    (λ i. first (stepped_tests (c.head_of-head.ensures i) (walk_is i) a.held.sheet a.held.map.now a.held.events)) ∙
    sym (stepped_answer a.bytes.now a.held.sheet a.held.map.now a.held.events (sym length-is ∙ c.if-bytes-steps.false)) in
    let s = a.bytes.now in
    let t0 = (head_in s).t0 in
    let z = ok_answers_0 3 s a.held.sheet a.held.map.now a.held.events c.admit_stepped.result answered _ (c.in_ok-admit_stepped.was) in
    let timely = stepped_timely s a.held.sheet a.held.map.now a.held.events z in
    let last = ap (λ (w : Walk). w.course.last) walk_is ∙ walked_last t0 (steps_in s) timely in
    let figures = ap (λ (w : Walk). w.course.figures) walk_is ∙ walked_figures t0 (steps_in s) timely in
    c.accept.ensures ∙
    (λ i. event_verdict a.held.sheet (c.head_of-head.ensures i) (last i) (figures i)) ∙
    sym (at_accepted 3 s a.held.sheet a.held.map.now a.held.events z)
