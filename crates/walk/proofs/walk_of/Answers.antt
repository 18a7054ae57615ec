-- What the whole walk comes to is at each turn what the walk so far comes to over the steps that are left. Assumes nothing.
use borrow.Author.Rules.{rules}
use Prim.Native.Nat.{ℕ, ◌+◌, ◌-◌, ◌*◌, ◌<◌}
use mathlib.Core.Path.{◌≡◌, ap, sym, ◌∙◌}
use lib.ListN.{get_or}
use native.Mathlib.Omega.{arith}
use mir.Syntax.{w32}
use mir.Val.{Fits}
use Rattle.annex.specs.Inside.{Few}
use Rattle.annex.proofs.Bounds.{timely_begun}
use Rattle.fields.specs.Fields.{step_at, steps_from}
use Rattle.walk.specs.Walk.{walked_step, walked}
use Rattle.walk.proofs.WalkLaws.{timely_kept, one_taken}
use Rattle.walk.proofs.walk_of.Goals as goal

pub loop-i-init : goal.loop-i-init
loop-i-init c =
    let a = c.args in
    let all : a.steps ≡ a.steps - 0 = omega arith in (
      rw c.begin-walk.ensures (timely_begun a.t0),
      (λ j. walked (sym c.begin-walk.ensures j) (steps_from a.s.now (all j) 14)),
    )

pub with-walk-requires : goal.with-walk-requires
with-walk-requires c = c.loop-i.invariant.0

pub loop-i-preserved : goal.loop-i-preserved
loop-i-preserved c =
    let a = c.args in
    let l = c.loop-i in
    let s = a.s.now in
    let step = c.step_at.result in
    let one : c.with-walk.result ≡ walked_step l.walk step = c.with-walk.ensures in
    let at = 14 + 16 * l.i in
    let read : step ≡ step_at s at = c.step_at.ensures in
    -- each element of an array of 32-bit numbers is below 2 ^ 32
    let fits : (i : ℕ) → Fits w32 (get_or step.counts i 0) = λ i. search (rules, c.step_at.type_inv) in
    let few : Few 4294967295 step.counts =
    record { nn = omega (arith, (fits 0).fits); vn = omega (arith, (fits 1).fits); vvn = omega (arith, (fits 2).fits) } in
    let more : 0 < a.steps - l.i = omega arith in
    let left : a.steps - l.i - 1 ≡ a.steps - (l.i + 1) = omega arith in
    let next : at + 16 ≡ 14 + 16 * (l.i + 1) = omega arith in (
      rw one (timely_kept l.walk step l.invariant.0 few),
      l.invariant.1
          ∙ one_taken l.walk s (a.steps - l.i) at more
          ∙ (λ j. walked (sym (one ∙ ap (walked_step l.walk) read) j) (steps_from s (left j) (next j))),
    )

pub returns : goal.returns
returns c =
    let none : c.args.steps - c.loop-i.i ≡ 0 = omega arith in
    sym (c.loop-i.invariant.1 ∙ rw none)
