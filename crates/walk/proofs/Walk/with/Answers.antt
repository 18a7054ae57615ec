-- The test is the callee's, and the course is gone on only where every time up to this one is in order, so that no difference of times and no sum wraps.
-- Assumes nothing.
use mathlib.Core.Path.{◌≡◌, ap, sym, ◌∙◌}
use mathlib.Core.Bool.{true, false, ◌||◌}
use Rattle.base.proofs.TestLaws.{or_right}
use Rattle.annex.proofs.Bounds.{timely_ready}
use Rattle.walk.specs.Walk.{late_by, walked_step}
use Rattle.limits.proofs.LimitLaws.{in_time}
use Rattle.walk.proofs.WalkLaws.{step_late, step_timed}
use Rattle.walk.proofs.Walk.with.Goals as goal

pub returns-then-late : goal.returns-then-late
unfolding walked_step
returns-then-late c =
    let a = c.args in
    let late : late_by a.self a.step ≡ true = ap (λ b. a.self.late || b) (sym c.is_late.ensures) ∙ c.if-late.true in
    λ i. record { late = sym late i; course = (c.begin.ensures ∙ sym (step_late a.self a.step late)) i }

pub with-requires : goal.with-requires
with-requires c =
    let a = c.args in
    let now = in_time a.self.course.last a.step.time (sym c.is_late.ensures ∙ or_right a.self.late _ c.if-late.false) in
    timely_ready a.self.course a.step c.requires now.0 now.1

pub returns : goal.returns
unfolding walked_step
returns c =
    let a = c.args in
    let late : late_by a.self a.step ≡ false = ap (λ b. a.self.late || b) (sym c.is_late.ensures) ∙ c.if-late.false in
    λ i. record { late = sym late i; course = (c.with.ensures ∙ sym (step_timed a.self a.step late)) i }
