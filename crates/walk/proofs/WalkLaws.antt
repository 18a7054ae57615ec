-- What a walk over an event's steps comes to: the tests of all its steps, its last time, and the figures that the annex's fold gives. Assumes nothing.
use Prim.Native.Nat.{ℕ, zero, suc, ◌+◌, ◌-◌, ◌<◌, max}
use mathlib.Core.Path.{◌≡◌, refl, sym, ap, subst, ◌∙◌}
use mathlib.Core.List.{List, [], ◌∷◌}
use mathlib.Core.Bool.{Bool, true, false, ◌&&◌, ◌||◌, cond, or_assoc, or-false}
use lib.ListN.{get_or}
use lib.Dec.{ltb}
use native.Mathlib.Omega.{arith}
use borrow.Author.Tests.{ltb-true, ltb-false, lt-ltb, le-ltb}
use native.Mathlib.Nat.{not-suc-le-zero}
use native.Mathlib.Numerals.{sub-one}
use Rattle.base.specs.Lists.{any, largest}
use Rattle.base.proofs.TestLaws.{or_left, or_right, or_both, Tested, holds, fails, test}
use Rattle.codes.specs.Codes.{levels}
use Rattle.annex.specs.declared.Course.{Course}
use Rattle.annex.specs.declared.Step.{Step}
use Rattle.annex.specs.Figures.{customers_at}
use Rattle.annex.specs.Annex.{counts_of}
use Rattle.annex.proofs.FoldLaws.{stepped_customers, course_last}
use Rattle.annex.specs.Stepped.{begun, coursed, coursed_all, last_time, stepped_figures}
use Rattle.annex.specs.Inside.{Few, Timely}
use Rattle.annex.proofs.Bounds.{timely_begun, timely_step}
use Rattle.walk.specs.declared.Walk.{Walk}
use Rattle.fields.specs.Fields.{step_at, steps_from}
use Rattle.limits.specs.Limits.{late_step, any_late, exceeding, above_level, exceeding_figures, figures_above}
use Rattle.limits.proofs.LimitLaws.{in_time}
use Rattle.walk.specs.Walk.{set_out, late_by, walked_step, walked}

-- a walk is late exactly where it was before, or a time of the steps breaks a rule
pub late_from : (w : Walk) (ss : List Step) → (walked w ss).late ≡ (w.late || any_late w.course.last ss)
unfolding walked_step
late_from w [] = sym (or-false w.late)
late_from w (s ∷ ss) =
    late_from (walked_step w s) ss
    ∙ ap (λ t. late_by w s || any_late t ss) (last_by (late_by w s))
    ∙ or_assoc w.late (late_step w.course.last s.time) (any_late s.time ss)
  where
    last_by : (b : Bool) → (cond b (begun s.time) (coursed w.course s)).last ≡ s.time
    last_by true = refl
    last_by false = refl

-- while no time breaks a rule the walk goes along the event's course
pub course_from : (w : Walk) (ss : List Step) → w.late ≡ false → any_late w.course.last ss ≡ false → (walked w ss).course ≡ coursed_all w.course ss
unfolding walked_step
course_from w [] e f = refl
course_from w (s ∷ ss) e f =
    let late : late_by w s ≡ false =
    or_both w.late (late_step w.course.last s.time) e (or_left (late_step w.course.last s.time) (any_late s.time ss) f) in
    let on : cond (late_by w s) (begun s.time) (coursed w.course s) ≡ coursed w.course s = rw late in
    course_from (walked_step w s) ss late
    (subst (λ c. any_late c.last ss ≡ false) (sym on) (or_right (late_step w.course.last s.time) (any_late s.time ss) f))
    ∙ ap (λ c. coursed_all c ss) on

module _ (t0 : ℕ) (ss : List Step) where
  -- an event's walk is late exactly where a time breaks a rule
  pub walked_late : (walked (set_out t0) ss).late ≡ any_late t0 ss
  walked_late = late_from (set_out t0) ss

  module _ (timely : any_late t0 ss ≡ false) where
    walked_course : (walked (set_out t0) ss).course ≡ coursed_all (begun t0) ss
    walked_course = course_from (set_out t0) ss refl timely

    -- where none does, it ends at the last step's time, with the figures that the stepped event adds
    pub walked_last : (walked (set_out t0) ss).course.last ≡ last_time t0 ss
    walked_last = ap (λ (c : Course). c.last) walked_course ∙ course_last (begun t0) ss

    pub walked_figures : (walked (set_out t0) ss).course.figures ≡ stepped_figures t0 ss
    walked_figures = ap (λ (c : Course). c.figures) walked_course

-- a step after which a time has broken a rule, and one after which none has
module _ (w : Walk) (s : Step) where
  pub step_late : late_by w s ≡ true → (walked_step w s).course ≡ begun s.time
  unfolding walked_step
  step_late e = rw e

  pub step_timed : late_by w s ≡ false → (walked_step w s).course ≡ coursed w.course s
  unfolding walked_step
  step_timed e = rw e

  -- after either, with counts of 32 bits, the half minutes stay within what the last time allows
  pub timely_kept : Timely w.course → Few 4294967295 s.counts → Timely (walked_step w s).course
  timely_kept t few = go (test (late_by w s))
    where
      go : Tested (late_by w s) → Timely (walked_step w s).course
      go (holds e) = subst Timely (sym (step_late e)) (timely_begun s.time)
      go (fails e) =
          subst Timely (sym (step_timed e))
          (timely_step w.course s t (in_time w.course.last s.time (or_right w.late (late_step w.course.last s.time) e)).0 few)

-- one step of those that follow is taken
pub one_taken :
    (w : Walk) (s : List ℕ) (k at : ℕ) →
    0 < k →
    walked w (steps_from s k at) ≡ walked (walked_step w (step_at s at)) (steps_from s (k - 1) (at + 16))
one_taken w s zero at h = absurd (not-suc-le-zero h)
one_taken w s (suc k) at h = rw sub-one

-- a test of a level's count, made of the largest: some step passes it just where the largest count does
larger_test : (t a b : ℕ) → ltb t (max a b) ≡ (ltb t a || ltb t b)
larger_test t a b = go (test (ltb t a)) (test (ltb t b))
  where
    go : Tested (ltb t a) → Tested (ltb t b) → ltb t (max a b) ≡ (ltb t a || ltb t b)
    go (holds x) y = let l = ltb-true t a x in lt-ltb t (max a b) (omega arith) ∙ ap (λ u. u || ltb t b) (sym x)
    go (fails x) (holds y) = let l = ltb-true t b y in lt-ltb t (max a b) (omega arith) ∙ (λ i. sym x i || sym y i)
    go (fails x) (fails y) = let l = ltb-false t a x in let k = ltb-false t b y in le-ltb t (max a b) (omega arith) ∙ (λ i. sym x i || sym y i)

largest_test : (t h : ℕ) (ss : List Step) → ltb t (largest (counts_of h ss)) ≡ any (λ (st : Step). ltb t (get_or st.counts h 0)) ss
largest_test t h [] = le-ltb t 0 (omega arith)
largest_test t h (s ∷ ss) = larger_test t (get_or s.counts h 0) (largest (counts_of h ss)) ∙ ap (λ u. ltb t (get_or s.counts h 0) || u) (largest_test t h ss)

-- tests joined by "or", of each step or of all
swap_or : (a b c d : Bool) → ((a || b) || (c || d)) ≡ ((a || c) || (b || d))
swap_or true b c d = refl
swap_or false true true d = refl
swap_or false true false d = refl
swap_or false false c d = refl

any_or : (f g : Step → Bool) (ss : List Step) → any (λ s. f s || g s) ss ≡ (any f ss || any g ss)
any_or f g [] = refl
any_or f g (s ∷ ss) = ap (λ u. (f s || g s) || u) (any_or f g ss) ∙ swap_or (f s) (g s) (any f ss) (any g ss)

any_and : (a : Bool) (f : Step → Bool) (ss : List Step) → any (λ s. a && f s) ss ≡ (a && any f ss)
any_and true f ss = refl
any_and false f [] = refl
any_and false f (s ∷ ss) = any_and false f ss

-- the largest counts exceed a level's customers exactly where some step's counts do
pub exceed_by_largest :
    (totals : List ℕ) (t0 : ℕ) (ss : List Step) → exceeding_figures totals (stepped_figures t0 ss) ≡ any (λ (st : Step). exceeding totals st.counts) ss
exceed_by_largest totals t0 ss =
    let at : (h : ℕ) → h < levels → ltb (get_or totals h 0) (customers_at (stepped_figures t0 ss) h) ≡ any (λ (st : Step). ltb (get_or totals h 0) (get_or st.counts h 0)) ss =
    λ h l. ap (ltb (get_or totals h 0)) (stepped_customers h l t0 ss) ∙ largest_test (get_or totals h 0) h ss in
    (λ i. at 0 (omega arith) i || at 1 (omega arith) i || at 2 (omega arith) i) ∙
    sym
    (any_or (λ st. ltb (get_or totals 0 0) (get_or st.counts 0 0) || ltb (get_or totals 1 0) (get_or st.counts 1 0)) (λ st. ltb (get_or totals 2 0) (get_or st.counts 2 0)) ss ∙
    ap (λ u. u || any (λ (st : Step). ltb (get_or totals 2 0) (get_or st.counts 2 0)) ss)
    (any_or (λ st. ltb (get_or totals 0 0) (get_or st.counts 0 0)) (λ st. ltb (get_or totals 1 0) (get_or st.counts 1 0)) ss))

-- and are above 0 on a level higher than the event's exactly where some step's counts are
pub above_by_largest :
    (level t0 : ℕ) (ss : List Step) → figures_above level (stepped_figures t0 ss) ≡ any (λ (st : Step). above_level level st.counts) ss
above_by_largest level t0 ss =
    let at : (h : ℕ) → h < levels → ltb 0 (customers_at (stepped_figures t0 ss) h) ≡ any (λ (st : Step). ltb 0 (get_or st.counts h 0)) ss =
    λ h l. ap (ltb 0) (stepped_customers h l t0 ss) ∙ largest_test 0 h ss in
    (λ i. (ltb level 1 && at 1 (omega arith) i) || (ltb level 2 && at 2 (omega arith) i)) ∙
    sym
    (any_or (λ st. ltb level 1 && ltb 0 (get_or st.counts 1 0)) (λ st. ltb level 2 && ltb 0 (get_or st.counts 2 0)) ss ∙
    (λ i. any_and (ltb level 1) (λ st. ltb 0 (get_or st.counts 1 0)) ss i || any_and (ltb level 2) (λ st. ltb 0 (get_or st.counts 2 0)) ss i))
