-- A slot that holds an event, with one step more: the slot is the fold of the steps, and a fold goes on where it left off; the event passes the
-- book's rules still, since the step passed the desk's. Assumes nothing.
use Prim.Native.Nat.{ℕ, ◌+◌, ◌-◌, ◌≤◌}
use mathlib.Core.Path.{◌≡◌, refl, sym, ap, subst, ◌∙◌}
use mathlib.Core.List.{List, [], ◌∷◌, ◌++◌}
use mathlib.Core.Bool.{Bool, false, ◌||◌}
use lib.ListN.{length, length-append}
use Rattle.base.specs.Lists.{any}
use Rattle.base.proofs.ListLaws.{all_snoc, any_append}
use Rattle.base.proofs.TestLaws.{or_left, or_right, or_both}
use Rattle.codes.specs.Codes.{level_of}
use Rattle.annex.specs.declared.Step.{Step}
use Rattle.annex.specs.declared.Course.{Course}
use Rattle.annex.specs.Figures.{with_step}
use Rattle.annex.specs.Stepped.{begun, last_time, stepped_figures}
use Rattle.annex.proofs.FoldLaws.{course_snoc, course_last}
use Rattle.fields.specs.declared.Sheet.{Sheet}
use Rattle.codec.specs.Fits.{StepInBytes}
use Rattle.limits.specs.Limits.{exceeding, above_level, late_step, any_late}
use Rattle.slot.specs.Slot.{stepped_by}
use Rattle.desk_days.specs.Story.{SteppedEvent, slot_holding}
use Rattle.desk_days.proofs.EncodeLaws.{Passed}
use Rattle.desk_days.proofs.StoryLaws.{with_last}

last_snoc : (before : ℕ) (ss : List Step) (st : Step) → last_time before (ss ++ st ∷ []) ≡ st.time
last_snoc before [] st = refl
last_snoc before (s ∷ ss) st = last_snoc s.time ss st

late_snoc :
    (before : ℕ) (ss : List Step) (st : Step) →
    any_late before ss ≡ false →
    late_step (last_time before ss) st.time ≡ false →
    any_late before (ss ++ st ∷ []) ≡ false
late_snoc before [] st a b = or_both (late_step before st.time) false b refl
late_snoc before (s ∷ ss) st a b =
    or_both (late_step before s.time) (any_late s.time (ss ++ st ∷ []))
    (or_left (late_step before s.time) (any_late s.time ss) a)
    (late_snoc s.time ss st (or_right (late_step before s.time) (any_late s.time ss) a) b)

any_snoc : {A : Type 0} (f : A → Bool) (xs : List A) (y : A) → any f xs ≡ false → f y ≡ false → any f (xs ++ y ∷ []) ≡ false
any_snoc f xs y a b = any_append f xs (y ∷ []) ∙ or_both (any f xs) (f y || false) a (or_both (f y) false b refl)

module _ (e : SteppedEvent) (st : Step) where
  -- a step taken by the slot that holds an event makes it the slot that holds the event with this step last
  pub holding_stepped : stepped_by (slot_holding e) st ≡ slot_holding (with_last e st)
  holding_stepped =
      let figures : stepped_figures e.head.t0 (e.steps ++ st ∷ []) ≡ with_step (stepped_figures e.head.t0 e.steps) st.counts (st.time - last_time e.head.t0 e.steps) =
      ap (λ (c : Course). c.figures) (course_snoc (begun e.head.t0) e.steps st) ∙
      ap (λ t. with_step (stepped_figures e.head.t0 e.steps) st.counts (st.time - t)) (course_last (begun e.head.t0) e.steps) in
      λ i.
      record {
        head = e.head;
        last = sym (last_snoc e.head.t0 e.steps st) i;
        steps = sym (length-append e.steps (st ∷ [])) i;
        figures = sym figures i;
      }

  -- an event that passes the book's rules passes them with one step more, where that step passes the desk's
  pub passed_stepped :
      (sheet : Sheet) →
      Passed sheet e →
      late_step (slot_holding e).last st.time ≡ false →
      exceeding sheet.totals st.counts ≡ false →
      above_level (level_of e.head.voltage) st.counts ≡ false →
      length e.steps + 1 ≤ 64 →
      StepInBytes st →
      Passed sheet (with_last e st)
  passed_stepped sheet p late over high few fits =
      record {
        there = p.there;
        head_listed_lem = p.head_listed_lem;
        begins = p.begins;
        timely = late_snoc e.head.t0 e.steps st p.timely late;
        within = any_snoc (λ (x : Step). exceeding sheet.totals x.counts) e.steps st p.within over;
        level = any_snoc (λ (x : Step). above_level (level_of e.head.voltage) x.counts) e.steps st p.level high;
        few = subst (λ n. n ≤ 64) (sym (length-append e.steps (st ∷ []))) few;
        in_bytes = record { head = p.in_bytes.head; steps = all_snoc StepInBytes e.steps st p.in_bytes.steps fits };
      }
