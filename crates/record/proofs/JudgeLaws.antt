-- What a verdict is, by its answer: callers cite these laws and not the definitions. Assumes nothing.
use Rattle.std.specs.Prelude.{Result, Ok, Err}
use Prim.Native.Nat.{ℕ}
use mathlib.Core.Path.{◌≡◌, refl, sym, ◌∙◌, ap}
use mathlib.Core.List.{List, []}
use mathlib.Core.Bool.{Bool, true, false, cond, not, ◌||◌, or-true}
use lib.Dec.{eqb, leb}
use borrow.Author.Tests.{eq-eqb, ne_eqb, eqb-true, eqb-false}
use Rattle.base.specs.First.{first, NoRule, Clear, Foremost}
use Rattle.base.specs.Lists.{any}
use Rattle.base.proofs.FirstLaws.{clear, clear_at, unclear, then}
use Rattle.base.proofs.TestLaws.{Tested, holds, fails, test, or_right}
use Rattle.wire.specs.Frame.{framed, kind_of}
use Rattle.refusals.specs.declared.Refusal.{Refusal}
use Rattle.refusals.specs.Refusals.{number_of, answer_in}
use Rattle.refusals.proofs.NumberLaws.{no_refusal_0}
use Rattle.codes.specs.Codes.{level_of}
use Rattle.codes.specs.Ranges.{most_events}
use Rattle.annex.specs.declared.Step.{Step}
use Rattle.annex.specs.Times.{minutes_in}
use Rattle.used_numbers.specs.Marks.{marked}
use Rattle.fields.specs.declared.Sheet.{Sheet}
use Rattle.fields.specs.Fields.{head_in, simple_in, steps_in}
use Rattle.fields.specs.Tests.{head_listed}
use Rattle.limits.specs.Limits.{exceeding, above_level, exceeding_figures, figures_above, simple_late, any_late}
use Rattle.walk.specs.declared.Walk.{Walk}
use Rattle.walk.specs.Walk.{set_out, walked}
use Rattle.walk.proofs.WalkLaws.{walked_late, walked_figures, exceed_by_largest, above_by_largest}
use Rattle.verdict.specs.Verdict.{Verdict, refused_with, event_verdict}
use Rattle.record.specs.Rules.{by_kind, rules, rules_at, length_wrong}
use Rattle.record.specs.Inside.{first_of, simple_tests, stepped_tests, answer_at, verdict_at}
use Rattle.record.specs.Verdict.{accepted_at, record_answer, verdict_of}

module _ (kind : ℕ) (s : List ℕ) (sheet : Sheet) (m : List ℕ) (events : ℕ) where
  -- read as a kind: an answer n other than 0 gives the refusal n, and 0 gives what an accepted record of the kind comes to
  pub at_refused : (n : ℕ) → answer_at kind s sheet m events ≡ n → (n ≡ 0 → ⊥) → verdict_at kind s sheet m events ≡ refused_with sheet n
  unfolding verdict_at
  at_refused n e z =
      ap (λ a. cond (eqb a 0) (accepted_at kind s sheet) (refused_with sheet a)) e ∙
      ap (λ t. cond t (accepted_at kind s sheet) (refused_with sheet n)) (ne_eqb n 0 z)

  pub at_accepted : answer_at kind s sheet m events ≡ 0 → verdict_at kind s sheet m events ≡ accepted_at kind s sheet
  unfolding verdict_at
  at_accepted e = ap (λ a. cond (eqb a 0) (accepted_at kind s sheet) (refused_with sheet a)) e

-- an accepted record's verdict answers 0
accepted_answer : (kind : ℕ) (s : List ℕ) (sheet : Sheet) → (accepted_at kind s sheet).answer ≡ 0
unfolding event_verdict
accepted_answer kind s sheet = go (eqb kind 1) refl (eqb kind 2) refl
  where
    go : (a : Bool) → eqb kind 1 ≡ a → (b : Bool) → eqb kind 2 ≡ b → (accepted_at kind s sheet).answer ≡ 0
    go true p b q = rw p
    go false p true q = rw (p, q)
    go false p false q = rw (p, q)

module _ (s : List ℕ) (sheet : Sheet) (m : List ℕ) (events : ℕ) where
  -- the same by all the rules, with the record's own kind
  pub verdict_refused : (record_answer s sheet m events ≡ 0 → ⊥) → verdict_of s sheet m events ≡ refused_with sheet (record_answer s sheet m events)
  unfolding verdict_of
  verdict_refused z = ap (λ t. cond t (accepted_at (kind_of s) s sheet) (refused_with sheet (record_answer s sheet m events))) (ne_eqb _ _ z)

  pub verdict_accepted : record_answer s sheet m events ≡ 0 → verdict_of s sheet m events ≡ accepted_at (kind_of s) s sheet
  unfolding verdict_of
  verdict_accepted e = ap (λ t. cond t (accepted_at (kind_of s) s sheet) (refused_with sheet (record_answer s sheet m events))) (eq-eqb _ _ e)

  pub verdict_answer : (verdict_of s sheet m events).answer ≡ record_answer s sheet m events
  verdict_answer = go (test (eqb (record_answer s sheet m events) 0))
    where
      go : Tested (eqb (record_answer s sheet m events) 0) → (verdict_of s sheet m events).answer ≡ record_answer s sheet m events
      go (holds e) = ap (λ (v : Verdict). v.answer) (verdict_accepted (eqb-true _ _ e)) ∙ accepted_answer (kind_of s) s sheet ∙ sym (eqb-true _ _ e)
      go (fails e) = ap (λ (v : Verdict). v.answer) (verdict_refused (eqb-false _ _ e))

  -- no rule applies to an accepted record
  pub accepted_clear : record_answer s sheet m events ≡ 0 → Clear (rules s sheet m events)
  unfolding record_answer
  accepted_clear e = clear 1 (rules s sheet m events) (tt, (tt, (tt, (tt, (tt, (tt, (tt, (tt, (tt, (tt, (tt, (tt, tt)))))))))))) e

  -- and so none of those from 3 on, by its number
  pub accepted_rules : record_answer s sheet m events ≡ 0 → NoRule (rules_at (kind_of s) s sheet m events)
  accepted_rules e = clear_at (rules_at (kind_of s) s sheet m events) (accepted_clear e).1

  -- an unframed record is 2; a framed one is judged by its kind
  pub unframed_is_2 : framed s ≡ false → record_answer s sheet m events ≡ 2
  unfolding record_answer
  unframed_is_2 e = ap (λ t. cond (not t) 2 (first (rules_at (kind_of s) s sheet m events))) e

  pub framed_by_kind : framed s ≡ true → record_answer s sheet m events ≡ answer_at (kind_of s) s sheet m events
  unfolding record_answer answer_at
  framed_by_kind e = ap (λ t. cond (not t) 2 (first (rules_at (kind_of s) s sheet m events))) e

  pub verdict_by_kind : framed s ≡ true → verdict_of s sheet m events ≡ verdict_at (kind_of s) s sheet m events
  unfolding verdict_of verdict_at
  verdict_by_kind e = ap (λ a. cond (eqb a 0) (accepted_at (kind_of s) s sheet) (refused_with sheet a)) (framed_by_kind e)

-- the verdict is a refusal by the rule that is foremost, and acceptance where no rule applies
module _ (kind : ℕ) (s : List ℕ) (sheet : Sheet) (m : List ℕ) (events : ℕ) where
  pub refused_by : (n : ℕ) → Foremost n (rules_at kind s sheet m events) → (n ≡ 0 → ⊥) → verdict_at kind s sheet m events ≡ refused_with sheet n
  unfolding answer_at
  refused_by n f = at_refused kind s sheet m events n (then n (rules_at kind s sheet m events) f)

  pub accepted_by : Clear (rules_at kind s sheet m events) → verdict_at kind s sheet m events ≡ accepted_at kind s sheet
  unfolding answer_at
  accepted_by c = at_accepted kind s sheet m events (unclear (rules_at kind s sheet m events) c)

  -- no rule of any number applies where the answer is 0
  pub answered_rules : answer_at kind s sheet m events ≡ 0 → NoRule (rules_at kind s sheet m events)
  unfolding answer_at
  answered_rules e = clear_at (rules_at kind s sheet m events) (clear 2 (rules_at kind s sheet m events) (tt, (tt, (tt, (tt, (tt, (tt, (tt, (tt, (tt, (tt, (tt, tt))))))))))) e)

-- where 10 applies, what comes after it does not matter
pub ten_hides : (c5 c7 c10 : Bool) → c10 ≡ true → (a b : Bool) (r s : ℕ) → first_of c5 c7 c10 a r ≡ first_of c5 c7 c10 b s
ten_hides c5 c7 c10 e a b r s =
    ap (λ t. cond c5 5 (cond c7 7 (cond t 10 (cond a 11 r)))) e ∙ ap (λ t. cond c5 5 (cond c7 7 (cond t 10 (cond b 11 s)))) (sym e)

-- an event of the right length: the tests that are left, in order
module _ (s : List ℕ) (sheet : Sheet) (m : List ℕ) (events : ℕ) where
  pub simple_answer : length_wrong 2 s ≡ false → answer_at 2 s sheet m events ≡ first (simple_tests (head_in s) (simple_in s) sheet m events)
  unfolding answer_at
  simple_answer e = rw e

  -- of a stepped event by the walk over its steps: where no time breaks a rule, the largest counts make the tests of all the steps, and else 10 hides them
  pub stepped_answer : length_wrong 3 s ≡ false → answer_at 3 s sheet m events ≡ first (stepped_tests (head_in s) (walked (set_out (head_in s).t0) (steps_in s)) sheet m events)
  unfolding answer_at
  stepped_answer e = rw e (go (test (any_late t0 (steps_in s))))
    where
      t0 : ℕ
      t0 = (head_in s).t0

      w : Walk
      w = walked (set_out t0) (steps_in s)

      begins : Bool
      begins = leb (minutes_in sheet.year) t0

      over : Bool
      over = any (λ (st : Step). exceeding sheet.totals st.counts) (steps_in s)

      rest : Bool → ℕ
      rest high = cond high 12 (cond (marked m (head_in s).number) 14 (cond (leb most_events events) 15 0))

      high : Bool
      high = any (λ (st : Step). above_level (level_of (head_in s).voltage) st.counts) (steps_in s)

      go : Tested (any_late t0 (steps_in s)) → first_of (not sheet.there) (not (head_listed (head_in s))) (begins || any_late t0 (steps_in s)) over (rest high) ≡ first (stepped_tests (head_in s) w sheet m events)
      go (holds broken) =
          (λ i. first_of (not sheet.there) (not (head_listed (head_in s))) (begins || broken i) over (rest high)) ∙
          ten_hides (not sheet.there) (not (head_listed (head_in s))) (begins || true) (or-true begins) over (exceeding_figures sheet.totals w.course.figures) (rest high) (rest (figures_above (level_of (head_in s).voltage) w.course.figures)) ∙
          (λ i. first_of (not sheet.there) (not (head_listed (head_in s))) (begins || sym (walked_late t0 (steps_in s) ∙ broken) i) (exceeding_figures sheet.totals w.course.figures) (rest (figures_above (level_of (head_in s).voltage) w.course.figures)))
      go (fails timely) =
          let f = walked_figures t0 (steps_in s) timely in
          let o = ap (exceeding_figures sheet.totals) f ∙ exceed_by_largest sheet.totals t0 (steps_in s) in
          let a = ap (figures_above (level_of (head_in s).voltage)) f ∙ above_by_largest (level_of (head_in s).voltage) t0 (steps_in s) in
          λ i. first_of (not sheet.there) (not (head_listed (head_in s))) (begins || sym (walked_late t0 (steps_in s)) i) (sym o i) (rest (sym a i))

-- nothing is asked of a kind that is none of the three
pub no_kind : (kind : ℕ) → (kind ≡ 1 → ⊥) → (kind ≡ 2 → ⊥) → (kind ≡ 3 → ⊥) → by_kind kind true true true ≡ false
no_kind kind a b c = rw (ne_eqb kind 1 a, ne_eqb kind 2 b, ne_eqb kind 3 c)

-- what an accepted simple event's times and an accepted stepped event's times are
pub simple_timely : (s : List ℕ) (sheet : Sheet) (m : List ℕ) (events : ℕ) → answer_at 2 s sheet m events ≡ 0 → simple_late (head_in s).typ (simple_in s) ≡ false
simple_timely s sheet m events e =
    or_right (leb (minutes_in sheet.year) (head_in s).t0) _ (answered_rules 2 s sheet m events e 10)

pub stepped_timely : (s : List ℕ) (sheet : Sheet) (m : List ℕ) (events : ℕ) → answer_at 3 s sheet m events ≡ 0 → any_late (head_in s).t0 (steps_in s) ≡ false
stepped_timely s sheet m events e =
    or_right (leb (minutes_in sheet.year) (head_in s).t0) _ (answered_rules 3 s sheet m events e 10)

-- a sheet is judged by itself and the sheet before it: map and events do not matter
pub sheet_alone : (s : List ℕ) (sheet : Sheet) (m : List ℕ) (events : ℕ) → verdict_at 1 s sheet [] 0 ≡ verdict_at 1 s sheet m events
unfolding verdict_at answer_at
sheet_alone s sheet m events = refl

-- an outcome of an event's tests that answers the smallest number: a refusal is the verdict, and any other accepts
module _ (kind : ℕ) (s : List ℕ) (sheet : Sheet) (m : List ℕ) (events : ℕ) {A : Type 0} (x : Result A Refusal) (answered : answer_in x ≡ answer_at kind s sheet m events) where
  pub err_refuses : (r : Refusal) → x ≡ Err r → refused_with sheet (number_of r) ≡ verdict_at kind s sheet m events
  err_refuses r e = sym (at_refused kind s sheet m events (number_of r) (sym answered ∙ ap answer_in e) (no_refusal_0 r))

  pub ok_answers_0 : (a : A) → x ≡ Ok a → answer_at kind s sheet m events ≡ 0
  ok_answers_0 a e = sym answered ∙ ap answer_in e
