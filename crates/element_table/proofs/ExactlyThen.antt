-- The theorem *exactly then* (02, K1): a record of a yearly file is answered by a number exactly when what the number stands for applies and nothing that
-- a smaller number stands for does, and accepted exactly when nothing applies (`Foremost` computes to these facts, one by one); and no other number is
-- answered. So for the beginning of a table and of a file. Assumes nothing.
use Prim.Native.Nat.{ℕ, ◌<◌, ◌≤◌}
use mathlib.Core.Path.{◌≡◌, refl, sym, ap, subst}
use mathlib.Core.Logic.{◌↔◌, ◌⊎◌}
use mathlib.Core.List.{List, [], ◌∷◌}
use mathlib.Core.Bool.{Bool, true, false, not, ◌||◌}
use lib.ListN.{length}
use lib.Dec.{ltb}
use native.Mathlib.Omega.{arith}
use borrow.Author.Tests.{eq-eqb, eqb-true, leb-false, lt-leb, ltb-false, le-ltb, not-false}
use Rattle.base.specs.First.{NoRule, Clear, Foremost}
use Rattle.base.specs.Lists.{listed}
use Rattle.base.proofs.FirstLaws.{exactly_then, clear_at, first_listed}
use Rattle.base.proofs.TestLaws.{Tested, holds, fails, test, or_left, or_right, or_both}
use Rattle.wire.specs.Frame.{framed, kind_of}
use Rattle.codes.specs.Ranges.{latest}
use Rattle.element_codes.specs.Elements.{element_listed}
use Rattle.element_row.specs.Row.{most_outages}
use Rattle.element_table.specs.declared.Table.{Table}
use Rattle.element_table.specs.Table.{Filed}
use Rattle.element_table.specs.Table.{period_within, begin_of, sound_table, file_begun}
use Rattle.element_rules.specs.Fields.{code_in, start_in, end_in, unit_in}
use Rattle.element_table.specs.Rules.{row_named, rules_at, rules, answer_of}
use Rattle.element_table.specs.Right.{SheetRight, OutageRight, StockRight}
use Rattle.element_table.proofs.BoundLaws.{period_within_lem, period_outside}
use Rattle.element_table.proofs.AnswerLaws.{rules_rise, accepted_clear, clear_accepted, begins, begins_none, file_begins, file_refused}

module _ (t : Table) (s : List ℕ) where
  -- n is answered exactly where what n stands for applies and no rule before it does, and 0 exactly where no rule applies
  pub exactly : (n : ℕ) → (answer_of t s ≡ n) ↔ Foremost n (rules t s)
  unfolding answer_of
  exactly n = exactly_then n (rules t s) (rules_rise t s)

  -- every answer is one of these numbers
  pub exactly_no_other : listed (answer_of t s) (0 ∷ 1 ∷ 2 ∷ 3 ∷ 4 ∷ 5 ∷ 6 ∷ 7 ∷ 10 ∷ 15 ∷ []) ≡ true
  unfolding answer_of
  exactly_no_other = first_listed (rules t s)

module _ (t : Table) (s : List ℕ) where
  accepted_at_lem : (kind : ℕ) → kind_of s ≡ kind → sound_table t ≡ true → framed s ≡ true → Clear (rules_at kind s t) → answer_of t s ≡ 0
  accepted_at_lem kind k sound whole c = clear_accepted t s (ap not sound, (ap not whole, subst (λ j. Clear (rules_at j s t)) (sym k) c))

  rules_at_lem : (kind : ℕ) → kind_of s ≡ kind → answer_of t s ≡ 0 → (sound_table t ≡ true) × (framed s ≡ true) × NoRule (rules_at kind s t)
  rules_at_lem kind k a =
      let c = accepted_clear t s a in (
        not-false (sound_table t) c.0,
        not-false (framed s) c.1.0,
        subst (λ j. NoRule (rules_at j s t)) k (clear_at (rules_at (kind_of s) s t) c.1.1),
      )

  -- a sheet, an outage and a stock are each accepted exactly where the facts named for it hold, and nothing else is asked of it
  pub exactly_sheet : kind_of s ≡ 1 → (answer_of t s ≡ 0) ↔ SheetRight t s
  exactly_sheet k = (there, back)
    where
      there : answer_of t s ≡ 0 → SheetRight t s
      there a =
          let (sound, whole, c) = rules_at_lem 1 k a in
          record {
            sound = sound;
            framed = whole;
            size = eqb-true _ _ (not-false _ (c 4));
            first = c 5;
            range = not-false _ (c 6);
          }

      back : SheetRight t s → answer_of t s ≡ 0
      back r =
          accepted_at_lem 1 k r.sound r.framed
          (refl, (ap not (eq-eqb _ _ r.size), (r.first, (ap not r.range, (refl, (refl, (refl, tt)))))))

  pub exactly_outage : kind_of s ≡ 4 → (answer_of t s ≡ 0) ↔ OutageRight t s
  exactly_outage k = (there, back)
    where
      late : Bool
      late = ltb (end_in s) (start_in s) || ltb latest (start_in s)

      there : answer_of t s ≡ 0 → OutageRight t s
      there a =
          let (sound, whole, c) = rules_at_lem 4 k a in
          let times = c 10 in
          record {
            sound = sound;
            framed = whole;
            size = eqb-true (length s) 14 (not-false _ (c 4));
            seen = not-false t.seen (c 5);
            listed = not-false (element_listed (code_in s)) (c 7);
            ordered = ltb-false (end_in s) (start_in s) (or_left _ _ (or_left late _ times));
            timely = ltb-false latest (end_in s) (or_right late _ times);
            room = leb-false most_outages (row_named t s).outages (c 15);
          }

      back : OutageRight t s → answer_of t s ≡ 0
      back r =
          let ordered = r.ordered in
          let timely = r.timely in
          let by10 =
          or_both late (ltb latest (end_in s))
          (or_both (ltb (end_in s) (start_in s)) (ltb latest (start_in s)) (le-ltb _ _ ordered) (le-ltb latest (start_in s) (omega arith)))
          (le-ltb _ _ timely) in
          let by15 = lt-leb most_outages (row_named t s).outages r.room in
          accepted_at_lem 4 k r.sound r.framed
          (refl, (ap not (eq-eqb _ _ r.size), (ap not r.seen, (refl, (ap not r.listed, (by10, (by15, tt)))))))

  pub exactly_stock : kind_of s ≡ 5 → (answer_of t s ≡ 0) ↔ StockRight t s
  exactly_stock k = (there, back)
    where
      there : answer_of t s ≡ 0 → StockRight t s
      there a =
          let (sound, whole, c) = rules_at_lem 5 k a in
          let placed = c 5 in
          let none = ltb-false 0 (row_named t s).stock (or_right (not t.seen) _ placed) in
          let named = c 7 in
          record {
            sound = sound;
            framed = whole;
            size = eqb-true (length s) 11 (not-false _ (c 4));
            seen = not-false t.seen (or_left (not t.seen) _ placed);
            new = omega arith;
            listed = not-false (element_listed (code_in s)) (or_left (not (element_listed (code_in s))) _ named);
            unit = ltb-false 1 (unit_in s) (or_right (not (element_listed (code_in s))) _ named);
          }

      back : StockRight t s → answer_of t s ≡ 0
      back r =
          let new = r.new in
          let by5 = or_both (not t.seen) (ltb 0 (row_named t s).stock) (ap not r.seen) (le-ltb 0 (row_named t s).stock (omega arith)) in
          let by7 = or_both (not (element_listed (code_in s))) (ltb 1 (unit_in s)) (ap not r.listed) (le-ltb _ _ r.unit) in
          accepted_at_lem 5 k r.sound r.framed (refl, (ap not (eq-eqb _ _ r.size), (by5, (refl, (by7, (refl, (refl, tt)))))))

-- a table is begun: 24 exactly for a period outside 1 to 50
module _ (period : ℕ) where
  pub begin_exactly_0 : ((begin_of period).answer ≡ 0) ↔ ((1 ≤ period) × (period ≤ 50))
  begin_exactly_0 = (there (test (period_within period)), λ i. ap (λ (f : Filed). f.answer) (begins period ((period_within_lem period).1 i)))
    where
      there : Tested (period_within period) → (begin_of period).answer ≡ 0 → (1 ≤ period) × (period ≤ 50)
      there (holds e) a = (period_within_lem period).0 e
      there (fails e) a = let z = ap (λ (f : Filed). f.answer) (begins_none period e) in absurd (omega arith)

  pub begin_exactly_24 : ((begin_of period).answer ≡ 24) ↔ ((period < 1) ⊎ (50 < period))
  begin_exactly_24 = (there (test (period_within period)), λ o. ap (λ (f : Filed). f.answer) (begins_none period ((period_outside period).1 o)))
    where
      there : Tested (period_within period) → (begin_of period).answer ≡ 24 → (period < 1) ⊎ (50 < period)
      there (holds e) a = let z = ap (λ (f : Filed). f.answer) (begins period e) in absurd (omega arith)
      there (fails e) a = (period_outside period).0 e

  pub begin_no_other : listed (begin_of period).answer (0 ∷ 24 ∷ []) ≡ true
  begin_no_other = go (test (period_within period))
    where
      go : Tested (period_within period) → listed (begin_of period).answer (0 ∷ 24 ∷ []) ≡ true
      go (holds e) = rw (begins period e)
      go (fails e) = rw (begins_none period e)

-- a file is begun: 1 exactly for a table past its bounds
module _ (t : Table) where
  pub file_exactly_0 : ((file_begun t).answer ≡ 0) ↔ (sound_table t ≡ true)
  file_exactly_0 = (there (test (sound_table t)), λ e. ap (λ (f : Filed). f.answer) (file_begins t e))
    where
      there : Tested (sound_table t) → (file_begun t).answer ≡ 0 → sound_table t ≡ true
      there (holds e) a = e
      there (fails e) a = let z = ap (λ (f : Filed). f.answer) (file_refused t e) in absurd (omega arith)

  pub file_exactly_1 : ((file_begun t).answer ≡ 1) ↔ (sound_table t ≡ false)
  file_exactly_1 = (there (test (sound_table t)), λ e. ap (λ (f : Filed). f.answer) (file_refused t e))
    where
      there : Tested (sound_table t) → (file_begun t).answer ≡ 1 → sound_table t ≡ false
      there (holds e) a = let z = ap (λ (f : Filed). f.answer) (file_begins t e) in absurd (omega arith)
      there (fails e) a = e

  pub file_no_other : listed (file_begun t).answer (0 ∷ 1 ∷ []) ≡ true
  file_no_other = go (test (sound_table t))
    where
      go : Tested (sound_table t) → listed (file_begun t).answer (0 ∷ 1 ∷ []) ≡ true
      go (holds e) = rw (file_begins t e)
      go (fails e) = rw (file_refused t e)
