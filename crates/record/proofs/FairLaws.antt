-- A verdict is one that the ledger has room for: an accepted event's row is a row of the ledger, and its figures stay within what one event may
-- add. Assumes nothing.
use Prim.Native.Nat.{ℕ, ◌*◌, ◌<◌, ◌≤◌}
use mathlib.Core.Path.{◌≡◌, refl, sym, subst}
use mathlib.Core.Logic.{◌⊎◌, inl, inr}
use mathlib.Core.List.{List}
use mathlib.Core.Bool.{Bool, true, false, cond}
use lib.Dec.{eqb, leb}
use native.Mathlib.Omega.{arith}
use borrow.Author.Tests.{eqb-true, eqb-false, leb-false, not-false}
use Rattle.base.specs.First.{NoRule}
use Rattle.base.proofs.TestLaws.{Tested, holds, fails, test, or_left, or_right, one_of_three}
use Rattle.wire.specs.Frame.{kind_of}
use Rattle.codes.specs.Codes.{rows, levels, row_of}
use Rattle.codes.specs.Ranges.{most_events, most_customers}
use Rattle.annex.specs.declared.Figures.{Figures}
use Rattle.annex.specs.Figures.{nothing}
use Rattle.annex.specs.Figure.{Figure, figure_at, most_of}
use Rattle.annex.specs.Times.{is_short, minutes_in}
use Rattle.annex.specs.Inside.{Within, Few}
use Rattle.annex.proofs.FoldLaws.{nothing_gives}
use Rattle.annex.proofs.Bounds.{minutes_most, simple_within, stepped_within}
use Rattle.fields.specs.declared.Sheet.{Sheet}
use Rattle.fields.specs.declared.Head.{Head}
use Rattle.fields.specs.Fields.{sheet_in, head_in, simple_in, steps_in}
use Rattle.fields.specs.Tests.{in_range}
use Rattle.limits.specs.Limits.{exceeding, any_late, simple_late}
use Rattle.fields.proofs.TestLaws.{range_few, listed_row}
use Rattle.limits.proofs.LimitLaws.{late_ordered, simple_ordered, within_totals, all_within}
use Rattle.verdict.specs.Verdict.{refused_with, sheet_verdict, event_verdict}
use Rattle.record.specs.Rules.{rules_at, by_kind, kind_not_taken}
use Rattle.record.specs.Inside.{Fair}
use Rattle.record.specs.Verdict.{accepted_at, record_answer, verdict_of}
use Rattle.record.proofs.JudgeLaws.{verdict_refused, verdict_accepted, accepted_rules}

-- the kinds that are taken
pub kind_taken : (kind : ℕ) → kind_not_taken kind ≡ false → (kind ≡ 1) ⊎ ((kind ≡ 2) ⊎ (kind ≡ 3))
kind_taken kind e = one_of_three kind 1 2 3 (not-false (by_kind kind true true true) e)

-- nothing is within the bounds of any number of events
nothing_small : (n : ℕ) (x : Figure) (h : ℕ) → h < levels → figure_at x nothing h ≤ n * most_of x
nothing_small n x h l = omega (arith, nothing_gives x h l)

module _ (sheet : Sheet) (events : ℕ) (most : events ≤ most_events) where
  -- there is room for any refusal, at up to 65,535 events
  pub refused_fair : (n : ℕ) → Fair sheet events (refused_with sheet n)
  refused_fair n =
      record {
        row = omega arith;
        room = omega arith;
        one = omega arith;
        short = omega arith;
        small = nothing_small 0;
        goes_on = inl (refl, inr refl);
      }

  sheet_fair : (next : Sheet) → sheet.there ≡ false → next.there ≡ true → in_range next ≡ true → Fair sheet events (sheet_verdict next)
  sheet_fair next e t r =
      record {
        row = omega arith;
        room = omega arith;
        one = omega arith;
        short = omega arith;
        small = nothing_small 0;
        goes_on = inr (e, t, r, refl);
      }

-- an accepted event: short or not
module _ (sheet : Sheet) (events : ℕ) (h : Head) (end : ℕ) (f : Figures) where
  -- there is room where the sheet is there, events are below 65,535, the type has a row and the figures are within what one event may add
  pub event_fair : sheet.there ≡ true → events < most_events → row_of h.typ < rows → ((level : ℕ) → level < levels → Within f level) → Fair sheet events (event_verdict sheet h end f)
  unfolding event_verdict
  event_fair there room row within = go (is_short h.t0 end) refl
    where
      go : (t : Bool) → is_short h.t0 end ≡ t → Fair sheet events (record { answer = 0; sheet = sheet; number = h.number; events = 1; short = cond t 1 0; row = row_of h.typ; figures = cond t nothing f })
      go true e =
          record {
            row = row;
            room = omega arith;
            one = omega arith;
            short = omega arith;
            small = nothing_small 1;
            goes_on = inl (refl, inl there);
          }
      go false e =
          record {
            row = row;
            room = omega arith;
            one = omega arith;
            short = omega arith;
            small = λ x h l. omega (arith, within h l x);
            goes_on = inl (refl, inl there);
          }

module _ (s : List ℕ) (sheet : Sheet) (m : List ℕ) (events : ℕ) (most : events ≤ most_events) (range : sheet.there ≡ true → in_range sheet ≡ true) where
  accepted_sheet_fair : NoRule (rules_at 1 s sheet m events) → Fair sheet events (accepted_at 1 s sheet)
  accepted_sheet_fair c = sheet_fair sheet events most (sheet_in s) (c 5) refl (not-false _ (c 6))

  accepted_simple_fair : NoRule (rules_at 2 s sheet m events) → Fair sheet events (accepted_at 2 s sheet)
  accepted_simple_fair c =
      let there : sheet.there ≡ true = not-false _ (c 5) in
      let few : Few most_customers sheet.totals = range_few sheet (range there) in
      let times : simple_late (head_in s).typ (simple_in s) ≡ false =
      or_right (leb (minutes_in sheet.year) (head_in s).t0) _ (c 10) in
      let counts = c 11 in
      event_fair sheet events (head_in s) _ _ there
      (leb-false most_events events (c 15))
      (listed_row (head_in s) (not-false _ (c 7)))
      (simple_within (simple_in s) (simple_ordered (head_in s).typ (simple_in s) times)
      (within_totals few (simple_in s).n1 (or_left (exceeding sheet.totals (simple_in s).n1) _ counts))
      (within_totals few (simple_in s).n2 (or_right (exceeding sheet.totals (simple_in s).n1) _ counts)))

  accepted_stepped_fair : NoRule (rules_at 3 s sheet m events) → Fair sheet events (accepted_at 3 s sheet)
  accepted_stepped_fair c =
      let there : sheet.there ≡ true = not-false _ (c 5) in
      let few : Few most_customers sheet.totals = range_few sheet (range there) in
      let t0 = (head_in s).t0 in
      let begins : t0 < minutes_in sheet.year = leb-false _ _ (or_left (leb (minutes_in sheet.year) t0) (any_late t0 (steps_in s)) (c 10)) in
      let times : any_late t0 (steps_in s) ≡ false = or_right (leb (minutes_in sheet.year) t0) _ (c 10) in
      event_fair sheet events (head_in s) _ _ there
      (leb-false most_events events (c 15))
      (listed_row (head_in s) (not-false _ (c 7)))
      (stepped_within t0 (steps_in s) (omega (arith, minutes_most sheet.year)) (late_ordered t0 (steps_in s) times)
      (all_within few (steps_in s) (c 11)))

  accepted_fair : (kind : ℕ) → NoRule (rules_at kind s sheet m events) → Fair sheet events (accepted_at kind s sheet)
  accepted_fair kind c = go (kind_taken kind (c 3))
    where
      go : (kind ≡ 1) ⊎ ((kind ≡ 2) ⊎ (kind ≡ 3)) → Fair sheet events (accepted_at kind s sheet)
      go (inl e) = subst (λ k. Fair sheet events (accepted_at k s sheet)) (sym e) (accepted_sheet_fair (subst (λ k. NoRule (rules_at k s sheet m events)) e c))
      go (inr (inl e)) = subst (λ k. Fair sheet events (accepted_at k s sheet)) (sym e) (accepted_simple_fair (subst (λ k. NoRule (rules_at k s sheet m events)) e c))
      go (inr (inr e)) = subst (λ k. Fair sheet events (accepted_at k s sheet)) (sym e) (accepted_stepped_fair (subst (λ k. NoRule (rules_at k s sheet m events)) e c))

  -- with no sheet or one in range, and up to 65,535 events, there is room for the verdict on any record
  pub verdict_fair : Fair sheet events (verdict_of s sheet m events)
  verdict_fair = go (test (eqb (record_answer s sheet m events) 0))
    where
      go : Tested (eqb (record_answer s sheet m events) 0) → Fair sheet events (verdict_of s sheet m events)
      go (holds e) =
          let z = eqb-true _ _ e in
          subst (Fair sheet events) (sym (verdict_accepted s sheet m events z)) (accepted_fair (kind_of s) (accepted_rules s sheet m events z))
      go (fails e) = subst (Fair sheet events) (sym (verdict_refused s sheet m events (eqb-false _ _ e))) (refused_fair sheet events most _)
