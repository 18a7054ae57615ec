-- A complete event written as a record of kind 3: the bytes say what the event says, and a ledger under whose rules the event passes takes them
-- and adds the event's figures. Assumes nothing.
use Prim.Native.Nat.{ℕ, ◌+◌, ◌*◌, ◌<◌, ◌≤◌}
use mathlib.Core.Path.{◌≡◌, refl, ap, ◌∙◌}
use mathlib.Core.Logic.{◌≢◌}
use mathlib.Core.List.{List}
use mathlib.Core.Bool.{true, false, ◌||◌, not, cond}
use lib.ListN.{length}
use lib.Dec.{eqb, leb, ltb}
use native.Mathlib.Omega.{arith}
use borrow.Author.Tests.{eq-eqb, ne_eqb, le-ltb, lt-leb}
use Rattle.base.specs.First.{Clear}
use Rattle.base.specs.Lists.{All, any}
use Rattle.base.proofs.FirstLaws.{unclear}
use Rattle.base.proofs.TestLaws.{or_both}
use Rattle.codes.specs.Codes.{level_of}
use Rattle.codes.specs.Ranges.{most_events}
use Rattle.annex.specs.declared.Step.{Step}
use Rattle.annex.specs.Stepped.{last_time, stepped_figures}
use Rattle.annex.specs.Times.{minutes_in}
use Rattle.used_numbers.specs.Marks.{marked, marked_with}
use Rattle.fields.specs.declared.Head.{Head}
use Rattle.fields.specs.declared.Sheet.{Sheet}
use Rattle.fields.specs.Fields.{head_in, steps_in}
use Rattle.fields.specs.Tests.{head_listed}
use Rattle.codec.specs.Fits.{HeadInBytes, StepInBytes}
use Rattle.codec.proofs.DecodeLaws.{stepped_head, stepped_back, stepped_length, stepped_framed}
use Rattle.limits.specs.Limits.{exceeding, above_level, any_late}
use Rattle.verdict.specs.Verdict.{Verdict, event_verdict}
use Rattle.record.specs.Rules.{length_wrong, not_listed, time_wrong, count_too_large, count_too_high, already_marked, ledger_full}
use Rattle.record.specs.Verdict.{verdict_of}
use Rattle.ledger.specs.declared.Ledger.{Ledger}
use Rattle.ledger.specs.Ledger.{added}
use Rattle.ledger.specs.Take.{unsound, take_rules, answer_of}
use Rattle.ledger.proofs.TakeLaws.{accepted_verdict, accepted_adds}
use Rattle.book.specs.Book.{take_record}
use Rattle.desk_days.specs.Story.{SteppedEvent, stepped_event_in, record_of}

-- ---- what fits the bytes of a record

pub record InBytes (e : SteppedEvent) : Type 0 where
  pub head : HeadInBytes e.head
  pub steps : All StepInBytes e.steps

-- head and steps of the record are the event's
pub read_back : (e : SteppedEvent) → InBytes e → stepped_event_in (record_of e) ≡ e
read_back e f = λ t. record { head = stepped_head e.head e.steps f.head t; steps = stepped_back e.head e.steps f.steps t }

-- ---- an event that passes

-- what the book's rules ask of an event, but for map and room, under a sheet
pub record Passed (sheet : Sheet) (e : SteppedEvent) : Type 0 where
  pub there : sheet.there ≡ true
  pub head_listed_lem : head_listed e.head ≡ true
  pub begins : e.head.t0 < minutes_in sheet.year
  pub timely : any_late e.head.t0 e.steps ≡ false
  pub within : any (λ (st : Step). exceeding sheet.totals st.counts) e.steps ≡ false
  pub level : any (λ (st : Step). above_level (level_of e.head.voltage) st.counts) e.steps ≡ false
  pub few : length e.steps ≤ 64
  pub in_bytes : InBytes e

-- what a stepped record with the event's head, last time and figures adds
abbrev pub verdict_for : Sheet → SteppedEvent → Verdict
verdict_for sheet e = event_verdict sheet e.head (last_time e.head.t0 e.steps) (stepped_figures e.head.t0 e.steps)

module _ (l : Ledger) (m : List ℕ) (e : SteppedEvent) (p : Passed l.sheet e) (u : unsound l m ≡ false) (some : length e.steps ≢ 0)
    (new : marked m e.head.number ≡ false) (room : l.events < most_events) where
  no_rule : Clear (take_rules l m (record_of e))
  no_rule =
      let n : ℕ = length e.steps in
      let year : ℕ = minutes_in l.sheet.year in
      let few : n ≤ 64 = p.few in
      let h : head_in (record_of e) ≡ e.head = stepped_head e.head e.steps p.in_bytes.head in
      let ss : steps_in (record_of e) ≡ e.steps = stepped_back e.head e.steps p.in_bytes.steps in
      let long : length (record_of e) ≡ 14 + 16 * n = stepped_length e.head e.steps in
      let r4 : length_wrong 3 (record_of e) ≡ false =
      or_both (ltb (length (record_of e)) 14 || eqb n 0 || ltb 64 n) (not (eqb (length (record_of e)) (14 + 16 * n)))
      (or_both (ltb (length (record_of e)) 14 || eqb n 0) (ltb 64 n)
      (or_both (ltb (length (record_of e)) 14) (eqb n 0) (le-ltb (length (record_of e)) 14 (omega arith)) (ne_eqb n 0 some))
      (le-ltb 64 n few))
      (ap not (eq-eqb _ _ long)) in
      let r7 : not_listed 3 (record_of e) ≡ false = ap (λ (x : Head). not (head_listed x)) h ∙ ap not p.head_listed_lem in
      let r10 : time_wrong 3 (record_of e) l.sheet ≡ false =
      (λ i. leb year (h i).t0 || any_late (h i).t0 (ss i)) ∙
      or_both (leb year e.head.t0) (any_late e.head.t0 e.steps) (lt-leb year e.head.t0 p.begins) p.timely in
      let r11 : count_too_large 3 (record_of e) l.sheet ≡ false = ap (any (λ (st : Step). exceeding l.sheet.totals st.counts)) ss ∙ p.within in
      let r12 : count_too_high 3 (record_of e) ≡ false = (λ i. any (λ (st : Step). above_level (level_of (h i).voltage) st.counts) (ss i)) ∙ p.level in
      let r14 : already_marked 3 (record_of e) m ≡ false = ap (λ (x : Head). marked m x.number) h ∙ new in
      let r15 : ledger_full 3 l.events ≡ false = lt-leb most_events l.events room in
      (u, (ap not (stepped_framed e.head e.steps few), (refl, (r4, (ap not p.there, (refl, (r7, (r10, (r11, (r12, (refl, (r14, (r15, tt)))))))))))))

  -- its record is accepted
  pub record_accepted : answer_of l m (record_of e) ≡ 0
  unfolding answer_of
  record_accepted = unclear (take_rules l m (record_of e)) no_rule

  -- and adds the event, whose number it marks
  pub record_taken :
      take_record (record { ledger = l; map = m; refused = 0 }) (record_of e) ≡
      record { ledger = added l (verdict_for l.sheet e); map = marked_with m e.head.number; refused = 0 }
  unfolding take_record event_verdict
  record_taken =
      let a : answer_of l m (record_of e) ≡ 0 = record_accepted in
      let h : head_in (record_of e) ≡ e.head = stepped_head e.head e.steps p.in_bytes.head in
      let ss : steps_in (record_of e) ≡ e.steps = stepped_back e.head e.steps p.in_bytes.steps in
      let adds = accepted_adds l m (record_of e) a in
      let v : verdict_of (record_of e) l.sheet m l.events ≡ verdict_for l.sheet e =
      accepted_verdict l m (record_of e) a ∙ (λ i. event_verdict l.sheet (h i) (last_time (h i).t0 (ss i)) (stepped_figures (h i).t0 (ss i))) in
      λ i.
      record {
        ledger = (adds.0 ∙ ap (added l) v) i;
        map = (adds.1 ∙ ap (λ (w : Verdict). marked_with m w.number) v) i;
        refused = 0 + cond (eqb (a i) 0) 0 1;
      }
