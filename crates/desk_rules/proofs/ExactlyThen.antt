-- The theorem *exactly then* (01, "Refusal numbers"): a message is answered by a number exactly when what the number stands for applies and nothing that a
-- smaller number stands for does, and accepted exactly when nothing applies (`Foremost` computes to these facts, one by one); and no other number is
-- answered. Assumes nothing.
use Prim.Native.Nat.{ℕ, ◌+◌, ◌<◌}
use mathlib.Core.Path.{◌≡◌, refl, sym, ap, subst}
use mathlib.Core.Logic.{◌↔◌}
use mathlib.Core.List.{List, [], ◌∷◌}
use mathlib.Core.Bool.{Bool, true, false, not}
use lib.ListN.{length}
use lib.Dec.{eqb, ltb}
use borrow.Author.Tests.{eq-eqb, ne_eqb, lt-leb, le-ltb}
use Rattle.base.specs.First.{Rule, rule_of, Clear, Foremost}
use Rattle.base.specs.Lists.{listed}
use Rattle.base.proofs.FirstLaws.{exactly_then, answered_rule, passed_rule, unclear, first_listed}
use Rattle.base.proofs.TestLaws.{or_both}
use Rattle.wire.specs.Frame.{framed, kind_of}
use Rattle.codes.specs.Ranges.{most_events}
use Rattle.annex.specs.Times.{minutes_in}
use Rattle.used_numbers.specs.Marks.{marked}
use Rattle.fields.specs.Fields.{head_in}
use Rattle.ledger.specs.declared.Ledger.{Ledger}
use Rattle.ledger.specs.Take.{unsound}
use Rattle.slot.specs.declared.Slot.{Slot}
use Rattle.desk_scan.specs.Desk.{slot_count, desk_sound, place_of, slot_of, number_in}
use Rattle.desk_rules.specs.Rules.{look_at, ordinal_in, rules, rules_at}
use Rattle.desk_rules.specs.Right.{OpenRight, StepRight, CloseRight}
use Rattle.desk_rules.specs.Plan.{look_answer}
use Rattle.desk_rules.specs.Serve.{message_answer}
use Rattle.desk_rules.proofs.MessageLaws.{rules_rise, open_right, step_right, close_right}

module _ (l : Ledger) (m : List ℕ) (d : List Slot) (s : List ℕ) where
  abbrev rules_here : List Rule
  rules_here = rules (look_at d s) l m s

  -- n is answered exactly where what n stands for applies and no rule before it does, and 0 exactly where no rule applies
  pub exactly : (n : ℕ) → (message_answer l m d s ≡ n) ↔ Foremost n (rules (look_at d s) l m s)
  unfolding message_answer look_answer
  exactly n = exactly_then n rules_here (rules_rise l m d s)

  -- every answer is one of these numbers
  pub exactly_no_other : listed (message_answer l m d s) (0 ∷ 1 ∷ 2 ∷ 3 ∷ 4 ∷ 5 ∷ 7 ∷ 8 ∷ 9 ∷ 10 ∷ 11 ∷ 12 ∷ 14 ∷ 15 ∷ 16 ∷ []) ≡ true
  unfolding message_answer look_answer
  exactly_no_other = first_listed rules_here

  -- by the rules' numbers: where a number is answered, what it stands for applies, and nothing that a smaller number stands for
  pub number_applies : (n : ℕ) → message_answer l m d s ≡ n → (n ≡ 0 → ⊥) → rule_of n (rules (look_at d s) l m s) ≡ true
  unfolding message_answer look_answer
  number_applies n e z = answered_rule n rules_here e z 0 (rules_rise l m d s)

  pub passed_over : (n i : ℕ) → message_answer l m d s ≡ n → i < n → rule_of i (rules (look_at d s) l m s) ≡ false
  unfolding message_answer look_answer
  passed_over n i e below = passed_rule n i below rules_here e 0 (rules_rise l m d s)

  -- an open, a step and a close are each accepted exactly where the facts named for it hold, and nothing else is asked of it
  accepted_at_lem :
      (kind : ℕ) →
      kind_of s ≡ kind →
      unsound l m ≡ false →
      desk_sound d ≡ true →
      framed s ≡ true →
      Clear (rules_at kind (look_at d s) l m s) →
      message_answer l m d s ≡ 0
  unfolding message_answer look_answer
  accepted_at_lem kind k sound desk whole c =
      unclear (rules (look_at d s) l m s) (
        or_both (unsound l m) (not (desk_sound d)) sound (ap not desk),
        (ap not whole, subst (λ kind. Clear (rules_at kind (look_at d s) l m s)) (sym k) c),
      )

  pub exactly_open : kind_of s ≡ 16 → (message_answer l m d s ≡ 0) ↔ OpenRight l m d s
  exactly_open k = ((λ a. open_right l m d s a k), back)
    where
      back : OpenRight l m d s → message_answer l m d s ≡ 0
      back r =
          let by4 = ap not (eq-eqb (length s) 13 r.long) in
          let by5 = ap not r.sheet in
          let by7 = ap not r.head_listed_lem in
          let by10 = lt-leb (minutes_in l.sheet.year) (head_in s).t0 r.timely in
          let by14 =
          or_both (marked m (number_in s)) (ltb (place_of (number_in s) d) slot_count) r.unmarked (le-ltb (place_of (number_in s) d) slot_count r.not_open_lem) in
          let by16 = lt-leb slot_count (place_of 0 d) r.room in
          accepted_at_lem 16 k r.ledger_sound r.desk_sound_lem r.whole
          (refl, (by4, (by5, (by7, (refl, (refl, (by10, (refl, (refl, (by14, (refl, (by16, tt))))))))))))

  pub exactly_step : kind_of s ≡ 17 → (message_answer l m d s ≡ 0) ↔ StepRight l m d s
  exactly_step k = ((λ a. step_right l m d s a k), back)
    where
      back : StepRight l m d s → message_answer l m d s ≡ 0
      back r =
          let next : Bool = eqb (ordinal_in s) ((slot_of (number_in s) d).steps + 1) in
          let by4 = ap not (eq-eqb (length s) 23 r.long) in
          let by5 = ap not r.sheet in
          let by7 = ne_eqb (number_in s) 0 r.numbered in
          let by8 = lt-leb slot_count (place_of (number_in s) d) r.found in
          let by9 = or_both (not next) (ltb 64 (ordinal_in s)) (ap not (eq-eqb _ _ r.ordinal)) (le-ltb 64 (ordinal_in s) r.few) in
          accepted_at_lem 17 k r.ledger_sound r.desk_sound_lem r.whole
          (refl, (by4, (by5, (by7, (by8, (by9, (r.timely, (r.within, (r.level, (refl, (refl, (refl, tt))))))))))))

  pub exactly_close : kind_of s ≡ 18 → (message_answer l m d s ≡ 0) ↔ CloseRight l m d s
  exactly_close k = ((λ a. close_right l m d s a k), back)
    where
      back : CloseRight l m d s → message_answer l m d s ≡ 0
      back r =
          let taken : Bool = eqb (ordinal_in s) (slot_of (number_in s) d).steps in
          let by4 = ap not (eq-eqb (length s) 7 r.long) in
          let by5 = ap not r.sheet in
          let by7 = ne_eqb (number_in s) 0 r.numbered in
          let by8 = lt-leb slot_count (place_of (number_in s) d) r.found in
          let by9 = or_both (eqb (ordinal_in s) 0) (not taken) (ne_eqb (ordinal_in s) 0 r.some) (ap not (eq-eqb _ _ r.all)) in
          let by15 = lt-leb most_events l.events r.room in
          accepted_at_lem 18 k r.ledger_sound r.desk_sound_lem r.whole
          (refl, (by4, (by5, (by7, (by8, (by9, (refl, (refl, (refl, (refl, (by15, (refl, tt))))))))))))
