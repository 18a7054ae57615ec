-- What a desk message tells and does, by its answer and its kind: the rules are read in their order, once, and later laws cite what is said here
-- and not the rules' places. Assumes nothing.
use Prim.Native.Nat.{ℕ, ◌+◌}
use mathlib.Core.Path.{◌≡◌, refl, ◌∙◌, ap, subst}
use mathlib.Core.Logic.{◌⊎◌}
use mathlib.Core.List.{List}
use mathlib.Core.Bool.{Bool, true, false, ◌||◌, not}
use lib.ListN.{length, set}
use lib.Seq.{set_out}
use lib.Dec.{eqb, ltb}
use native.Mathlib.Nat.{le_refl}
use borrow.Author.Tests.{eqb-true, eqb-false, leb-false, ltb-false, not-false}
use Rattle.base.specs.First.{NoRule, Clear, Foremost, Rising}
use Rattle.base.proofs.FirstLaws.{clear, clear_at, then}
use Rattle.base.proofs.TestLaws.{or_left, or_right, one_of_three}
use Rattle.wire.specs.Frame.{framed, kind_of}
use Rattle.codes.specs.Ranges.{most_events}
use Rattle.annex.specs.Times.{minutes_in}
use Rattle.used_numbers.specs.Marks.{marked, marked_with}
use Rattle.used_numbers.proofs.MarkLaws.{marked_with_zero}
use Rattle.fields.specs.Fields.{head_in}
use Rattle.fields.specs.Tests.{head_listed}
use Rattle.ledger.specs.declared.Ledger.{Ledger}
use Rattle.ledger.specs.Take.{unsound}
use Rattle.slot.specs.declared.Slot.{Slot}
use Rattle.slot.specs.Slot.{free_slot, opened_by, stepped_by}
use Rattle.desk_scan.specs.Desk.{slot_count, desk_sound, place_of, slot_of, number_in}
use Rattle.desk_rules.specs.Rules.{look_at, ordinal_in, step_in, by_message, kind_not_taken, rules, rules_at}
use Rattle.desk_rules.specs.Right.{OpenRight, StepRight, CloseRight}
use Rattle.desk_rules.specs.Plan.{Plan, refused_plan, ledger_closed, accepted_plan, look_answer}
use Rattle.desk_rules.specs.Serve.{message_answer, planned, ledger_served, map_served, desk_served}
use Rattle.desk_rules.proofs.PlanLaws.{plan_refused, plan_accepted}

-- ledger, map and desk after an accepted open (kind 16)
pub record Opened (l : Ledger) (m : List ℕ) (d : List Slot) (s : List ℕ) : Type 0 where
  pub ledger : ledger_served l m d s ≡ l
  pub map : map_served l m d s ≡ marked_with m (number_in s)
  pub desk : desk_served l m d s ≡ set d (place_of 0 d) (opened_by (head_in s))

-- after an accepted step (kind 17)
pub record Stepped (l : Ledger) (m : List ℕ) (d : List Slot) (s : List ℕ) : Type 0 where
  pub ledger : ledger_served l m d s ≡ l
  pub map : map_served l m d s ≡ m
  pub desk : desk_served l m d s ≡ set d (place_of (number_in s) d) (stepped_by (slot_of (number_in s) d) (step_in s))

-- after an accepted close (kind 18)
pub record Closed (l : Ledger) (m : List ℕ) (d : List Slot) (s : List ℕ) : Type 0 where
  pub ledger : ledger_served l m d s ≡ ledger_closed (look_at d s) l
  pub map : map_served l m d s ≡ m
  pub desk : desk_served l m d s ≡ set d (place_of (number_in s) d) free_slot

-- the kinds that are taken
pub kind_taken : (kind : ℕ) → kind_not_taken kind ≡ false → (kind ≡ 16) ⊎ ((kind ≡ 17) ⊎ (kind ≡ 18))
kind_taken kind e = one_of_three kind 16 17 18 (not-false (by_message kind true true true) e)

module _ (l : Ledger) (m : List ℕ) (d : List Slot) (s : List ℕ) where
  -- the numbers of the rules rise, and all are above 0
  pub rules_rise : Rising 0 (rules (look_at d s) l m s)
  rules_rise = (tt, (tt, (tt, (tt, (tt, (tt, (tt, (tt, (tt, (tt, (tt, (tt, (tt, (tt, tt))))))))))))))

  -- what it does, by its plan
  does : (p : Plan) → planned l m d s ≡ p → (ledger_served l m d s ≡ p.served.ledger) × (map_served l m d s ≡ marked_with m p.number) × (desk_served l m d s ≡ set d p.at p.slot)
  unfolding ledger_served map_served desk_served
  does p e = (ap (λ (p : Plan). p.served.ledger) e, ap (λ (p : Plan). marked_with m p.number) e, ap (λ (p : Plan). set d p.at p.slot) e)

  -- a refused message changes nothing
  pub refused_same : (message_answer l m d s ≡ 0 → ⊥) → (ledger_served l m d s ≡ l) × (map_served l m d s ≡ m) × (desk_served l m d s ≡ d)
  unfolding message_answer
  refused_same z =
      let e = does (refused_plan l (length d) (message_answer l m d s)) (plan_refused (look_at d s) (length d) l m s z) in
      (e.0, e.1 ∙ marked_with_zero m, e.2 ∙ set_out d (length d) free_slot (le_refl (length d)))

  -- no rule applies to an accepted message
  pub accepted_clear : message_answer l m d s ≡ 0 → Clear (rules (look_at d s) l m s)
  unfolding message_answer look_answer
  accepted_clear a = clear 0 (rules (look_at d s) l m s) rules_rise a

  -- none of any number does
  accepted_rules : message_answer l m d s ≡ 0 → NoRule (rules (look_at d s) l m s)
  accepted_rules a = clear_at (rules (look_at d s) l m s) (accepted_clear a)

  -- a rule that applies while none before it does is the answer
  pub answered : (n : ℕ) → Foremost n (rules (look_at d s) l m s) → message_answer l m d s ≡ n
  unfolding message_answer look_answer
  answered n f = then n (rules (look_at d s) l m s) f

  -- an accepted message is an open, a step or a close
  pub accepted_kind : message_answer l m d s ≡ 0 → (kind_of s ≡ 16) ⊎ ((kind_of s ≡ 17) ⊎ (kind_of s ≡ 18))
  accepted_kind a = kind_taken (kind_of s) (accepted_rules a 3)

  -- the rules of an accepted message, read at its kind
  rules_at_lem : (kind : ℕ) → message_answer l m d s ≡ 0 → kind_of s ≡ kind → NoRule (rules_at kind (look_at d s) l m s)
  rules_at_lem kind a k = subst (λ kind. NoRule (rules_at kind (look_at d s) l m s)) k (clear_at (rules_at (kind_of s) (look_at d s) l m s) (accepted_clear a).1.1)

  -- what it does, read at its kind
  accepted_does :
      (kind : ℕ) (p : Plan) →
      accepted_plan kind (look_at d s) l s ≡ p →
      message_answer l m d s ≡ 0 →
      kind_of s ≡ kind →
      (ledger_served l m d s ≡ p.served.ledger) × (map_served l m d s ≡ marked_with m p.number) × (desk_served l m d s ≡ set d p.at p.slot)
  unfolding message_answer
  accepted_does kind p e a k = does p (plan_accepted (look_at d s) (length d) l m s a ∙ ap (λ kind. accepted_plan kind (look_at d s) l s) k ∙ e)

  -- what every accepted message tells
  pub accepted_ledger_sound : message_answer l m d s ≡ 0 → unsound l m ≡ false
  accepted_ledger_sound a = or_left (unsound l m) (not (desk_sound d)) (accepted_rules a 1)

  pub accepted_desk_sound : message_answer l m d s ≡ 0 → desk_sound d ≡ true
  accepted_desk_sound a = not-false (desk_sound d) (or_right (unsound l m) (not (desk_sound d)) (accepted_rules a 1))

  pub accepted_whole : message_answer l m d s ≡ 0 → framed s ≡ true
  accepted_whole a = not-false (framed s) (accepted_rules a 2)

  -- of an accepted open, step or close all that is asked of its kind holds
  pub open_right : message_answer l m d s ≡ 0 → kind_of s ≡ 16 → OpenRight l m d s
  open_right a k =
      let c = rules_at_lem 16 a k in
      let used : (marked m (number_in s) || ltb (place_of (number_in s) d) slot_count) ≡ false = c 14 in
      record {
        ledger_sound = accepted_ledger_sound a;
        desk_sound_lem = accepted_desk_sound a;
        whole = accepted_whole a;
        long = eqb-true (length s) 13 (not-false (eqb (length s) 13) (c 4));
        sheet = not-false l.sheet.there (c 5);
        head_listed_lem = not-false (head_listed (head_in s)) (c 7);
        timely = leb-false (minutes_in l.sheet.year) (head_in s).t0 (c 10);
        unmarked = or_left (marked m (number_in s)) (ltb (place_of (number_in s) d) slot_count) used;
        not_open_lem = ltb-false (place_of (number_in s) d) slot_count (or_right (marked m (number_in s)) (ltb (place_of (number_in s) d) slot_count) used);
        room = leb-false slot_count (place_of 0 d) (c 16);
      }

  pub step_right : message_answer l m d s ≡ 0 → kind_of s ≡ 17 → StepRight l m d s
  step_right a k =
      let c = rules_at_lem 17 a k in
      let next : Bool = eqb (ordinal_in s) ((slot_of (number_in s) d).steps + 1) in
      let many : Bool = ltb 64 (ordinal_in s) in
      let count : (not next || many) ≡ false = c 9 in
      record {
        ledger_sound = accepted_ledger_sound a;
        desk_sound_lem = accepted_desk_sound a;
        whole = accepted_whole a;
        long = eqb-true (length s) 23 (not-false (eqb (length s) 23) (c 4));
        sheet = not-false l.sheet.there (c 5);
        numbered = eqb-false (number_in s) 0 (c 7);
        found = leb-false slot_count (place_of (number_in s) d) (c 8);
        ordinal = eqb-true (ordinal_in s) ((slot_of (number_in s) d).steps + 1) (not-false next (or_left (not next) many count));
        few = ltb-false 64 (ordinal_in s) (or_right (not next) many count);
        timely = c 10;
        within = c 11;
        level = c 12;
      }

  pub close_right : message_answer l m d s ≡ 0 → kind_of s ≡ 18 → CloseRight l m d s
  close_right a k =
      let c = rules_at_lem 18 a k in
      let none : Bool = eqb (ordinal_in s) 0 in
      let same : Bool = eqb (ordinal_in s) (slot_of (number_in s) d).steps in
      let count : (none || not same) ≡ false = c 9 in
      record {
        ledger_sound = accepted_ledger_sound a;
        desk_sound_lem = accepted_desk_sound a;
        whole = accepted_whole a;
        long = eqb-true (length s) 7 (not-false (eqb (length s) 7) (c 4));
        sheet = not-false l.sheet.there (c 5);
        numbered = eqb-false (number_in s) 0 (c 7);
        found = leb-false slot_count (place_of (number_in s) d) (c 8);
        some = eqb-false (ordinal_in s) 0 (or_left none (not same) count);
        all = eqb-true (ordinal_in s) (slot_of (number_in s) d).steps (not-false same (or_right none (not same) count));
        room = leb-false most_events l.events (c 15);
      }

  -- and it does what its record above says
  pub opened : message_answer l m d s ≡ 0 → kind_of s ≡ 16 → Opened l m d s
  opened a k =
      let does = accepted_does 16 (accepted_plan 16 (look_at d s) l s) refl a k in
      record { ledger = does.0; map = does.1; desk = does.2 }

  pub stepped : message_answer l m d s ≡ 0 → kind_of s ≡ 17 → Stepped l m d s
  stepped a k =
      let does = accepted_does 17 (accepted_plan 17 (look_at d s) l s) refl a k in
      record { ledger = does.0; map = does.1 ∙ marked_with_zero m; desk = does.2 }

  pub closed : message_answer l m d s ≡ 0 → kind_of s ≡ 18 → Closed l m d s
  closed a k =
      let does = accepted_does 18 (accepted_plan 18 (look_at d s) l s) refl a k in
      record { ledger = does.0; map = does.1 ∙ marked_with_zero m; desk = does.2 }
