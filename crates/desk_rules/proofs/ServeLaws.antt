-- A plan does what the entry's rules say: the plan from a roll is the plan from the desk, and its answer, ledger, map and desk are those of the
-- message. Where the desk is unsound both plans refuse with 1; where it is sound it has 32 slots, and of these the roll tells all that is asked.
-- Assumes nothing.
use Prim.Native.Nat.{ℕ}
use mathlib.Core.Path.{◌≡◌, refl, sym, ◌∙◌, ap}
use mathlib.Core.Logic.{◌≢◌}
use mathlib.Core.List.{List, ◌∷◌}
use mathlib.Core.Bool.{Bool, true, false, ◌&&◌, ◌||◌, not, cond, or-true}
use lib.ListN.{length, get_or, set}
use lib.Seq.{set_out}
use lib.Dec.{ltb, eqb}
use native.Mathlib.Omega.{arith}
use native.Mathlib.Nat.{le_refl}
use borrow.Author.Tests.{eqb-true, ltb-false, ne_eqb}
use Rattle.std.specs.Prelude.{Some, None, Result, Ok, Err}
use Rattle.std.proofs.lemmas.List.{get_or_past}
use Rattle.base.specs.First.{first}
use Rattle.base.specs.Lists.{every, place}
use Rattle.base.proofs.TestLaws.{Tested, holds, fails, test}
use Rattle.refusals.specs.declared.Refusal.{Refusal}
use Rattle.refusals.proofs.NumberLaws.{no_refusal_0, same_refusal}
use Rattle.wire.specs.Frame.{kind_of}
use Rattle.used_numbers.specs.Marks.{marked_with}
use Rattle.used_numbers.proofs.MarkLaws.{marked_with_zero}
use Rattle.record.specs.Rules.{unframed}
use Rattle.ledger.specs.declared.Ledger.{Ledger}
use Rattle.ledger.specs.Take.{unsound}
use Rattle.slot.specs.declared.Slot.{Slot}
use Rattle.slot.specs.Slot.{free_slot}
use Rattle.slot.specs.Sound.{slot_sound}
use Rattle.desk_scan.specs.Desk.{slot_count, numbers_of, differ, desk_sound, number_in}
use Rattle.desk_scan.specs.Inside.{roll_of, roll_sound, found, place_named}
use Rattle.desk_scan.proofs.SearchLaws.{desk_each, desk_slots, sound_at}
use Rattle.desk_scan.proofs.RollLaws.{roll_is, place_named_lem, place_free}
use Rattle.desk_rules.specs.Inside.{look_by, plan_by, slot_found, seen_of, look_seen, plan_seen, planned_in}
use Rattle.desk_rules.specs.declared.Plan.{Plan as Accepted}
use Rattle.desk_rules.specs.Rules.{Look, look_at, rules_at}
use Rattle.desk_rules.specs.Plan.{Served, Plan, refused_plan, accepted_plan, look_answer, plan_of}
use Rattle.desk_rules.specs.Serve.{message_answer, planned, ledger_served, map_served, desk_served, served_of, served_in}
use Rattle.desk_rules.proofs.MessageLaws.{refused_same}
use Rattle.desk_rules.proofs.PlanLaws.{plan_answer}

-- ---- what is found of a desk

-- an unsound desk is refused with 1
pub unsound_answer : (k : Look) (l : Ledger) (m s : List ℕ) → k.sound ≡ false → look_answer k l m s ≡ 1
unfolding look_answer
unsound_answer k l m s e =
    ap (λ t. cond t 1 (first ((2, unframed s) ∷ rules_at (kind_of s) k l m s))) (ap (λ t. unsound l m || not t) e ∙ or-true (unsound l m))

pub unsound_plan : (k : Look) (slots : ℕ) (l : Ledger) (m s : List ℕ) → k.sound ≡ false → plan_of k slots l m s ≡ refused_plan l slots 1
unfolding plan_of
unsound_plan k slots l m s e = ap (λ n. cond (eqb n 0) (accepted_plan (kind_of s) k l s) (refused_plan l slots n)) (unsound_answer k l m s e)

-- the slot that was taken out is sound where the desk is
look_sound : (d : List Slot) (i : ℕ) → (roll_sound (length d) (roll_of d) && slot_sound (get_or d i free_slot)) ≡ desk_sound d
look_sound d i = ap (λ t. t && slot_sound (get_or d i free_slot)) (roll_is d) ∙ go (desk_sound d) refl
  where
    go : (t : Bool) → desk_sound d ≡ t → (t && slot_sound (get_or d i free_slot)) ≡ t
    go true e = sound_at d (desk_each d e) i
    go false e = refl

-- of a desk of 32 slots the roll tells the same
pub look_is : (d : List Slot) (s : List ℕ) → length d ≡ slot_count → look_by (length d) (roll_of d) (get_or d (place_named (roll_of d) s) free_slot) s ≡ look_at d s
look_is d s e =
    λ i.
    record {
      sound = look_sound d (place_named (roll_of d) s) i;
      passed = place_named_lem d s e i;
      gap = place_free d e i;
      slot = get_or d (place_named_lem d s e i) free_slot;
    }

-- ---- the plan

-- whatever the desk, the plan from its roll and the slot that was taken out is the plan from the desk
pub plan_is : (l : Ledger) (m : List ℕ) (d : List Slot) (s : List ℕ) → plan_by (length d) (roll_of d) (get_or d (place_named (roll_of d) s) free_slot) l m s ≡ plan_of (look_at d s) (length d) l m s
plan_is l m d s = go (desk_sound d) refl
  where
    go : (t : Bool) → desk_sound d ≡ t → plan_by (length d) (roll_of d) (get_or d (place_named (roll_of d) s) free_slot) l m s ≡ plan_of (look_at d s) (length d) l m s
    go true e = ap (λ k. plan_of k (length d) l m s) (look_is d s (desk_slots d e))
    go false e =
        unsound_plan (look_by (length d) (roll_of d) (get_or d (place_named (roll_of d) s) free_slot) s) (length d) l m s (look_sound d (place_named (roll_of d) s) ∙ e) ∙
        sym (unsound_plan (look_at d s) (length d) l m s e)

-- the slot that was found is the one at the search's end, where the desk has as many slots as its roll
slot_is : (d : List Slot) (v : ℕ) (t : List ℕ) → length d ≡ slot_count → slot_found d (found v t) ≡ get_or d (place v t) free_slot
slot_is d v t e = go (ltb (place v t) slot_count) refl
  where
    go : (b : Bool) → ltb (place v t) slot_count ≡ b → slot_found d (cond b (Some (place v t)) None) ≡ get_or d (place v t) free_slot
    go true l = refl
    go false l = sym (get_or_past d (place v t) free_slot (omega (arith, e, ltb-false (place v t) slot_count l)))

-- so what a message sees of a desk has the plan of the desk: one that is not 32 slots is unsound, whatever slot was found
pub plan_seen_is : (l : Ledger) (m : List ℕ) (d : List Slot) (s : List ℕ) → plan_seen (seen_of d s) l m s ≡ plan_of (look_at d s) (length d) l m s
unfolding desk_sound
plan_seen_is l m d s = go (test (eqb (length d) slot_count))
  where
    go : Tested (eqb (length d) slot_count) → plan_seen (seen_of d s) l m s ≡ plan_of (look_at d s) (length d) l m s
    go (holds e) =
        ap (λ slot. plan_by (length d) (roll_of d) slot l m s) (slot_is d (number_in s) (roll_of d).numbers (eqb-true _ _ e)) ∙
        plan_is l m d s
    go (fails e) =
        unsound_plan (look_seen (seen_of d s) s) (length d) l m s (ap (λ t. (t && (roll_of d).sound && differ (roll_of d).numbers) && slot_sound (seen_of d s).slot) e) ∙
        sym (unsound_plan (look_at d s) (length d) l m s (ap (λ t. t && every slot_sound d && differ (numbers_of d)) e))

-- ---- what the plan does

module _ (l : Ledger) (m : List ℕ) (d : List Slot) (s : List ℕ) where
  -- the plan's answer and ledger, the map with its number marked, and the desk with its slot put are those of the message
  pub plan_served : (planned l m d s).served ≡ served_of l m d s
  unfolding message_answer ledger_served
  plan_served = λ i. record { answer = plan_answer (look_at d s) (length d) l m s i; ledger = (planned l m d s).served.ledger }

  pub plan_map : marked_with m (planned l m d s).number ≡ map_served l m d s
  unfolding map_served
  plan_map = refl

  pub plan_desk : set d (planned l m d s).at (planned l m d s).slot ≡ desk_served l m d s
  unfolding desk_served
  plan_desk = refl

-- what an outcome does is what the message does, where its plan is the message's: a refusal leaves ledger, map and desk as they were
module _ (l : Ledger) (m : List ℕ) (d : List Slot) (s : List ℕ) where
  pub refusal_served :
      (r : Refusal) →
      planned_in l (length d) (Err r) ≡ planned l m d s →
      (served_in l (Err r) ≡ served_of l m d s) × (m ≡ map_served l m d s) × (d ≡ desk_served l m d s)
  refusal_served r e = (
    ap (λ (p : Plan). p.served) e ∙ plan_served l m d s,
    sym (marked_with_zero m) ∙ ap (λ (p : Plan). marked_with m p.number) e ∙ plan_map l m d s,
    sym (set_out d (length d) free_slot (le_refl (length d))) ∙ ap (λ (p : Plan). set d p.at p.slot) e ∙ plan_desk l m d s,
  )

  pub plan_carried_out :
      (p : Accepted) →
      planned_in l (length d) (Ok p) ≡ planned l m d s →
      (served_in l (Ok p.ledger) ≡ served_of l m d s) × (marked_with m p.number ≡ map_served l m d s) × (set d p.at p.slot ≡ desk_served l m d s)
  plan_carried_out p e = (
    ap (λ (p : Plan). p.served) e ∙ plan_served l m d s,
    ap (λ (p : Plan). marked_with m p.number) e ∙ plan_map l m d s,
    ap (λ (p : Plan). set d p.at p.slot) e ∙ plan_desk l m d s,
  )

-- no two outcomes come to the same for a caller that holds the ledger
pub same_served : (l : Ledger) (x y : Result Ledger Refusal) → served_in l x ≡ served_in l y → x ≡ y
same_served l (Ok a) (Ok b) same = ap (λ (t : Served). Ok t.ledger) same
same_served l (Ok a) (Err s) same = absurd (no_refusal_0 s (sym (ap (λ (t : Served). t.answer) same)))
same_served l (Err r) (Ok b) same = absurd (no_refusal_0 r (ap (λ (t : Served). t.answer) same))
same_served l (Err r) (Err s) same = ap (λ t. Err t) (same_refusal r s (ap (λ (t : Served). t.answer) same))

-- ---- a desk that is not 32 slots

-- it is refused with 1 whatever its slots hold, and ledger, map and desk stay as they were
module _ (l : Ledger) (m : List ℕ) (d : List Slot) (s : List ℕ) (other : length d ≢ slot_count) where
  other_unsound : desk_sound d ≡ false
  unfolding desk_sound
  other_unsound = ap (λ t. t && every slot_sound d && differ (numbers_of d)) (ne_eqb (length d) slot_count other)

  pub other_answer : message_answer l m d s ≡ 1
  unfolding message_answer
  other_answer = unsound_answer (look_at d s) l m s other_unsound

  other_same : (ledger_served l m d s ≡ l) × (map_served l m d s ≡ m) × (desk_served l m d s ≡ d)
  other_same = refused_same l m d s (λ z. omega (arith, other_answer))

  pub other_served : served_of l m d s ≡ record { answer = 1; ledger = l }
  other_served = λ i. record { answer = other_answer i; ledger = other_same.0 i }

  pub other_map : map_served l m d s ≡ m
  other_map = other_same.1

  pub other_desk : desk_served l m d s ≡ d
  other_desk = other_same.2
