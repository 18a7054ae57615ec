-- Anything unsound is 1, an unframed message is 2; a framed one goes by its kind, and kinds other than 16, 17 and 18 are 3. Assumes nothing.
use Prim.Native.Nat.{ℕ}
use mathlib.Core.Path.{◌≡◌, refl, sym, ap, ◌∙◌}
use mathlib.Core.Bool.{Bool, true, false, ◌&&◌, ◌||◌, not}
use mathlib.Core.List.{List}
use lib.ListN.{length}
use lib.Dec.{eqb}
use borrow.Author.Tests.{eqb-false, not-false}
use native.Mathlib.Omega.{arith}
use Rattle.base.proofs.TestLaws.{and_right, or_left, or_right}
use Rattle.wire.specs.Frame.{framed, kind_of}
use Rattle.used_numbers.specs.Marks.{map_size}
use Rattle.ledger.specs.declared.Ledger.{Ledger}
use Rattle.ledger.specs.Sound.{sound_ledger}
use Rattle.slot.specs.Sound.{slot_sound}
use Rattle.desk_scan.specs.Inside.{roll_sound}
use Rattle.desk_rules.specs.declared.Seen.{Seen}
use Rattle.desk_rules.specs.Inside.{look_seen, plan_seen_at}
use Rattle.desk_rules.specs.Rules.{by_message, any_unsound}
use Rattle.desk_rules.proofs.PlanLaws.{plan_unsound, plan_unframed, plan_by_kind, refused_by}
use Rattle.desk_rules.proofs.Seen.decide.Goals as goal

module _ (d : Seen) (l : Ledger) (m s : List ℕ) where
  -- the three tests of soundness, as code makes them, are the rule numbered 1
  tested :
      (ledger held slot t : Bool) →
      ledger ≡ sound_ledger l →
      held ≡ roll_sound d.slots d.roll →
      slot ≡ slot_sound d.slot →
      (not (eqb (length m) map_size) || not ledger || not (held && slot)) ≡ t →
      any_unsound (look_seen d s) l m ≡ t
  tested ledger held slot t a b c e = sym (λ i. not (eqb (length m) map_size) || not (a i) || not (b i && c i)) ∙ e

  -- where it does not apply the slot and the ledger are sound
  fine_slot : any_unsound (look_seen d s) l m ≡ false → slot_sound d.slot ≡ true
  fine_slot fine =
      and_right (roll_sound d.slots d.roll) _ (not-false _ (or_right (not (eqb (length m) map_size) || not (sound_ledger l)) _ fine))

  fine_ledger : any_unsound (look_seen d s) l m ≡ false → sound_ledger l ≡ true
  fine_ledger fine =
      not-false _ (or_right (not (eqb (length m) map_size)) _ (or_left (not (eqb (length m) map_size) || not (sound_ledger l)) _ fine))

  -- a framed message goes by its kind
  by_its_kind :
      (kind n : ℕ) →
      any_unsound (look_seen d s) l m ≡ false →
      framed s ≡ true →
      kind ≡ kind_of s →
      kind ≡ n →
      plan_seen_at n d l m s ≡ plan_seen_at (kind_of s) d l m s
  by_its_kind kind n fine f k e = ap (λ n. plan_seen_at n d l m s) (sym e ∙ k)

pub returns-then-map-sound : goal.returns-then-map-sound
returns-then-map-sound c =
    let a = c.args in
    let d = a.self.now in
    let s = a.bytes.now in
    sym
    (plan_unsound (look_seen d s) d.slots a.ledger a.map.now s
    (tested d a.ledger a.map.now s _ _ _ true c.sound-2.ensures c.holds.ensures c.sound.ensures c.if-map-sound.true))

pub returns-then-not-is_framed : goal.returns-then-not-is_framed
returns-then-not-is_framed c =
    let a = c.args in
    let d = a.self.now in
    let s = a.bytes.now in
    let fine = tested d a.ledger a.map.now s _ _ _ false c.sound-2.ensures c.holds.ensures c.sound.ensures c.if-map-sound.false in
    sym (plan_unframed (look_seen d s) d.slots a.ledger a.map.now s fine (sym c.is_framed.ensures ∙ c.if-not-is_framed.true))

pub returns-in-16 : goal.returns-in-16
returns-in-16 c =
    let a = c.args in
    let d = a.self.now in
    let s = a.bytes.now in
    let fine = tested d a.ledger a.map.now s _ _ _ false c.sound-2.ensures c.holds.ensures c.sound.ensures c.if-map-sound.false in
    let f = sym c.is_framed.ensures ∙ c.if-not-is_framed.false in
    c.open.ensures ∙
    by_its_kind d a.ledger a.map.now s _ 16 fine f c.kind_of.ensures c.in-16.is ∙
    sym (plan_by_kind (look_seen d s) d.slots a.ledger a.map.now s fine f)

pub step-requires : goal.step-requires
step-requires c =
    let a = c.args in
    fine_slot a.self.now a.ledger a.map.now a.bytes.now
    (tested a.self.now a.ledger a.map.now a.bytes.now _ _ _ false c.sound-2.ensures c.holds.ensures c.sound.ensures c.if-map-sound.false)

pub returns-in-17 : goal.returns-in-17
returns-in-17 c =
    let a = c.args in
    let d = a.self.now in
    let s = a.bytes.now in
    let fine = tested d a.ledger a.map.now s _ _ _ false c.sound-2.ensures c.holds.ensures c.sound.ensures c.if-map-sound.false in
    let f = sym c.is_framed.ensures ∙ c.if-not-is_framed.false in
    c.step.ensures a.map.now ∙
    by_its_kind d a.ledger a.map.now s _ 17 fine f c.kind_of.ensures c.in-17.is ∙
    sym (plan_by_kind (look_seen d s) d.slots a.ledger a.map.now s fine f)

pub close-requires : goal.close-requires
close-requires c =
    let a = c.args in
    let fine = tested a.self.now a.ledger a.map.now a.bytes.now _ _ _ false c.sound-2.ensures c.holds.ensures c.sound.ensures c.if-map-sound.false in
    record { slot = fine_slot a.self.now a.ledger a.map.now a.bytes.now fine; ledger = fine_ledger a.self.now a.ledger a.map.now a.bytes.now fine }

pub returns-in-18 : goal.returns-in-18
returns-in-18 c =
    let a = c.args in
    let d = a.self.now in
    let s = a.bytes.now in
    let fine = tested d a.ledger a.map.now s _ _ _ false c.sound-2.ensures c.holds.ensures c.sound.ensures c.if-map-sound.false in
    let f = sym c.is_framed.ensures ∙ c.if-not-is_framed.false in
    c.close.ensures a.map.now ∙
    by_its_kind d a.ledger a.map.now s _ 18 fine f c.kind_of.ensures c.in-18.is ∙
    sym (plan_by_kind (look_seen d s) d.slots a.ledger a.map.now s fine f)

pub returns-in_default : goal.returns-in_default
returns-in_default c =
    let a = c.args in
    let d = a.self.now in
    let s = a.bytes.now in
    let fine = tested d a.ledger a.map.now s _ _ _ false c.sound-2.ensures c.holds.ensures c.sound.ensures c.if-map-sound.false in
    let f = sym c.is_framed.ensures ∙ c.if-not-is_framed.false in
    let k = c.kind_of.ensures in
    let none : by_message (kind_of s) true true true ≡ false = grind arith in
    sym (refused_by (kind_of s) (look_seen d s) d.slots a.ledger a.map.now s 3 (ap not none) (eqb-false 3 0 refl)) ∙
    sym (plan_by_kind (look_seen d s) d.slots a.ledger a.map.now s fine f)
