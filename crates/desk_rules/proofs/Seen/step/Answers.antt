-- A step of another length is 4. Else the first of its tests that applies is the answer, and a step to which none applies changes the slot that holds
-- its number. Assumes nothing.
use Prim.Native.Nat.{ℕ, ◌+◌, ◌≤◌}
use mathlib.Core.Path.{◌≡◌, refl, sym, ap, ◌∙◌, subst⁻¹}
use mathlib.Core.Bool.{◌||◌, not}
use mathlib.Core.List.{List, []}
use lib.Dec.{leb, ltb, eqb}
use borrow.Author.Tests.{eq-eqb, ne_eqb, eqb-false}
use Rattle.std.proofs.lemmas.Result.{err_from_is_err_and}
use Rattle.base.specs.First.{first}
use Rattle.refusals.specs.Refusals.{answer_in}
use Rattle.codes.specs.Ranges.{latest}
use Rattle.annex.specs.declared.Step.{Step}
use Rattle.fields.specs.declared.Sheet.{Sheet}
use Rattle.slot.specs.Slot.{stepped_by}
use Rattle.slot.proofs.SoundLaws.{sound_room, sound_steps}
use Rattle.desk_scan.specs.Inside.{place_named}
use Rattle.desk_rules.specs.declared.Seen.{Seen}
use Rattle.desk_rules.specs.Rules.{ordinal_in, step_in, sheet_missing, not_listed, not_open, count_wrong}
use Rattle.desk_rules.specs.Inside.{look_seen, answer_at, named_tests, step_tests}
use Rattle.desk_rules.proofs.PlanLaws.{refused_by, at_accepted, step_timely, err_refused, ok_answers_0, shared, step_refused, step_let_in}
use Rattle.desk_rules.proofs.Seen.step.Goals as goal

-- the tests that it shares with a close, at the ordinal that was read
at_ordinal : (d : Seen) (sheet : Sheet) (s : List ℕ) (ordinal n : ℕ) → n ≡ first (named_tests sheet s (place_named d.roll s) (not (eqb ordinal (d.slot.steps + 1)) || ltb 64 ordinal)) → ordinal ≡ ordinal_in s → n ≡ first (named_tests sheet s (place_named d.roll s) (count_wrong 17 (look_seen d s) s))
at_ordinal d sheet s ordinal n e o = e ∙ ap (λ o. first (named_tests sheet s (place_named d.roll s) (not (eqb o (d.slot.steps + 1)) || ltb 64 o))) o

pub returns-then-bytes-ne23 : goal.returns-then-bytes-ne23
returns-then-bytes-ne23 c m =
    let a = c.args in
    let s = a.bytes.now in
    sym (refused_by 17 (look_seen a.self.now s) a.self.now.slots a.ledger m s 4 (refl, ap not (ne_eqb _ _ c.if-bytes-ne23.true)) (eqb-false 4 0 refl))

pub returns-in_err-at : goal.returns-in_err-at
returns-in_err-at c m =
    let a = c.args in
    let s = a.bytes.now in
    let answered = at_ordinal a.self.now a.ledger.sheet s _ _ c.admit_named.ensures.answer c.byte_at-ordinal.ensures in
    let p = err_from_is_err_and c.from_residual.result c.from_residual.ensures.1 in
    rw (p.1, p.2)
    (step_refused (look_seen a.self.now s) a.ledger m s a.self.now.slots c.admit_named.result (ap not (eq-eqb _ _ c.if-bytes-ne23.false)) answered _ c.in_err-at.was)

pub returns-in_err-admit_step : goal.returns-in_err-admit_step
returns-in_err-admit_step c m =
    let a = c.args in
    let s = a.bytes.now in
    let look = look_seen a.self.now s in
    let shared_ones = at_ordinal a.self.now a.ledger.sheet s _ _ c.admit_named.ensures.answer c.byte_at-ordinal.ensures in
    let answered : answer_in c.admit_step.result ≡ answer_at 17 look a.ledger m s =
    c.admit_step.ensures ∙
    ap (λ (t : Step). first (step_tests t a.ledger.sheet a.self.now.slot)) c.step_at-step.ensures ∙
    sym (step_let_in look a.ledger m s a.self.now.slots c.admit_named.result (ap not (eq-eqb _ _ c.if-bytes-ne23.false)) shared_ones _ c.in_ok-at.was) in
    let p = err_from_is_err_and c.from_residual-in_err-admit_step.result c.from_residual-in_err-admit_step.ensures.1 in
    rw (p.1, p.2) (err_refused 17 look a.self.now.slots a.ledger m s c.admit_step.result answered _ c.in_err-admit_step.was)

pub stepped-requires : goal.stepped-requires
stepped-requires c =
    let a = c.args in
    let s = a.bytes.now in
    let look = look_seen a.self.now s in
    let shared_ones = at_ordinal a.self.now a.ledger.sheet s _ _ c.admit_named.ensures.answer c.byte_at-ordinal.ensures in
    let answered : answer_in c.admit_step.result ≡ answer_at 17 look a.ledger [] s =
    c.admit_step.ensures ∙
    ap (λ (t : Step). first (step_tests t a.ledger.sheet a.self.now.slot)) c.step_at-step.ensures ∙
    sym (step_let_in look a.ledger [] s a.self.now.slots c.admit_named.result (ap not (eq-eqb _ _ c.if-bytes-ne23.false)) shared_ones _ c.in_ok-at.was) in
    let zero = ok_answers_0 17 look a.self.now.slots a.ledger [] s c.admit_step.result answered _ c.in_ok-admit_step.was in
    let now =
    subst⁻¹ (λ (t : Step). (a.self.now.slot.last ≤ t.time) × (t.time ≤ latest)) c.step_at-step.ensures
    (step_timely look a.ledger [] s zero) in
    (record { room = sound_room a.self.now.slot c.requires; order = now.0; ends = now.1 }, sound_steps a.self.now.slot c.requires)

pub returns : goal.returns
returns c m =
    let a = c.args in
    let s = a.bytes.now in
    let look = look_seen a.self.now s in
    let shared_ones = at_ordinal a.self.now a.ledger.sheet s _ _ c.admit_named.ensures.answer c.byte_at-ordinal.ensures in
    let answered : answer_in c.admit_step.result ≡ answer_at 17 look a.ledger m s =
    c.admit_step.ensures ∙
    ap (λ (t : Step). first (step_tests t a.ledger.sheet a.self.now.slot)) c.step_at-step.ensures ∙
    sym (step_let_in look a.ledger m s a.self.now.slots c.admit_named.result (ap not (eq-eqb _ _ c.if-bytes-ne23.false)) shared_ones _ c.in_ok-at.was) in
    let slot = c.stepped.ensures ∙ ap (stepped_by a.self.now.slot) c.step_at-step.ensures in
    (λ i. record { served = record { answer = 0; ledger = a.ledger }; at = c.in_ok-at.ensures.found i; slot = slot i; number = 0 }) ∙
    sym
    (at_accepted 17 look a.self.now.slots a.ledger m s
    (ok_answers_0 17 look a.self.now.slots a.ledger m s c.admit_step.result answered _ c.in_ok-admit_step.was))
