-- An unsound ledger or a map of another size is 1. Else the record is judged, and its verdict is marked and added: a refused one marks and adds
-- nothing. Assumes nothing.
use mathlib.Core.Path.{◌≡◌, refl, sym, ap, ◌∙◌, subst⁻¹}
use mathlib.Core.Bool.{false, ◌||◌, not}
use lib.ListN.{length}
use lib.Dec.{eqb}
use borrow.Author.Tests.{eqb-false, not-false}
use Rattle.base.proofs.TestLaws.{or_right}
use Rattle.std.proofs.lemmas.Result.{err_from_is_err_and}
use Rattle.refusals.specs.Refusals.{answer_in}
use Rattle.refusals.proofs.NumberLaws.{no_refusal_0}
use Rattle.used_numbers.specs.Marks.{marked_with, map_size}
use Rattle.verdict.specs.Verdict.{Verdict}
use Rattle.verdict.specs.Judged.{judged}
use Rattle.ledger.specs.Ledger.{added}
use Rattle.ledger.specs.Inside.{Fits}
use Rattle.ledger.specs.Take.{unsound}
use Rattle.ledger.proofs.TakeLaws.{answer_1, refused_hands_back, accepted_adds, judged_number}
use Rattle.ledger.proofs.SoundLaws.{verdict_fits}
use Rattle.ledger.proofs.Ledger.take.Goals as goal

pub returns-then-map-sound : goal.returns-then-map-sound
returns-then-map-sound c =
    let tested : (not (eqb (length c.args.map.now) map_size) || not c.sound.result) ≡ unsound c.args.self c.args.map.now = λ i. not (eqb (length c.args.map.now) map_size) || not (c.sound.ensures i) in
    let a = c.args in
    let s = a.bytes.now in
    let e = answer_1 a.self a.map.now s (sym tested ∙ c.if-map-sound.true) in
    let h = refused_hands_back a.self a.map.now s (λ z. eqb-false 1 0 refl (sym e ∙ z)) in
    ((λ i. record { answer = sym e i; ledger = sym h.0 i }), sym h.1)

pub returns-in_err-accepted : goal.returns-in_err-accepted
returns-in_err-accepted c =
    let tested : (not (eqb (length c.args.map.now) map_size) || not c.sound.result) ≡ unsound c.args.self c.args.map.now = λ i. not (eqb (length c.args.map.now) map_size) || not (c.sound.ensures i) in
    let fine : unsound c.args.self c.args.map.now ≡ false = sym tested ∙ c.if-map-sound.false in
    let a = c.args in
    let s = a.bytes.now in
    let number = sym (judged_number a.self a.map.now s fine c.judge.result c.judge.ensures) ∙ ap answer_in c.in_err-accepted.was in
    let h = refused_hands_back a.self a.map.now s (λ z. no_refusal_0 _ (sym number ∙ z)) in
    let p = err_from_is_err_and c.from_residual.result c.from_residual.ensures.1 in
    rw (p.1, p.2) ((λ i. record { answer = sym number i; ledger = sym h.0 i }), sym h.1)

pub add-requires : goal.add-requires
add-requires c =
    let tested : (not (eqb (length c.args.map.now) map_size) || not c.sound.result) ≡ unsound c.args.self c.args.map.now = λ i. not (eqb (length c.args.map.now) map_size) || not (c.sound.ensures i) in
    let fine : unsound c.args.self c.args.map.now ≡ false = sym tested ∙ c.if-map-sound.false in
    let a = c.args in
    let sound = not-false _ (or_right (not (eqb (length a.map.now) map_size)) _ fine) in
    let v = ap (judged a.self.sheet) (sym c.in_ok-accepted.was) ∙ c.judge.ensures in
    subst⁻¹ (Fits a.self) v (verdict_fits a.self a.map.now a.bytes.now sound)

pub returns : goal.returns
returns c =
    let tested : (not (eqb (length c.args.map.now) map_size) || not c.sound.result) ≡ unsound c.args.self c.args.map.now = λ i. not (eqb (length c.args.map.now) map_size) || not (c.sound.ensures i) in
    let fine : unsound c.args.self c.args.map.now ≡ false = sym tested ∙ c.if-map-sound.false in
    let a = c.args in
    let s = a.bytes.now in
    let v = ap (judged a.self.sheet) (sym c.in_ok-accepted.was) ∙ c.judge.ensures in
    let zero = sym (judged_number a.self a.map.now s fine c.judge.result c.judge.ensures) ∙ ap answer_in c.in_ok-accepted.was in
    let h = accepted_adds a.self a.map.now s zero in
    let next = c.add.ensures ∙ ap (added a.self) v ∙ sym h.0 in (
      (λ i. record { answer = sym zero i; ledger = next i }),
      c.mark.ensures ∙ ap (λ (x : Verdict). marked_with a.map.now x.number) v ∙ sym h.1,
    )
