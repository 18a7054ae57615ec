-- A close of another length is 4. Else the first of its tests that applies is the answer, and a close to which none applies adds the slot's event, for
-- which a sound ledger has room, and frees the slot. Assumes nothing.
use Prim.Native.Nat.{ℕ}
use mathlib.Core.Path.{◌≡◌, refl, sym, ap, ◌∙◌, subst⁻¹}
use mathlib.Core.Bool.{◌||◌, not, cond}
use mathlib.Core.List.{List, []}
use lib.Dec.{eqb}
use borrow.Author.Tests.{eq-eqb, ne_eqb, eqb-false, le-leb, lt-leb}
use Rattle.std.proofs.lemmas.Result.{err_from_is_err_and}
use Rattle.base.specs.First.{first}
use Rattle.codes.specs.Ranges.{most_events}
use Rattle.fields.specs.declared.Sheet.{Sheet}
use Rattle.ledger.specs.Ledger.{added}
use Rattle.ledger.specs.Inside.{Fits}
use Rattle.desk_scan.specs.Inside.{place_named}
use Rattle.desk_rules.specs.declared.Seen.{Seen}
use Rattle.desk_rules.specs.Rules.{ordinal_in, count_wrong}
use Rattle.desk_rules.specs.Inside.{look_seen, named_tests}
use Rattle.desk_rules.proofs.PlanLaws.{refused_by, at_refused, at_accepted, close_fits, close_refused, close_let_in}
use Rattle.desk_rules.proofs.Seen.close.Goals as goal

-- the tests that it shares with a step, at the count that was read
at_count : (d : Seen) (sheet : Sheet) (s : List ℕ) (count n : ℕ) → n ≡ first (named_tests sheet s (place_named d.roll s) (eqb count 0 || not (eqb count d.slot.steps))) → count ≡ ordinal_in s → n ≡ first (named_tests sheet s (place_named d.roll s) (count_wrong 18 (look_seen d s) s))
at_count d sheet s count n e o = e ∙ ap (λ o. first (named_tests sheet s (place_named d.roll s) (eqb o 0 || not (eqb o d.slot.steps)))) o

pub returns-then-bytes-ne7 : goal.returns-then-bytes-ne7
returns-then-bytes-ne7 c m =
    let a = c.args in
    let s = a.bytes.now in
    sym (refused_by 18 (look_seen a.self.now s) a.self.now.slots a.ledger m s 4 (refl, ap not (ne_eqb _ _ c.if-bytes-ne7.true)) (eqb-false 4 0 refl))

pub returns-in_err-at : goal.returns-in_err-at
returns-in_err-at c m =
    let a = c.args in
    let s = a.bytes.now in
    let answered = at_count a.self.now a.ledger.sheet s _ _ c.admit_named.ensures.answer c.byte_at-count.ensures in
    let p = err_from_is_err_and c.from_residual.result c.from_residual.ensures.1 in
    rw (p.1, p.2)
    (close_refused (look_seen a.self.now s) a.ledger m s a.self.now.slots c.admit_named.result (ap not (eq-eqb _ _ c.if-bytes-ne7.false)) answered _ c.in_err-at.was)

pub returns-then-full : goal.returns-then-full
returns-then-full c m =
    let a = c.args in
    let s = a.bytes.now in
    let look = look_seen a.self.now s in
    let answered = at_count a.self.now a.ledger.sheet s _ _ c.admit_named.ensures.answer c.byte_at-count.ensures in
    let rest = close_let_in look a.ledger m s a.self.now.slots c.admit_named.result (ap not (eq-eqb _ _ c.if-bytes-ne7.false)) answered _ c.in_ok-at.was in
    let full = ap (λ t. cond t 15 0) (le-leb most_events a.ledger.events c.if-full.true) in
    sym (at_refused 18 look a.self.now.slots a.ledger m s 15 (rest ∙ full) (eqb-false 15 0 refl))

pub add-requires : goal.add-requires
add-requires c =
    let a = c.args in
    let s = a.bytes.now in
    let look = look_seen a.self.now s in
    let answered = at_count a.self.now a.ledger.sheet s _ _ c.admit_named.ensures.answer c.byte_at-count.ensures in
    let rest = close_let_in look a.ledger [] s a.self.now.slots c.admit_named.result (ap not (eq-eqb _ _ c.if-bytes-ne7.false)) answered _ c.in_ok-at.was in
    let spare = ap (λ t. cond t 15 0) (lt-leb most_events a.ledger.events c.if-full.false) in
    subst⁻¹ (Fits a.ledger) c.accept-event.ensures (close_fits look a.ledger [] s c.requires.slot c.requires.ledger (rest ∙ spare))

pub returns : goal.returns
returns c m =
    let a = c.args in
    let s = a.bytes.now in
    let look = look_seen a.self.now s in
    let answered = at_count a.self.now a.ledger.sheet s _ _ c.admit_named.ensures.answer c.byte_at-count.ensures in
    let rest = close_let_in look a.ledger m s a.self.now.slots c.admit_named.result (ap not (eq-eqb _ _ c.if-bytes-ne7.false)) answered _ c.in_ok-at.was in
    let spare = ap (λ t. cond t 15 0) (lt-leb most_events a.ledger.events c.if-full.false) in
    let next = c.add.ensures ∙ ap (added a.ledger) c.accept-event.ensures in
    (λ i. record { served = record { answer = 0; ledger = next i }; at = c.in_ok-at.ensures.found i; slot = c.free.ensures i; number = 0 }) ∙
    sym (at_accepted 18 look a.self.now.slots a.ledger m s (rest ∙ spare))
