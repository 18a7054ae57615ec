-- At each early return a test of an open slot fails. At the last return all tests but the last hold, so that the last decides. Assumes nothing.
use Prim.Native.Nat.{◌<◌, ◌≤◌}
use mathlib.Core.Path.{◌≡◌, sym, ◌∙◌}
use mathlib.Core.List.{[], ◌∷◌}
use mathlib.Core.Bool.{Bool, true, false, ◌&&◌, ◌||◌, true≢false}
use lib.Dec.{leb, ltb, eqb}
use native.Mathlib.Omega.{arith}
use borrow.Author.Tests.{leb-false, ltb-false, le-ltb, lt-leb}
use Rattle.base.proofs.ChainLaws.{each_fails}
use Rattle.codes.specs.Ranges.{latest}
use Rattle.fields.specs.Tests.{head_listed}
use Rattle.limits.specs.Limits.{figures_above}
use Rattle.slot.specs.declared.Slot.{Slot}
use Rattle.slot.specs.Sound.{open_sound}
use Rattle.slot.proofs.SoundLaws.{within, not_open_lem, last_decides, open_listed, open_begins, open_in_order, open_ends, open_steps, open_level, open_none_above}
use Rattle.slot.proofs.Slot.open_sound.Goals as goal

-- a test that holds where the slot is sound, and fails here
refuted : (s : Slot) (t : Bool) → t ≡ false → (open_sound s ≡ true → t ≡ true) → false ≡ open_sound s
refuted s t f k = not_open_lem s (λ o. true≢false (sym (k o) ∙ f))

-- the times and the steps, as code tests them: one is out of its bounds
abbrev astray : Slot → Bool
astray s = leb 527040 s.head.t0 || ltb s.last s.head.t0 || ltb latest s.last || ltb 64 s.steps

open-near : (s : Slot) → open_sound s ≡ true → astray s ≡ false
open-near s o = λ i. lt-leb 527040 s.head.t0 (open_begins s o) i || le-ltb s.last s.head.t0 (open_in_order s o) i || le-ltb latest s.last (open_ends s o) i || le-ltb 64 s.steps (open_steps s o) i

near : (s : Slot) → astray s ≡ false → (s.head.t0 < 527040) × (s.head.t0 ≤ s.last) × (s.last ≤ latest) × (s.steps ≤ 64)
near s e =
    let k = each_fails (leb 527040 s.head.t0) (ltb s.last s.head.t0 ∷ ltb latest s.last ∷ ltb 64 s.steps ∷ []) e in
    (leb-false _ s.head.t0 k.0, ltb-false s.last s.head.t0 k.1.0, ltb-false _ s.last k.1.1.0, ltb-false _ s.steps k.1.1.1.0)

pub returns-then-not-listed : goal.returns-then-not-listed
returns-then-not-listed c =
    let s = c.args.self.now in
    refuted s (head_listed s.head) (sym c.listed.ensures ∙ c.if-not-listed.true) (open_listed s)

pub returns-then-self : goal.returns-then-self
returns-then-self c =
    let s = c.args.self.now in
    not_open_lem s (λ o. true≢false (sym c.if-self.true ∙ open-near s o))

pub overflow_sub-minutes : goal.overflow_sub-minutes
overflow_sub-minutes c =
    let s = c.args.self.now in
    (near s c.if-self.false).1

pub returns-then-not-level_within : goal.returns-then-not-level_within
returns-then-not-level_within c =
    let s = c.args.self.now in
    let level = c.loop-level.level in
    refuted s (within s level) (sym c.level_within.ensures ∙ c.if-not-level_within.true) (λ o. open_level s o level (omega arith))

pub returns-then-figures_above : goal.returns-then-figures_above
returns-then-figures_above c =
    let s = c.args.self.now in
    let above = c.figures_above.ensures ∙ (λ i. figures_above (c.level_of.ensures i) s.figures) in
    not_open_lem s (λ o. true≢false (sym c.if-figures_above.true ∙ above ∙ open_none_above s o))

pub returns : goal.returns
returns c =
    let s = c.args.self.now in
    let k = near s c.if-self.false in
    let above = c.figures_above.ensures ∙ (λ i. figures_above (c.level_of.ensures i) s.figures) in
    (λ i. ltb 0 s.steps || (eqb s.last s.head.t0 && c.no_customers.ensures i)) ∙
    last_decides s
    (sym c.listed.ensures ∙ c.if-not-listed.false)
    k.0
    k.1
    k.2
    k.3
    (c.loop-level.invariant 0 (omega arith))
    (c.loop-level.invariant 1 (omega arith))
    (c.loop-level.invariant 2 (omega arith))
    (sym above ∙ c.if-figures_above.false)
