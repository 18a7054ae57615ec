-- An opened slot is sound, and a step leaves an open slot sound: its half minutes grow by no more than twice its largest count times the minutes
-- gone by. Assumes nothing.
use Prim.Native.Nat.{ℕ, ◌+◌, ◌*◌, ◌-◌, ◌<◌, ◌≤◌, max}
use mathlib.Core.Path.{◌≡◌, refl, sym, ◌∙◌, ap, subst}
use mathlib.Core.List.{List}
use mathlib.Core.Bool.{Bool, true, false, ◌&&◌, ◌||◌, and-false}
use lib.ListN.{get_or}
use lib.Dec.{leb, ltb, eqb}
use native.Mathlib.Omega.{arith}
use native.Mathlib.Nat.{mul-le-mul_right, mul-add, le-max_left, le-max_right, max-le}
use borrow.Author.Tests.{eq-eqb, le-leb, ltb-false, lt-ltb, le-ltb}
use Rattle.base.proofs.TestLaws.{and_both, or_left, or_right, or_both}
use Rattle.codes.specs.Codes.{levels, level_of}
use Rattle.codes.specs.Ranges.{latest, most_customers}
use Rattle.annex.specs.declared.Figures.{Figures}
use Rattle.annex.specs.declared.Step.{Step}
use Rattle.annex.specs.Figures.{nothing, customers_at, halves_at, with_step}
use Rattle.annex.specs.Inside.{Few}
use Rattle.annex.proofs.FoldLaws.{each_level_lem, step_customers, step_halves}
use Rattle.annex.proofs.Bounds.{few_at}
use Rattle.fields.specs.declared.Head.{Head}
use Rattle.fields.specs.Tests.{head_listed}
use Rattle.limits.specs.Limits.{above_level, figures_above}
use Rattle.slot.specs.declared.Slot.{Slot}
use Rattle.slot.specs.Slot.{opened_by, stepped_by}
use Rattle.slot.specs.Sound.{no_customers, open_sound, slot_sound}
use Rattle.slot.proofs.SoundLaws.{open_listed, open_begins, open_in_order, open_customers, open_halves, open_none_above, open_is_sound, within, last_decides}

-- the tests of an open slot, put together
open_of_lem :
    (s : Slot) →
    head_listed s.head ≡ true →
    s.head.t0 < 527040 →
    s.head.t0 ≤ s.last →
    s.last ≤ latest →
    s.steps ≤ 64 →
    ((h : ℕ) → h < levels → customers_at s.figures h ≤ most_customers) →
    ((h : ℕ) → h < levels → halves_at s.figures h ≤ 2 * customers_at s.figures h * (s.last - s.head.t0)) →
    figures_above (level_of s.head.voltage) s.figures ≡ false →
    (ltb 0 s.steps || (eqb s.last s.head.t0 && no_customers s.figures)) ≡ true →
    open_sound s ≡ true
open_of_lem s listed early begun ended few most brief below unstepped =
    sym (last_decides s listed early begun ended few (level 0 (omega arith)) (level 1 (omega arith)) (level 2 (omega arith)) below) ∙ unstepped
  where
    level : (h : ℕ) → h < levels → within s h ≡ true
    level h l =
        and_both (leb (customers_at s.figures h) most_customers) (leb (halves_at s.figures h) (2 * customers_at s.figures h * (s.last - s.head.t0)))
        (le-leb _ _ (most h l)) (le-leb _ _ (brief h l))

-- an outage that begins
nothing_customers : (h : ℕ) → h < levels → customers_at nothing h ≡ 0
nothing_customers = each_level_lem _ refl refl refl

nothing_halves : (h : ℕ) → h < levels → halves_at nothing h ≡ 0
nothing_halves = each_level_lem _ refl refl refl

nothing_below : (level : ℕ) → figures_above level nothing ≡ false
nothing_below level = or_both (ltb level 1 && false) (ltb level 2 && false) (and-false (ltb level 1)) (and-false (ltb level 2))

-- a slot opened by a listed head with T0 below 527,040 is sound, by an open slot's list and so as a slot
pub opened_open : (h : Head) → head_listed h ≡ true → h.t0 < 527040 → open_sound (opened_by h) ≡ true
opened_open h listed early =
    open_of_lem (opened_by h) listed early (omega arith) (omega arith) (omega arith)
    (λ n b. omega (arith, nothing_customers n b))
    (λ n b. omega (arith, nothing_halves n b))
    (nothing_below (level_of h.voltage))
    (and_both (eqb h.t0 h.t0) true (eq-eqb h.t0 h.t0 refl) refl)

pub opened_sound : (h : Head) → head_listed h ≡ true → h.t0 < 527040 → slot_sound (opened_by h) ≡ true
opened_sound h listed early = open_is_sound (opened_by h) (opened_open h listed early)

-- one level, a step later: m customers and h half minutes so far, n customers until the time
halves_grow :
    (m n h t0 last time : ℕ) →
    h ≤ 2 * m * (last - t0) →
    t0 ≤ last →
    last ≤ time →
    h + 2 * n * (time - last) ≤ 2 * max m n * (time - t0)
halves_grow m n h t0 last time p q r =
    let l = le-max_left m n in
    let g = le-max_right m n in
    let a : 2 * m * (last - t0) ≤ 2 * max m n * (last - t0) = mul-le-mul_right (last - t0) (omega arith) in
    let b : 2 * n * (time - last) ≤ 2 * max m n * (time - last) = mul-le-mul_right (time - last) (omega arith) in
    let c : 2 * max m n * (last - t0 + (time - last)) ≡ 2 * max m n * (last - t0) + 2 * max m n * (time - last) =
    mul-add (2 * max m n) (last - t0) (time - last) in
    let d : last - t0 + (time - last) ≡ time - t0 = omega arith in
    let e : 2 * max m n * (time - t0) ≡ 2 * max m n * (last - t0) + 2 * max m n * (time - last) = ap (λ x. 2 * max m n * x) (sym d) ∙ c in
    omega (arith, p, a, b, e)

above_none :
    (level k m n : ℕ) →
    (ltb level k && ltb 0 m) ≡ false →
    (ltb level k && ltb 0 n) ≡ false →
    (ltb level k && ltb 0 (max m n)) ≡ false
above_none level k m n p q = go (ltb level k) refl
  where
    go : (t : Bool) → ltb level k ≡ t → (t && ltb 0 (max m n)) ≡ false
    go true e =
        let a : m ≤ 0 = ltb-false 0 m (subst (λ t. (t && ltb 0 m) ≡ false) e p) in
        let b : n ≤ 0 = ltb-false 0 n (subst (λ t. (t && ltb 0 n) ≡ false) e q) in
        le-ltb 0 (max m n) (omega arith)
    go false e = refl

module _ (level : ℕ) (f : Figures) (counts : List ℕ) (minutes : ℕ) where
  level_below :
      (h : ℕ) →
      h < levels →
      (ltb level h && ltb 0 (customers_at f h)) ≡ false →
      (ltb level h && ltb 0 (get_or counts h 0)) ≡ false →
      (ltb level h && ltb 0 (customers_at (with_step f counts minutes) h)) ≡ false
  level_below h l a b =
      ap (λ c. ltb level h && ltb 0 c) (step_customers f counts minutes h l) ∙ above_none level h (customers_at f h) (get_or counts h 0) a b

  figures_below : figures_above level f ≡ false → above_level level counts ≡ false → figures_above level (with_step f counts minutes) ≡ false
  figures_below p q =
      or_both _ _
      (level_below 1 (omega arith)
      (or_left (ltb level 1 && ltb 0 (customers_at f 1)) (ltb level 2 && ltb 0 (customers_at f 2)) p)
      (or_left (ltb level 1 && ltb 0 (get_or counts 1 0)) (ltb level 2 && ltb 0 (get_or counts 2 0)) q))
      (level_below 2 (omega arith)
      (or_right (ltb level 1 && ltb 0 (customers_at f 1)) (ltb level 2 && ltb 0 (customers_at f 2)) p)
      (or_right (ltb level 1 && ltb 0 (get_or counts 1 0)) (ltb level 2 && ltb 0 (get_or counts 2 0)) q))

-- an open slot, a step later
module _ (s : Slot) (st : Step) (o : open_sound s ≡ true) (before : s.last ≤ st.time) (few : Few most_customers st.counts) where
  abbrev customers_then : (h : ℕ) → h < levels → customers_at (stepped_by s st).figures h ≡ max (customers_at s.figures h) (get_or st.counts h 0)
  customers_then = step_customers s.figures st.counts (st.time - s.last)

  stepped_most : (h : ℕ) → h < levels → customers_at (stepped_by s st).figures h ≤ most_customers
  stepped_most h l = subst (λ c. c ≤ most_customers) (sym (customers_then h l)) (max-le (open_customers s o h l) (few_at few h l))

  stepped_brief : (h : ℕ) → h < levels → halves_at (stepped_by s st).figures h ≤ 2 * customers_at (stepped_by s st).figures h * (st.time - s.head.t0)
  stepped_brief h l =
      let t = step_halves s.figures st.counts (st.time - s.last) h l in
      let grown = halves_grow (customers_at s.figures h) (get_or st.counts h 0) (halves_at s.figures h) s.head.t0 s.last st.time (open_halves s o h l) (open_in_order s o) before in
      subst (λ c. halves_at (stepped_by s st).figures h ≤ 2 * c * (st.time - s.head.t0)) (sym (customers_then h l))
      (subst (λ t. t ≤ 2 * max (customers_at s.figures h) (get_or st.counts h 0) * (st.time - s.head.t0)) (sym t) grown)

  -- it stays sound, where it then has at most 64 steps, the time is at most 600,000 and no count is above the event's level
  pub stepped_open :
      s.steps + 1 ≤ 64 →
      st.time ≤ latest →
      above_level (level_of s.head.voltage) st.counts ≡ false →
      open_sound (stepped_by s st) ≡ true
  stepped_open count ends below =
      open_of_lem (stepped_by s st) (open_listed s o) (open_begins s o)
      (omega (arith, open_in_order s o, before)) ends count stepped_most stepped_brief
      (figures_below (level_of s.head.voltage) s.figures st.counts (st.time - s.last) (open_none_above s o) below)
      (ap (λ t. t || (eqb st.time s.head.t0 && no_customers (stepped_by s st).figures)) (lt-ltb 0 (s.steps + 1) (omega arith)))

  pub stepped_sound :
      s.steps + 1 ≤ 64 →
      st.time ≤ latest →
      above_level (level_of s.head.voltage) st.counts ≡ false →
      slot_sound (stepped_by s st) ≡ true
  stepped_sound count ends below = open_is_sound (stepped_by s st) (stepped_open count ends below)
