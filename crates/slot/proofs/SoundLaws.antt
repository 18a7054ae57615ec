-- What a sound slot is, test by test: an open one meets the open slot's list, a free one holds zeros only. Assumes nothing.
use Prim.Native.Nat.{ℕ, ◌*◌, ◌-◌, ◌<◌, ◌≤◌}
use mathlib.Core.Path.{◌≡◌, refl, sym, ap, ◌∙◌}
use mathlib.Core.List.{List, [], ◌∷◌}
use mathlib.Core.Bool.{Bool, true, false, ◌&&◌, ◌||◌, not, or-true}
use lib.Dec.{leb, ltb, eqb}
use native.Mathlib.Nat.{mul-le-mul_right}
use native.Mathlib.Omega.{arith}
use borrow.Author.Tests.{leb-true, ltb-true, eqb-true, lt-ltb, le-leb, not-true}
use Rattle.base.specs.Lists.{All}
use Rattle.base.proofs.TestLaws.{and_left, and_right, or_other, Tested, holds, fails, test}
use Rattle.base.proofs.ChainLaws.{each_holds}
use Rattle.codes.specs.Codes.{levels, level_of}
use Rattle.codes.specs.Ranges.{latest, most_customers}
use Rattle.annex.specs.Figures.{customers_at, halves_at}
use Rattle.annex.specs.Figure.{Off, Halves, most_of}
use Rattle.annex.specs.Inside.{Room, Within}
use Rattle.annex.proofs.FoldLaws.{each_level_lem}
use Rattle.fields.specs.Tests.{head_listed}
use Rattle.limits.specs.Limits.{figures_above}
use Rattle.slot.specs.declared.Slot.{Slot}
use Rattle.slot.specs.Slot.{free_slot}
use Rattle.slot.specs.Sound.{no_customers, no_halves, is_free, level_within, open_sound, slot_sound}

-- a level's half minutes are within what an event may come to
brief : (c h t0 last : ℕ) → c ≤ most_customers → h ≤ 2 * c * (last - t0) → last ≤ latest → h ≤ 12000000000000
brief c h t0 last few most ends =
    let k : 2 * c * (last - t0) ≤ 20000000 * (last - t0) = mul-le-mul_right (last - t0) (omega arith) in
    omega arith

module _ (s : Slot) where
  abbrev pub within : ℕ → Bool
  within level = level_within (customers_at s.figures level) (halves_at s.figures level) (s.last - s.head.t0)

  -- the tests of an open slot, after that of its head
  abbrev others : List Bool
  others =
      ltb s.head.t0 527040 ∷
      leb s.head.t0 s.last ∷
      leb s.last latest ∷
      leb s.steps 64 ∷
      within 0 ∷
      within 1 ∷
      within 2 ∷
      not (figures_above (level_of s.head.voltage) s.figures) ∷
      (ltb 0 s.steps || (eqb s.last s.head.t0 && no_customers s.figures)) ∷ []

  open_tests : open_sound s ≡ true → All (λ b. b ≡ true) (head_listed s.head ∷ others)
  unfolding open_sound
  open_tests = each_holds (head_listed s.head) others

  -- what each test says of a slot that is sound as an open one, one by one
  pub open_listed : open_sound s ≡ true → head_listed s.head ≡ true
  open_listed o = (open_tests o).0

  pub open_begins : open_sound s ≡ true → s.head.t0 < 527040
  open_begins o = ltb-true _ _ (open_tests o).1.0

  pub open_in_order : open_sound s ≡ true → s.head.t0 ≤ s.last
  open_in_order o = leb-true _ _ (open_tests o).1.1.0

  pub open_ends : open_sound s ≡ true → s.last ≤ latest
  open_ends o = leb-true _ _ (open_tests o).1.1.1.0

  pub open_steps : open_sound s ≡ true → s.steps ≤ 64
  open_steps o = leb-true _ _ (open_tests o).1.1.1.1.0

  pub open_level : open_sound s ≡ true → (level : ℕ) → level < levels → within level ≡ true
  open_level o =
      each_level_lem (λ level. within level ≡ true)
      (open_tests o).1.1.1.1.1.0
      (open_tests o).1.1.1.1.1.1.0
      (open_tests o).1.1.1.1.1.1.1.0

  pub open_customers : open_sound s ≡ true → (level : ℕ) → level < levels → customers_at s.figures level ≤ most_customers
  open_customers o level l = leb-true _ _ (and_left (leb (customers_at s.figures level) most_customers) _ (open_level o level l))

  pub open_halves : open_sound s ≡ true → (level : ℕ) → level < levels → halves_at s.figures level ≤ 2 * customers_at s.figures level * (s.last - s.head.t0)
  open_halves o level l = leb-true _ _ (and_right (leb (customers_at s.figures level) most_customers) _ (open_level o level l))

  pub open_none_above : open_sound s ≡ true → figures_above (level_of s.head.voltage) s.figures ≡ false
  open_none_above o = not-true _ (open_tests o).1.1.1.1.1.1.1.1.0

  -- where a test fails the slot is not sound as an open one
  pub not_open_lem : (open_sound s ≡ true → ⊥) → false ≡ open_sound s
  not_open_lem n = go (test (open_sound s))
    where
      go : Tested (open_sound s) → false ≡ open_sound s
      go (holds o) = absurd (n o)
      go (fails f) = sym f

  -- where all tests before the last hold, the last decides
  pub last_decides : head_listed s.head ≡ true → s.head.t0 < 527040 → s.head.t0 ≤ s.last → s.last ≤ latest → s.steps ≤ 64 → within 0 ≡ true → within 1 ≡ true → within 2 ≡ true → figures_above (level_of s.head.voltage) s.figures ≡ false → (ltb 0 s.steps || (eqb s.last s.head.t0 && no_customers s.figures)) ≡ open_sound s
  unfolding open_sound
  last_decides known begins order ends few nn vn vvn none =
      sym (λ i. known i && lt-ltb s.head.t0 527040 begins i && le-leb s.head.t0 s.last order i && le-leb s.last latest ends i && le-leb s.steps 64 few i && nn i && vn i && vvn i && not (none i) && (ltb 0 s.steps || (eqb s.last s.head.t0 && no_customers s.figures)))

  -- no step taken: the last time is T0, and the largest counts are 0
  pub open_untouched : open_sound s ≡ true → s.steps ≡ 0 → (s.last ≡ s.head.t0) × (no_customers s.figures ≡ true)
  open_untouched o e =
      let both = or_other (ltb 0 s.steps) _ (ap (ltb 0) e) (open_tests o).1.1.1.1.1.1.1.1.1.0 in
      (eqb-true _ _ (and_left (eqb s.last s.head.t0) _ both), and_right (eqb s.last s.head.t0) _ both)

  -- the figures are within what one event may add
  pub open_within : open_sound s ≡ true → (level : ℕ) → level < levels → Within s.figures level
  open_within o level l Off = open_customers o level l
  open_within o level l Halves = brief _ _ s.head.t0 s.last (open_customers o level l) (open_halves o level l) (open_ends o)

  open_room : open_sound s ≡ true → Room s.figures
  open_room o =
      let most : (h : ℕ) → h < levels → halves_at s.figures h ≤ most_of Halves = λ h l. open_within o h l Halves in
      record { nn = omega (arith, most 0 (omega arith)); vn = omega (arith, most 1 (omega arith)); vvn = omega (arith, most 2 (omega arith)) }

  -- the tests of a free slot, after that of its number
  abbrev zeros : List Bool
  zeros =
      eqb s.head.typ 0 ∷
      eqb s.head.voltage 0 ∷
      eqb s.head.cause 0 ∷
      eqb s.head.t0 0 ∷
      eqb s.last 0 ∷
      eqb s.steps 0 ∷
      no_customers s.figures ∷
      no_halves s.figures ∷ []

  free_tests : is_free s ≡ true → All (λ b. b ≡ true) (eqb s.head.number 0 ∷ zeros)
  unfolding is_free
  free_tests = each_holds (eqb s.head.number 0) zeros

  -- number, last time and steps of a free slot are 0
  pub free_number : is_free s ≡ true → s.head.number ≡ 0
  free_number f = eqb-true _ _ (free_tests f).0

  pub free_last : is_free s ≡ true → s.last ≡ 0
  free_last f = eqb-true _ _ (free_tests f).1.1.1.1.1.0

  pub free_steps : is_free s ≡ true → s.steps ≡ 0
  free_steps f = eqb-true _ _ (free_tests f).1.1.1.1.1.1.0

  free_room : is_free s ≡ true → Room s.figures
  free_room f =
      let h = each_holds (eqb (halves_at s.figures 0) 0) (eqb (halves_at s.figures 1) 0 ∷ eqb (halves_at s.figures 2) 0 ∷ []) (free_tests f).1.1.1.1.1.1.1.1.0 in
      let nn : halves_at s.figures 0 ≡ 0 = eqb-true _ _ h.0 in
      let vn : halves_at s.figures 1 ≡ 0 = eqb-true _ _ h.1.0 in
      let vvn : halves_at s.figures 2 ≡ 0 = eqb-true _ _ h.1.1.0 in
      record { nn = omega arith; vn = omega arith; vvn = omega arith }

  -- a sound slot is free or open
  pub not_free_open : slot_sound s ≡ true → is_free s ≡ false → open_sound s ≡ true
  unfolding slot_sound
  not_free_open e f = or_other (is_free s) (open_sound s) f e

  -- one with steps taken, or with a number, is open
  pub steps_open : slot_sound s ≡ true → (s.steps ≡ 0 → ⊥) → open_sound s ≡ true
  steps_open e z = go (test (is_free s))
    where
      go : Tested (is_free s) → open_sound s ≡ true
      go (holds f) = absurd (z (free_steps f))
      go (fails f) = not_free_open e f

  pub number_open : slot_sound s ≡ true → (s.head.number ≡ 0 → ⊥) → open_sound s ≡ true
  number_open e z = go (test (is_free s))
    where
      go : Tested (is_free s) → open_sound s ≡ true
      go (holds f) = absurd (z (free_number f))
      go (fails f) = not_free_open e f

  -- either way a step more fits
  pub sound_room : slot_sound s ≡ true → Room s.figures
  sound_room e = go (test (is_free s))
    where
      go : Tested (is_free s) → Room s.figures
      go (holds f) = free_room f
      go (fails f) = open_room (not_free_open e f)

  -- and at most 64 steps are taken
  pub sound_steps : slot_sound s ≡ true → s.steps ≤ 64
  sound_steps e = go (test (is_free s))
    where
      go : Tested (is_free s) → s.steps ≤ 64
      go (holds f) = let z : s.steps ≡ 0 = free_steps f in omega arith
      go (fails f) = open_steps (not_free_open e f)

  pub open_is_sound : open_sound s ≡ true → slot_sound s ≡ true
  unfolding slot_sound
  open_is_sound o = ap (λ t. is_free s || t) o ∙ or-true (is_free s)

-- zeros only is sound
pub free_is_free : is_free free_slot ≡ true
unfolding is_free
free_is_free = refl

pub free_sound : slot_sound free_slot ≡ true
unfolding slot_sound
free_sound = ap (λ t. t || open_sound free_slot) free_is_free

-- a free slot is sound; any other is sound just where it is as an open one
pub free_decides : (s : Slot) → is_free s ≡ true → slot_sound s ≡ true
unfolding slot_sound
free_decides s e = ap (λ t. t || open_sound s) e

pub open_decides : (s : Slot) → is_free s ≡ false → slot_sound s ≡ open_sound s
unfolding slot_sound
open_decides s e = ap (λ t. t || open_sound s) e
