-- Counting in half minutes keeps the half of 003's t_jh: twice the customers times t_jh is a whole number, also where it is odd; and where nobody is
-- interrupted, which has no t_jh, there are none. Assumes nothing.
use Prim.Native.Nat.{ℕ, ◌+◌, ◌*◌, ◌-◌, ◌<◌}
use mathlib.Core.Path.{◌≡◌, refl, ◌∙◌, ap}
use mathlib.Core.List.{List, [], ◌∷◌}
use lib.ListN.{get_or}
use native.Mathlib.Nat.{mul_assoc, mul-one}
use native.Mathlib.Omega.{arith}
use Rattle.base.specs.Lists.{largest}
use Rattle.annex.specs.declared.Simple.{Simple}
use Rattle.annex.specs.declared.Step.{Step}
use Rattle.annex.specs.Annex.{Event, simple, stepped, counts_of, weighed, njh, njhtjh2, NoneAfterNone}
use Rattle.ratio.specs.Fraction.{whole, times, Same}
use Rattle.annex.specs.Fraction.{tjh}

module _ (t0 t1 t2 t3 n1 n2 : ℕ) where
  twice_top :
      (n1 * (t1 - t0) * 2 + (n1 + n2) * (t2 - t1) * 1) * 1 + n2 * (t3 - t2) * 2 ≡
      2 * n1 * (t1 - t0) + (n1 + n2) * (t2 - t1) + 2 * n2 * (t3 - t2)
  twice_top = omega (arith, mul_assoc 2 n1 (t1 - t0), mul_assoc 2 n2 (t3 - t2))

  -- 2 n1 t_jh = 2 n1 (T1-T0) + (n1+n2)(T2-T1) + 2 n2 (T3-T2); where n1 is 0 there is no t_jh, and both sides are 0
  pub half_kept :
      Same
      (times (tjh t0 t1 t2 t3 n1 n2) (2 * n1))
      (whole (2 * n1 * (t1 - t0) + (n1 + n2) * (t2 - t1) + 2 * n2 * (t3 - t2)))
  unfolding tjh
  half_kept = mul-one _ ∙ ap (λ top. top * (2 * n1)) twice_top

  -- t_jh is a number: with customers interrupted, its bottom is not 0
  pub bottom_above_zero : 0 < n1 → 0 < (tjh t0 t1 t2 t3 n1 n2).bottom
  unfolding tjh
  bottom_above_zero p = omega arith

-- the same of a level of an event: n_jh is n1 there
pub event_half_kept :
    (e : Simple) (h : ℕ) →
    Same
    (times (tjh e.t0 e.t1 e.t2 e.t3 (get_or e.n1 h 0) (get_or e.n2 h 0)) (2 * njh h (simple e)))
    (whole (njhtjh2 h (simple e)))
unfolding njh njhtjh2
event_half_kept e h = half_kept e.t0 e.t1 e.t2 e.t3 (get_or e.n1 h 0) (get_or e.n2 h 0)

-- where nobody is interrupted, and n1 is no divisor, there are no half minutes
nobody_in_steps : (h before : ℕ) (ss : List Step) → largest (counts_of h ss) ≡ 0 → weighed h before ss ≡ 0
nobody_in_steps h before [] z = refl
nobody_in_steps h before (s ∷ ss) z =
    let none : get_or s.counts h 0 ≡ 0 = omega arith in
    let rest : weighed h s.time ss ≡ 0 = nobody_in_steps h s.time ss (omega arith) in
    rw (none, rest) (omega arith)

-- a level with no customers interrupted has no half minutes, where nobody is off later if nobody was at first
pub nobody_no_halves : (h : ℕ) (e : Event) → NoneAfterNone h e → njh h e ≡ 0 → njhtjh2 h e ≡ 0
unfolding njh njhtjh2
nobody_no_halves h (simple e) after z = rw (z, after z) (omega arith)
nobody_no_halves h (stepped t0 ss) after z = ap (λ (n : ℕ). 2 * n) (nobody_in_steps h t0 ss z)

-- P9: n1 = 3, n2 = 2, times 0, 10, 15, 20: an odd number of half minutes
pub half_odd :
    njhtjh2 0 (simple (record { t0 = 0; t1 = 10; t2 = 15; t3 = 20; t4 = 20; n1 = 3 ∷ 0 ∷ 0 ∷ []; n2 = 2 ∷ 0 ∷ 0 ∷ [] })) ≡ 105
unfolding njhtjh2
half_odd = refl
