-- No sum of figures wraps, and what an event adds stays within what one event may add: the loop over steps, simple and stepped events.
-- Assumes nothing.
use Prim.Native.Nat.{ℕ, ◌+◌, ◌*◌, ◌-◌, ◌%◌, ◌<◌, ◌≤◌}
use mathlib.Core.List.{List, [], ◌∷◌}
use mathlib.Core.Bool.{Bool, true, false, cond}
use lib.Dec.{eqb}
use lib.ListN.{get_or}
use native.Mathlib.Nat.{mul-le-mul_right}
use native.Mathlib.Omega.{arith}
use Rattle.base.specs.Lists.{largest, All}
use Rattle.codes.specs.Codes.{levels}
use Rattle.codes.specs.Ranges.{latest, most_customers}
use Rattle.annex.specs.declared.Course.{Course}
use Rattle.annex.specs.declared.Simple.{Simple}
use Rattle.annex.specs.declared.Step.{Step}
use Rattle.annex.specs.Times.{minutes_in}
use Rattle.annex.specs.Figures.{with_step}
use Rattle.annex.specs.Simple.{simple_figures, InOrder}
use Rattle.annex.specs.Stepped.{begun, coursed, stepped_figures}
use Rattle.annex.specs.Annex.{counts_of, weighed}
use Rattle.annex.specs.Figure.{Off, Halves}
use Rattle.annex.specs.Inside.{Few, Timely, Ready, Within, Ordered}
use Rattle.annex.proofs.FoldLaws.{each_level_lem, simple_customers, simple_halves, stepped_customers, stepped_halves}

-- no year has more minutes than a leap year
pub minutes_most : (year : ℕ) → minutes_in year ≤ 527040
unfolding minutes_in
minutes_most year = go (eqb (year % 4) 0)
  where
    go : (t : Bool) → cond t 527040 525600 ≤ 527040
    go true = omega arith
    go false = omega arith

-- the count of each level is at most m
pub few_at : {m : ℕ} {n : List ℕ} → Few m n → (h : ℕ) → h < levels → get_or n h 0 ≤ m
few_at few = each_level_lem _ few.nn few.vn few.vvn

-- before its first step an outage has no more half minutes than its time allows
pub timely_begun : (t0 : ℕ) → Timely (begun t0)
timely_begun t0 = record { nn = omega arith; vn = omega arith; vvn = omega arith }

-- one level of a step
step_timely : (h n before time : ℕ) → h ≤ 8589934590 * before → n ≤ 4294967295 → before ≤ time → h + 2 * n * (time - before) ≤ 8589934590 * time
step_timely h n before time p q r =
    let k : 2 * n * (time - before) ≤ 8589934590 * (time - before) = mul-le-mul_right (time - before) (omega arith) in
    omega arith

module _ (c : Course) (s : Step) (t : Timely c) (order : c.last ≤ s.time) where
  -- nor has it after a step, in order and with counts of 32 bits
  pub timely_step : Few 4294967295 s.counts → Timely (coursed c s)
  unfolding with_step
  timely_step few =
      record {
        nn = step_timely _ _ c.last s.time t.nn few.nn order;
        vn = step_timely _ _ c.last s.time t.vn few.vn order;
        vvn = step_timely _ _ c.last s.time t.vvn few.vvn order;
      }

  -- a step in order, at 600,000 at the latest, may follow
  pub timely_ready : s.time ≤ latest → Ready c s
  timely_ready ends = record { room = record { nn = omega arith; vn = omega arith; vvn = omega arith }; order = order; ends = ends }

-- a simple event in order, with counts of at most 10,000,000, adds no more to a level than one event may
pub simple_within : (e : Simple) → InOrder e → Few most_customers e.n1 → Few most_customers e.n2 → (h : ℕ) → h < levels → Within (simple_figures e) h
simple_within e o few1 few2 h l Off = omega (arith, simple_customers e h l, few_at few1 h l)
simple_within e o few1 few2 h l Halves =
    let a = get_or e.n1 h 0 in
    let b = get_or e.n2 h 0 in
    let p : a ≤ most_customers = few_at few1 h l in
    let q : b ≤ most_customers = few_at few2 h l in
    let one : 2 * a * (e.t1 - e.t0) ≤ 20000000 * (e.t1 - e.t0) = mul-le-mul_right (e.t1 - e.t0) (omega arith) in
    let two : (a + b) * (e.t2 - e.t1) ≤ 20000000 * (e.t2 - e.t1) = mul-le-mul_right (e.t2 - e.t1) (omega arith) in
    let three : 2 * b * (e.t3 - e.t2) ≤ 20000000 * (e.t3 - e.t2) = mul-le-mul_right (e.t3 - e.t2) (omega arith) in
    omega (arith, simple_halves e h l)

module _ (h : ℕ) (l : h < levels) where
  largest_within : (ss : List Step) → All (λ (s : Step). Few most_customers s.counts) ss → largest (counts_of h ss) ≤ most_customers
  largest_within [] few = omega arith
  largest_within (s ∷ ss) few = omega (arith, few_at few.0 h l, largest_within ss few.1)

  weighed_within :
      (before : ℕ) (ss : List Step) →
      before ≤ latest →
      Ordered before ss →
      All (λ (s : Step). Few most_customers s.counts) ss →
      weighed h before ss + most_customers * before ≤ 6000000000000
  weighed_within before [] p o few = omega arith
  weighed_within before (s ∷ ss) p o few =
      let one : get_or s.counts h 0 * (s.time - before) ≤ most_customers * (s.time - before) = mul-le-mul_right (s.time - before) (few_at few.0 h l) in
      omega (arith, weighed_within s.time ss o.1 o.2 few.1)

-- nor does a stepped one, begun by 600,000, with its steps in order and such counts
pub stepped_within :
    (t0 : ℕ) (ss : List Step) →
    t0 ≤ latest →
    Ordered t0 ss →
    All (λ (s : Step). Few most_customers s.counts) ss →
    (h : ℕ) →
    h < levels →
    Within (stepped_figures t0 ss) h
stepped_within t0 ss p o few h l Off = omega (arith, stepped_customers h l t0 ss, largest_within h l ss few)
stepped_within t0 ss p o few h l Halves = omega (arith, stepped_halves h l t0 ss, weighed_within h l t0 ss p o few)
