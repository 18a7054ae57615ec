-- The figures that code works out are the annex's: the step fold carries the largest count and twice the sum of count times duration, level by level.
-- Assumes nothing.
use Prim.Native.Nat.{ℕ, zero, suc, ◌+◌, ◌*◌, ◌-◌, ◌<◌, max}
use mathlib.Core.Path.{◌≡◌, refl}
use mathlib.Core.List.{List, [], ◌∷◌, ◌++◌}
use lib.ListN.{get_or}
use native.Mathlib.Nat.{mul_assoc}
use native.Mathlib.Omega.{arith}
use Rattle.base.specs.Lists.{largest}
use Rattle.codes.specs.Codes.{levels}
use Rattle.annex.specs.declared.Course.{Course}
use Rattle.annex.specs.declared.Figures.{Figures}
use Rattle.annex.specs.declared.Simple.{Simple}
use Rattle.annex.specs.declared.Step.{Step}
use Rattle.annex.specs.Figures.{nothing, customers_at, halves_at, with_step}
use Rattle.annex.specs.Simple.{simple_figures, halves_of}
use Rattle.annex.specs.Stepped.{begun, coursed, coursed_all, last_time, stepped_figures}
use Rattle.annex.specs.Annex.{Event, simple, stepped, counts_of, weighed, njh, njhtjh2, figures_of}
use Rattle.annex.specs.Figure.{Figure, Off, Halves, given, figure_at}

-- what holds of NN, VN and VVN holds of each level
pub each_level_lem : (P : ℕ → Type 0) → P 0 → P 1 → P 2 → (h : ℕ) → h < levels → P h
each_level_lem P nn vn vvn zero l = nn
each_level_lem P nn vn vvn (suc zero) l = vn
each_level_lem P nn vn vvn (suc (suc zero)) l = vvn
each_level_lem P nn vn vvn (suc (suc (suc h))) l = absurd (omega arith)

-- `nothing` has 0 of each figure on each level
pub nothing_gives : (x : Figure) (h : ℕ) → h < levels → figure_at x nothing h ≡ 0
nothing_gives Off = each_level_lem _ refl refl refl
nothing_gives Halves = each_level_lem _ refl refl refl

module _ (f : Figures) (counts : List ℕ) (minutes : ℕ) where
  -- one step more: the larger of the customers before and its count; and twice its count times its minutes more
  pub step_customers : (h : ℕ) → h < levels → customers_at (with_step f counts minutes) h ≡ max (customers_at f h) (get_or counts h 0)
  unfolding with_step
  step_customers = each_level_lem _ refl refl refl

  pub step_halves : (h : ℕ) → h < levels → halves_at (with_step f counts minutes) h ≡ halves_at f h + 2 * get_or counts h 0 * minutes
  unfolding with_step
  step_halves = each_level_lem _ refl refl refl

-- the last time of a course is that of its last step
pub course_last : (c : Course) (ss : List Step) → (coursed_all c ss).last ≡ last_time c.last ss
course_last c [] = refl
course_last c (s ∷ ss) = course_last (coursed c s) ss

-- a course goes on where it left off
pub course_snoc : (c : Course) (ss : List Step) (s : Step) → coursed_all c (ss ++ s ∷ []) ≡ coursed (coursed_all c ss) s
course_snoc c [] s = refl
course_snoc c (x ∷ ss) s = course_snoc (coursed c x) ss s

module _ (h : ℕ) (l : h < levels) where
  -- any steps more: the largest of the customers before and their counts; and twice the sum of count times duration more
  pub course_customers : (c : Course) (ss : List Step) → customers_at (coursed_all c ss).figures h ≡ max (customers_at c.figures h) (largest (counts_of h ss))
  course_customers c [] = omega arith
  course_customers c (s ∷ ss) = rw (course_customers (coursed c s) ss, step_customers) (omega arith)

  pub course_halves : (c : Course) (ss : List Step) → halves_at (coursed_all c ss).figures h ≡ halves_at c.figures h + 2 * weighed h c.last ss
  course_halves c [] = omega arith
  course_halves c (s ∷ ss) =
      rw (course_halves (coursed c s) ss, step_halves) (omega (arith, mul_assoc 2 (get_or s.counts h 0) (s.time - c.last)))

  -- from nothing
  pub stepped_customers : (t0 : ℕ) (ss : List Step) → customers_at (stepped_figures t0 ss) h ≡ largest (counts_of h ss)
  stepped_customers t0 ss = omega (arith, course_customers (begun t0) ss, nothing_gives Off h l)

  pub stepped_halves : (t0 : ℕ) (ss : List Step) → halves_at (stepped_figures t0 ss) h ≡ 2 * weighed h t0 ss
  stepped_halves t0 ss = omega (arith, course_halves (begun t0) ss, nothing_gives Halves h l)

module _ (e : Simple) where
  -- a simple event: n1, and 01's half minutes of n1 and n2
  pub simple_customers : (h : ℕ) → h < levels → customers_at (simple_figures e) h ≡ get_or e.n1 h 0
  unfolding simple_figures
  simple_customers = each_level_lem _ refl refl refl

  pub simple_halves : (h : ℕ) → h < levels → halves_at (simple_figures e) h ≡ (halves_of e (get_or e.n1 h 0) (get_or e.n2 h 0)).0
  unfolding simple_figures
  simple_halves = each_level_lem _ refl refl refl

-- an event's figures are n_jh and 2 · n_jh · t_jh
pub figures_given : (x : Figure) (e : Event) (h : ℕ) → h < levels → figure_at x (figures_of e) h ≡ given x h e
unfolding njh njhtjh2
figures_given Off (simple e) h l = simple_customers e h l
figures_given Off (stepped t0 ss) h l = stepped_customers h l t0 ss
figures_given Halves (simple e) h l = simple_halves e h l
figures_given Halves (stepped t0 ss) h l = stepped_halves h l t0 ss
