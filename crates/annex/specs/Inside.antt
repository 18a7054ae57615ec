-- Inner vocabulary: the bounds within which figures stay, as inner contracts and laws ask them, so that no sum of figures wraps.
use Rattle.std.specs.Prelude.{ℕ, ◌*◌, ◌≤◌, List, [], ◌∷◌, get_or}
use Rattle.codes.specs.Ranges.{latest}
use Rattle.annex.specs.declared.Course.{Course}
use Rattle.annex.specs.declared.Figures.{Figures}
use Rattle.annex.specs.declared.Step.{Step}
use Rattle.annex.specs.Figures.{halves_at}
use Rattle.annex.specs.Figure.{Figure, figure_at, most_of}

-- three counts, each at most m
pub record Few (m : ℕ) (n : List ℕ) : Type 0 where
  pub nn : get_or n 0 0 ≤ m
  pub vn : get_or n 1 0 ≤ m
  pub vvn : get_or n 2 0 ≤ m

-- so few half minutes that a step more fits a 64-bit number
pub record Room (f : Figures) : Type 0 where
  pub nn : halves_at f 0 ≤ 1000000000000000000
  pub vn : halves_at f 1 ≤ 1000000000000000000
  pub vvn : halves_at f 2 ≤ 1000000000000000000

-- half minutes that 32-bit counts can have come to by the last time
pub record Timely (c : Course) : Type 0 where
  pub nn : halves_at c.figures 0 ≤ 8589934590 * c.last
  pub vn : halves_at c.figures 1 ≤ 8589934590 * c.last
  pub vvn : halves_at c.figures 2 ≤ 8589934590 * c.last

-- a step that may follow: its time is in order, and there is room for it
pub record Ready (c : Course) (s : Step) : Type 0 where
  pub room : Room c.figures
  pub order : c.last ≤ s.time
  pub ends : s.time ≤ latest

-- figures that one event may add to a level
abbrev pub Within : Figures → ℕ → Type 0
Within f h = (x : Figure) → figure_at x f h ≤ most_of x

-- steps whose times do not fall, from a time on, and end by 600,000
abbrev pub Ordered : ℕ → List Step → Type 0
Ordered before [] = Unit {0}
Ordered before (s ∷ ss) = (before ≤ s.time) × (s.time ≤ latest) × Ordered s.time ss
