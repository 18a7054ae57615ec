-- "The counts of step k hold from the time before it (T0 for the first) to its own time" (01, "What one event adds", Stepped).
use Rattle.std.specs.Prelude.{ℕ, ◌-◌, List, [], ◌∷◌}
use Rattle.annex.specs.declared.Course.{Course}
use Rattle.annex.specs.declared.Figures.{Figures}
use Rattle.annex.specs.declared.Step.{Step}
use Rattle.annex.specs.Figures.{nothing, with_step}

-- an outage before its first step
abbrev pub begun : ℕ → Course
begun t0 = record { last = t0; figures = nothing }

-- one step more
abbrev pub coursed : Course → Step → Course
coursed c s = record { last = s.time; figures = with_step c.figures s.counts (s.time - c.last) }

-- the fold that a stepped record and a desk's slot share
abbrev pub coursed_all : Course → List Step → Course
coursed_all c [] = c
coursed_all c (s ∷ ss) = coursed_all (coursed c s) ss

-- the last step's time; T0 where there is none
abbrev pub last_time : ℕ → List Step → ℕ
last_time before [] = before
last_time before (s ∷ ss) = last_time s.time ss

-- what a stepped event adds
abbrev pub stepped_figures : ℕ → List Step → Figures
stepped_figures t0 ss = (coursed_all (begun t0) ss).figures
