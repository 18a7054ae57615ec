use Prim.Native.Nat.{◌+◌, ◌*◌, ◌-◌}
use mathlib.Core.Path.{◌≡◌}
use Rattle.annex.specs.Inside.{Timely}
use Rattle.fields.specs.Fields.{steps_from}
use Rattle.walk.specs.Walk.{set_out, walked}
use Rattle.walk.proofs.walk_of.Given as goal

-- the steps that are left take the walk so far to the whole walk
abbrev pub invariant-loop-i : goal.invariant-loop-i
invariant-loop-i l =
    Timely l.walk.course ×
    (walked (set_out l.t0) (steps_from l.s l.steps 14) ≡ walked l.walk (steps_from l.s (l.steps - l.i) (14 + 16 * l.i)))
