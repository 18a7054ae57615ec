-- The levels that were looked at are within what their minutes allow. Assumes nothing.
use Prim.Native.Nat.{ℕ, ◌<◌}
use mathlib.Core.Path.{◌≡◌}
use mathlib.Core.Bool.{true}
use Rattle.slot.proofs.SoundLaws.{within}
use Rattle.slot.proofs.Slot.open_sound.Given as goal

abbrev pub invariant-loop-level : goal.invariant-loop-level
invariant-loop-level l = (k : ℕ) → k < l.level → within l.self k ≡ true
