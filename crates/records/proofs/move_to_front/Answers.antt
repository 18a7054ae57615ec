-- What `copy_within` leaves at the front is `moved`; and where the two places are none of the buffer's, or the first is its front, nothing moves. Assumes
-- nothing.
use Prim.Native.Nat.{ℕ}
use mathlib.Core.Path.{◌≡◌, ap, ◌∙◌}
use mathlib.Core.Logic.{inl, inr}
use native.Mathlib.Omega.{arith}
use Rattle.records.specs.Pieces.{moved}
use Rattle.records.proofs.MoveLaws.{copied_front, moved_short, moved_none, moved_still}
use Rattle.records.proofs.move_to_front.Goals as goal

pub returns-then-end-buffer : goal.returns-then-end-buffer
returns-then-end-buffer c = let a = c.args in c.copy_within.ensures.after ∙ copied_front a.buffer.now a.start a.end c.if-end-buffer.true

pub returns-else-start-gt0 : goal.returns-else-start-gt0
returns-else-start-gt0 c =
    let a = c.args in
    elim c.else-start-gt0.either [
      | inl h ↦ moved_short a.buffer.now a.start a.end h.2
      | inr (inl h) ↦ moved_none a.buffer.now a.start a.end h.1
      | inr (inr h) ↦ let still : 0 ≡ a.start = omega (arith, h) in moved_still a.buffer.now a.end ∙ ap (λ (k : ℕ). moved a.buffer.now k a.end) still
    ]
