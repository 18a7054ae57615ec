-- `place_at` meets its contract: each return stands behind the tests of one case of `place_at`.
-- Assumes nothing.
use mathlib.Core.Path.{sym}
use native.Mathlib.Omega.{arith}
use Rattle.wire.proofs.PlaceLaws.{at_end, at_short, at_small, at_long, at_record}
use Rattle.wire.proofs.place_at.Goals as goal

pub returns-then-n-at : goal.returns-then-n-at
returns-then-n-at c = sym (at_end _ _ c.if-n-at.true)

pub returns-then-left-lt4 : goal.returns-then-left-lt4
returns-then-left-lt4 c = sym (at_short _ _ c.if-n-at.false c.if-left-lt4.true)

pub returns-then-size-lt4 : goal.returns-then-size-lt4
returns-then-size-lt4 c = sym (at_small _ _ c.if-n-at.false c.if-left-lt4.false _ c.u16_at-stated.ensures (omega arith))

pub returns-then-left-size : goal.returns-then-left-size
returns-then-left-size c = sym (at_long _ _ c.if-n-at.false c.if-left-lt4.false _ c.u16_at-stated.ensures (omega arith) (omega arith))

pub returns : goal.returns
returns c = sym (at_record _ _ c.if-n-at.false c.if-left-lt4.false _ c.u16_at-stated.ensures (omega arith) (omega arith))
