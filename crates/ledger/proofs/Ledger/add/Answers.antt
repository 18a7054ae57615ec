-- The verdict's row is read, grown and written back; events and short events are added. A sound ledger has room for all of it. Assumes nothing.
use Prim.Native.Nat.{◌+◌}
use lib.ListN.{set}
use native.Mathlib.Omega.{arith}
use Rattle.ledger.specs.Ledger.{added}
use Rattle.ledger.proofs.LedgerLaws.{sound_spare, sound_short, fair_small}
use Rattle.ledger.proofs.Ledger.add.Goals as goal

pub grown-requires : goal.grown-requires
grown-requires c =
    (sound_spare c.args.self c.requires.sound c.args.accepted.row, fair_small _ _ _ c.requires.fair)

pub overflow_add-self : goal.overflow_add-self
overflow_add-self c = let f = c.requires.fair in omega arith

pub overflow_add-self-2 : goal.overflow_add-self-2
overflow_add-self-2 c =
    let f = c.requires.fair in
    omega (arith, sound_short c.args.self c.requires.sound)

pub returns : goal.returns
unfolding added
returns c =
    let a = c.args in
    λ i. record { sheet = a.accepted.sheet; events = a.self.events + a.accepted.events; short = a.self.short + a.accepted.short; rows = set a.self.rows a.accepted.row (c.grown.ensures i) }
