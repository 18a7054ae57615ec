use Rattle.std.proofs.Common.{◌+◌, arith}
use Rattle.refill.specs.Arrive.{most_turns}
use Rattle.refill.proofs.take_all.Goals as goal

-- more turns than have passed
pub returns-in_err-take_next : goal.returns-in_err-take_next
returns-in_err-take_next g c begun a =
    let t = c.take_next in
    g.met.P.Pieces.within begun t.new.pieces t.new.buffer (c.loop-turn._turn + 1) most_turns (omega arith) (t.ensures begun c.loop-turn._turn (c.loop-turn.invariant begun a))
