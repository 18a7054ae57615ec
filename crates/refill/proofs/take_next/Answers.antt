use Rattle.std.proofs.Common.{ℕ, subst}
use Rattle.refill.specs.Refill.{Refilled, filled_in}
use Rattle.refill.proofs.take_next.Goals as goal

-- no bytes came
pub returns-in_err-filled : goal.returns-in_err-filled
returns-in_err-filled g c begun turns a =
    let read = c.read_behind in
    let on = subst (λ (n : ℕ). Refilled c.args.buffer.now n (filled_in n read.result) read.new.buffer) c.held-held.ensures read.ensures in
    g.met.P.Pieces.nothing begun c.args.pieces.now c.args.buffer.now read.new.buffer turns _ on a

pub returns-in_default : goal.returns-in_default
returns-in_default g c begun turns a =
    let read = c.read_behind in
    let on = subst (λ (n : ℕ). Refilled c.args.buffer.now n (filled_in n read.result) read.new.buffer) c.held-held.ensures read.ensures in
    g.met.P.Pieces.nothing begun c.args.pieces.now c.args.buffer.now read.new.buffer turns _ on a
