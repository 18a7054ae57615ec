use Rattle.std.proofs.Common.{◌+◌, refl}
use Rattle.element_file.specs.Yearly.{take_record}
use Rattle.element_pieces.specs.Inflow.{reading_of, taker}
use Rattle.element_pieces.proofs.LinkLaws.{goes_on, stays}
use Rattle.refill.specs.Arrive.{Arrived}
use Rattle.refill.proofs.ArriveLaws.{turn_taken}
use Rattle.element_input.proofs.FileEndingPieces.take_piece.Goals as goal

-- a piece came
pub returns-in-Ok : goal.returns-in-Ok
returns-in-Ok c begun b turns small on a =
    let e = c.in-Ok.ensures in
    coe 1 0 (i. Arrived take_record (reading_of begun.flow).state (reading_of (e.0 i).flow) (e.1 i) (turns + 1))
    (turn_taken take_record taker reading_of goes_on stays c.args.self.now.flow b c.args.buffer.now _ on refl small _ turns a)

pub returns-in-Err : goal.returns-in-Err
returns-in-Err c begun b turns small on a =
    let e = c.in-Err.ensures in
    coe 1 0 (i. Arrived take_record (reading_of begun.flow).state (reading_of (e.0 i).flow) (e.1 i) (turns + 1))
    (turn_taken take_record taker reading_of goes_on stays c.args.self.now.flow b c.args.buffer.now _ on refl small _ turns a)
