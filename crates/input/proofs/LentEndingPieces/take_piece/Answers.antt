use Rattle.std.proofs.Common.{◌+◌, refl}
use Rattle.book.specs.Book.{take_record}
use Rattle.book_pieces.specs.Feed.{reading_of}
use Rattle.book_pieces.specs.Calls.{taker}
use Rattle.book_pieces.proofs.CallLaws.{reading, goes_on, stays}
use Rattle.refill.specs.Arrive.{Arrived}
use Rattle.refill.proofs.ArriveLaws.{turn_taken}
use Rattle.input.proofs.LentEndingPieces.take_piece.Goals as goal

-- a piece came
pub returns-in-Ok : goal.returns-in-Ok
returns-in-Ok c begun b turns small on a =
    let e = c.in-Ok.ensures in
    coe 1 0 (i. Arrived take_record (reading_of begun.feed begun.map).state (reading_of (e.0 i).feed (e.1 i)) (e.2 i) (turns + 1))
    (turn_taken take_record taker reading goes_on stays (record { feed = c.args.self.now.feed; map = c.args.self.now.map }) b c.args.buffer.now _ on refl small _ turns a)

pub returns-in-Err : goal.returns-in-Err
returns-in-Err c begun b turns small on a =
    let e = c.in-Err.ensures in
    coe 1 0 (i. Arrived take_record (reading_of begun.feed begun.map).state (reading_of (e.0 i).feed (e.1 i)) (e.2 i) (turns + 1))
    (turn_taken take_record taker reading goes_on stays (record { feed = c.args.self.now.feed; map = c.args.self.now.map }) b c.args.buffer.now _ on refl small _ turns a)
