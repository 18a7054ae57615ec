use Rattle.input.proofs.WholeLaws.{begun_here, from_empty, is_read, read_is}
use Rattle.input.proofs.read_book.Goals as goal

-- what came is held by the feed that is finished
pub unwrap-read-requires : goal.unwrap-read-requires
unwrap-read-requires g c =
    let b = c.begun-lent in
    let t = c.take_all-all in
    let came = from_empty _ _ b.ensures.0 b.ensures.1 _ _ _ (t.ensures b.result (begun_here _ _ b.ensures.0 b.ensures.1 _)) in
    is_read t.new.pieces.feed t.new.pieces.map t.new.buffer came c.finish.result c.finish.ensures

pub returns-in-Ok : goal.returns-in-Ok
returns-in-Ok g c =
    let b = c.begun-lent in
    let t = c.take_all-all in
    let came = from_empty _ _ b.ensures.0 b.ensures.1 _ _ _ (t.ensures b.result (begun_here _ _ b.ensures.0 b.ensures.1 _)) in
    read_is t.new.pieces.feed t.new.pieces.map t.new.buffer came c.finish.result c.finish.ensures _ c.unwrap-read.ensures

pub returns-in-Err : goal.returns-in-Err
returns-in-Err g c =
    let b = c.begun-lent in
    let t = c.take_all-all in
    let came = from_empty _ _ b.ensures.0 b.ensures.1 _ _ _ (t.ensures b.result (begun_here _ _ b.ensures.0 b.ensures.1 _)) in
    read_is t.new.pieces.feed t.new.pieces.map t.new.buffer came c.finish.result c.finish.ensures _ c.unwrap-read.ensures
