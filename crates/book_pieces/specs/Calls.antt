-- The calls of a reading in pieces, with a feed and its map: begin, pieces, finish.
use Rattle.std.specs.Prelude.{ℕ, List}
use Rattle.records.specs.Calls.{Taker}
use Rattle.book_pieces.specs.declared.Feed.{Feed}
use Rattle.book_pieces.specs.Feed.{fed_answer, fed_of, map_fed, buffer_fed}

pub record Lent : Type 0 where
  pub feed : Feed
  pub map : List ℕ

abbrev pub taker : Taker Lent
taker =
    record {
      holds = λ x. x.feed.held;
      answer = λ x c. fed_answer x.feed x.map c.buffer c.filled;
      next = λ x c.
          record { feed = (fed_of x.feed x.map c.buffer c.filled).feed; map = map_fed x.feed x.map c.buffer c.filled };
      left = λ x c. buffer_fed x.feed x.map c.buffer c.filled;
    }
