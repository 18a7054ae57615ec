-- A book taken in pieces: "the year report reads one book from standard input", of any length, in constant memory.
use Rattle.std.specs.Prelude.{ℕ, ◌+◌, List, true, false, ◌&&◌, cond, length, eqb, Result, Ok, Err}
use Rattle.records.specs.Pieces.{Held, held_on, buffer_on, end_answer, piece_answer}
use Rattle.used_numbers.specs.Marks.{map_size}
use Rattle.ledger.specs.declared.Ledger.{Ledger}
use Rattle.ledger.specs.Sound.{sound_ledger}
use Rattle.refusals.specs.declared.Refusal.{Refusal}
use Rattle.refusals.specs.Refusals.{number_of}
use Rattle.book.specs.declared.Read.{Read as Outcome}
use Rattle.book.specs.Book.{Read, BookState, take_record}
use Rattle.book_pieces.specs.declared.Feed.{Feed}

-- an answer number, and the next feed
pub record Fed : Type 0 where
  pub answer : ℕ
  pub feed : Feed

-- an outcome by number and feed: a refusal leaves the feed that stands beside it
abbrev pub fed_in : Feed → Result Feed Refusal → Fed
fed_in left (Ok next) = record { answer = 0; feed = next }
fed_in left (Err refusal) = record { answer = number_of refusal; feed = left }

abbrev pub finished_in : Feed → Result Outcome Refusal → Read
finished_in left (Ok r) = record { answer = 0; ledger = r.ledger; refused = r.refused; broken = r.broken }
finished_in left (Err refusal) = record { answer = number_of refusal; ledger = left.ledger; refused = left.refused; broken = false }

-- a feed that begins: nothing is refused, and nothing held
abbrev pub begun_of : Ledger → Feed
begun_of l = record { ledger = l; refused = 0; held = 0; dead = false }

-- the reading that a feed, with its map, holds; and back
abbrev pub reading_of : Feed → List ℕ → Held BookState
reading_of f m = record { state = record { ledger = f.ledger; map = m; refused = f.refused }; held = f.held; dead = f.dead }

abbrev pub feed_of : Held BookState → Feed
feed_of h = record { ledger = h.state.ledger; refused = h.state.refused; held = h.held; dead = h.dead }

-- what a piece is refused for: 1 as a record, for "map not 8,192 bytes, unsound ledger"
abbrev pub fed_answer : Feed → List ℕ → List ℕ → ℕ → ℕ
fed_answer f m b filled = piece_answer (eqb (length m) map_size && sound_ledger f.ledger) f.refused (length b) filled

-- the reading with the records of the first `filled` bytes of a buffer, where they are taken
abbrev pub read_on : Feed → List ℕ → List ℕ → ℕ → Held BookState
read_on f m b filled = held_on take_record (reading_of f m) b filled

unfoldable pub fed_of : Feed → List ℕ → List ℕ → ℕ → Fed
fed_of f m b filled =
    record {
      answer = fed_answer f m b filled;
      feed = cond (eqb (fed_answer f m b filled) 0) (feed_of (read_on f m b filled)) f;
    }

unfoldable pub map_fed : Feed → List ℕ → List ℕ → ℕ → List ℕ
map_fed f m b filled = cond (eqb (fed_answer f m b filled) 0) (read_on f m b filled).state.map m

unfoldable pub buffer_fed : Feed → List ℕ → List ℕ → ℕ → List ℕ
buffer_fed f m b filled = cond (eqb (fed_answer f m b filled) 0) (buffer_on (reading_of f m) b filled) b

-- once the input has ended: an unsound ledger has no outcome; what is left over is a broken length, and "counts as one refusal"
abbrev pub finish_answer : Feed → ℕ
finish_answer f = end_answer (sound_ledger f.ledger) f.refused

unfoldable pub finished_of : Feed → Read
finished_of f =
    cond (eqb (finish_answer f) 0)
    (cond (eqb f.held 0)
    (record { answer = 0; ledger = f.ledger; refused = f.refused; broken = false })
    (record { answer = 0; ledger = f.ledger; refused = f.refused + 1; broken = true }))
    (record { answer = finish_answer f; ledger = f.ledger; refused = f.refused; broken = false })
