-- Any run of calls (begin, pieces, finish) comes to what the whole book comes to in one call. Assumes nothing.
use mathlib.Core.Path.{◌≡◌, refl, sym, ◌∙◌}
use Prim.Native.Nat.{ℕ, ◌≤◌}
use mathlib.Core.Bool.{false}
use mathlib.Core.List.{List}
use lib.ListN.{length}
use Rattle.wire.specs.Cut.{joined}
use Rattle.records.specs.Pieces.{most_refused, beginning, Held}
use Rattle.records.specs.Calls.{Call, pieces_of, after_calls, Answered}
use Rattle.records.proofs.HeldLaws.{begins_holding}
use Rattle.records.proofs.CallLaws.{GoesOn, calls_hold}
use Rattle.ledger.specs.declared.Ledger.{Ledger}
use Rattle.ledger.specs.Take.{unsound}
use Rattle.book.specs.Book.{BookState, starting, take_record, read_of, map_read}
use Rattle.book.proofs.RunLaws.{read_through}
use Rattle.book_pieces.specs.Feed.{begun_of, reading_of, finished_of}
use Rattle.book_pieces.specs.Calls.{Lent, taker}
use Rattle.book_pieces.proofs.FeedLaws.{feed_refused, buffer_long, fed_on}
use Rattle.book_pieces.proofs.LinkLaws.{finish_whole, count_fits, map_whole}

abbrev pub reading : Lent → Held BookState
reading x = reading_of x.feed x.map

-- a call that is answered 0 takes the reading on, and tells no more bytes than the buffer has
pub goes_on : GoesOn take_record taker reading
goes_on =
    record {
      holds = λ x. refl;
      next = λ x c zero. let e = fed_on x.feed x.map c.buffer c.filled zero in λ i. reading_of (sym e.0 i).feed (sym e.1 i);
      left = λ x c zero. sym (fed_on x.feed x.map c.buffer c.filled zero).2;
      room = λ x c zero. buffer_long x.feed x.map c.buffer c.filled zero;
    }

-- a call that is refused changes nothing
pub stays : (x : Lent) (c : Call) → (taker.answer x c ≡ 0 → ⊥) → (taker.next x c ≡ x) × (taker.left x c ≡ c.buffer)
stays x c not-zero =
    let e = feed_refused x.feed x.map c.buffer c.filled not-zero in
    (λ i. record { feed = (sym e.0 i).feed; map = sym e.1 i }, sym e.2)

module _ (l : Ledger) (m b : List ℕ) (cs : List Call) where
  abbrev pub begun : Lent
  begun = record { feed = begun_of l; map = m }

  abbrev pub book : List ℕ
  book = joined (pieces_of taker begun cs)

  abbrev pub ended : Lent
  ended = after_calls taker begun cs

  -- outcome and map are those of the whole book, where it has at most 2^62 bytes
  pub calls_whole :
      unsound l m ≡ false →
      Answered taker begun b cs →
      length book ≤ most_refused →
      (finished_of ended.feed ≡ read_of l m book) × (ended.map ≡ map_read l m book)
  calls_whole sound answered short =
      let ps = pieces_of taker begun cs in
      let (b₁, h) = calls_hold take_record taker reading goes_on begun b cs (beginning (starting l m)) (begins_holding take_record (starting l m) b) answered in (
        finish_whole l m ps ended.feed ended.map b₁ h (count_fits l m ps ended.feed ended.map b₁ h short) sound,
        map_whole l m ps ended.feed ended.map b₁ h ∙ sym (read_through l m book sound).1,
      )
