-- "Reordering moves the events after the sheet" (01, "Bytes on the wire"), and what *reordering* says: the reordered book is accepted, and ledger and
-- map at its end are the same.
use Rattle.std.specs.Prelude.{ℕ, ◌≡◌, List, [], ◌∷◌}
use Rattle.ledger.specs.Ledger.{empty_ledger}
use Rattle.book.specs.Book.{BookState, after_book}
use Rattle.law_sums.specs.Accepted.{zero_map, Accepted}
use Rattle.base.specs.Perm.{Perm}

-- a book's records, the sheet first as before, and the events in any order; the book of no bytes has neither
pub data Reordered : List (List ℕ) → List (List ℕ) → Type 0 where
  none : Reordered [] []
  after : {sheet : List ℕ} {events events' : List (List ℕ)} → Perm events events' → Reordered (sheet ∷ events) (sheet ∷ events')

-- a book taken from an empty ledger and an all-zero map
abbrev pub end : List ℕ → BookState
end book = after_book empty_ledger zero_map book

pub record SameEnd (book book' : List ℕ) : Type 0 where
  pub accepted : Accepted book'
  pub ledger : (end book').ledger ≡ (end book).ledger
  pub map : (end book').map ≡ (end book).map
