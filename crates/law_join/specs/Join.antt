-- "Joining puts the second book's events, without its sheet, after the first book" (01, "Bytes on the wire"), and what *joining* says: two accepted
-- books under one year sheet that share no event number join into an accepted book whose totals, as `IsSum` has them, are the sums.
use Rattle.std.specs.Prelude.{ℕ, ◌+◌, ◌<◌, ◌≡◌, List, ◌++◌, false, ◌||◌}
use Rattle.base.specs.Lists.{All, listed}
use Rattle.wire.specs.Cut.{records_of, joined}
use Rattle.codes.specs.Codes.{rows, levels}
use Rattle.annex.specs.Figure.{Figure}
use Rattle.used_numbers.specs.Marks.{marked}
use Rattle.ledger.specs.Ledger.{held_in}
use Rattle.law_sums.specs.Accepted.{Accepted, numbers_of}
use Rattle.law_sums.specs.Theorem.{events_of, sheets_of, book_ledger, book_map, IsSum}

-- the event numbers of a book's events
abbrev pub numbers_in : List ℕ → List ℕ
numbers_in book = numbers_of (events_of book)

-- no event number of the one book stands in the other
abbrev pub SharesNone : List ℕ → List ℕ → Type 0
SharesNone book₁ book₂ = All (λ (v : ℕ). listed v (numbers_in book₁) ≡ false) (numbers_in book₂)

-- one year sheet: the same record, or no record in either
abbrev pub SameSheet : List ℕ → List ℕ → Type 0
SameSheet book₁ book₂ = sheets_of book₁ ≡ sheets_of book₂

-- the first book, and after it the second book's events
abbrev pub joined_book : List ℕ → List ℕ → List ℕ
joined_book book₁ book₂ = book₁ ++ joined (events_of book₂)

pub record JoinAdds (book₁ book₂ : List ℕ) : Type 0 where
  pub accepted : Accepted (joined_book book₁ book₂)
  -- the totals of all three books are the annex's sums over their events
  pub total₁ : IsSum book₁
  pub total₂ : IsSum book₂
  pub total : IsSum (joined_book book₁ book₂)
  -- and the events of the two are the events of the joined book
  pub records : records_of (joined_book book₁ book₂) ≡ records_of book₁ ++ events_of book₂
  pub all : events_of (joined_book book₁ book₂) ≡ events_of book₁ ++ events_of book₂
  pub events : (book_ledger (joined_book book₁ book₂)).events ≡ (book_ledger book₁).events + (book_ledger book₂).events
  pub short : (book_ledger (joined_book book₁ book₂)).short ≡ (book_ledger book₁).short + (book_ledger book₂).short
  pub cells :
      (x : Figure) (row h : ℕ) →
      row < rows →
      h < levels →
      held_in x (book_ledger (joined_book book₁ book₂)) row h ≡ held_in x (book_ledger book₁) row h + held_in x (book_ledger book₂) row h
  -- year and customers of each level stay
  pub sheet₁ : (book_ledger (joined_book book₁ book₂)).sheet ≡ (book_ledger book₁).sheet
  pub sheet₂ : (book_ledger (joined_book book₁ book₂)).sheet ≡ (book_ledger book₂).sheet
  -- a number is marked where either book marks it
  pub marks : (v : ℕ) → marked (book_map (joined_book book₁ book₂)) v ≡ (marked (book_map book₁) v || marked (book_map book₂) v)
