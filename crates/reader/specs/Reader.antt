-- What asking a reader is, on lists. A reader of a book stands at an offset. Asked there, it answers `which_at book at` and the bytes
-- `record_at book at`, and stands at `after_at book at` from then on (the contract of `Reader::next`).
use Rattle.std.specs.Prelude.{ℕ, zero, suc, ◌+◌, ◌-◌, ◌<◌, ◌≤◌, List, [], ◌∷◌, cond, ◌⊎◌, eqb, length, Result, Ok, Err, Option, Some, None}
use denote.Ref.{Bor}
use Rattle.wire.specs.Numbers.{le16}
use Rattle.wire.specs.Book.{which_at, record_at, after_at}
use Rattle.reader.specs.declared.Broken.{Broken}

-- what `next` answers, as a number and bytes: 0 a record, 1 the end, 2 a broken length, and no bytes where there is no record
abbrev pub which_in : Result (Option (Bor (List ℕ))) Broken → ℕ
which_in (Ok (Some bytes)) = 0
which_in (Ok None) = 1
which_in (Err broken) = 2

abbrev pub bytes_in : Result (Option (Bor (List ℕ))) Broken → List ℕ
bytes_in (Ok (Some bytes)) = bytes.now
bytes_in (Ok None) = []
bytes_in (Err broken) = []

-- "the end when no byte is left"
abbrev pub NoneLeft : List ℕ → ℕ → Type 0
NoneLeft book at = length book ≤ at

-- "a broken length (stated under 4 or past the end, or only 1 to 3 bytes left)"
abbrev pub BrokenLength : List ℕ → ℕ → Type 0
BrokenLength book at = (at < length book) × ((le16 book at < 4) ⊎ (length book < at + le16 book at) ⊎ (length book - at < 4))

-- and else a record stands there
abbrev pub WholeRecord : List ℕ → ℕ → Type 0
WholeRecord book at = (4 ≤ le16 book at) × (at + le16 book at ≤ length book)

-- asked from an offset on, until no record is answered, at most n times: the records
unfoldable pub asked : ℕ → List ℕ → ℕ → List (List ℕ)
asked zero book at = []
asked (suc n) book at = cond (eqb (which_at book at) 0) (record_at book at ∷ asked n book (after_at book at)) []

-- and where the reader is left
unfoldable pub stopped : ℕ → List ℕ → ℕ → ℕ
stopped zero book at = at
stopped (suc n) book at = cond (eqb (which_at book at) 0) (stopped n book (after_at book at)) at

-- where the reader stands that is asked n times, whatever it answers
unfoldable pub stands_after : ℕ → List ℕ → ℕ → ℕ
stands_after zero book at = at
stands_after (suc n) book at = stands_after n book (after_at book at)
