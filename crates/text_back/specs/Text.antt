-- A whole book as text: the lines of its records, as book_read prints them between its comments, and the bytes that lines stand for, as book_write writes
-- them.
use Rattle.std.specs.Prelude.{ℕ, zero, suc, List, [], ◌∷◌, ◌++◌, Bool, true, ◌&&◌, not, cond, eqb, length, drop}
use Rattle.base.specs.Lists.{keep}
use Rattle.wire.specs.Cut.{records_of, stop_from}
use Rattle.text_scan.specs.Scan.{gaps_in, ends_here}
use Rattle.text_parse.specs.Entry.{parsed_of}
use Rattle.text_write.specs.Line.{line_of}
use Rattle.unpack.specs.Unpack.{kind_in, unpacked_of, bytes_entry, year_after}
use Rattle.text_back.specs.Mirror.{line_bytes}

-- the lines of some bytes in hexadecimal digits, 32 to a line; as many turns as there are bytes are enough
abbrev pub bytes_lines_in : ℕ → List ℕ → List (List ℕ)
bytes_lines_in zero s = []
bytes_lines_in (suc n) s = cond (eqb (length s) 0) [] (line_of (bytes_entry s) 0 ∷ bytes_lines_in n (drop 32 s))

abbrev pub bytes_lines : List ℕ → List (List ℕ)
bytes_lines s = bytes_lines_in (length s) s

-- the lines of a record: one line, or its bytes where no line expresses it
abbrev pub record_lines : List ℕ → ℕ → List (List ℕ)
record_lines s year = cond (eqb (kind_in s) 0) (bytes_lines s) (line_of (unpacked_of s) year ∷ [])

-- the lines of records, and of the bytes after them; times are told in the year of the first sheet in range
abbrev pub book_lines : ℕ → List (List ℕ) → List ℕ → List (List ℕ)
book_lines year [] rest = bytes_lines rest
book_lines year (r ∷ rs) rest = record_lines r year ++ book_lines (year_after year r) rs rest

-- the lines of a book: its records, and the bytes from a broken length on
abbrev pub book_text : List ℕ → List (List ℕ)
book_text book = book_lines 0 (records_of book) (drop (stop_from book 0) book)

-- the year after a line: a sheet's line alone changes it
abbrev pub year_on : ℕ → List ℕ → ℕ
year_on year line = cond (eqb (parsed_of line year).entry.kind 1) (year_after year (line_bytes line year)) year

-- the bytes that lines stand for, one line's after the other's
abbrev pub written_from : ℕ → List (List ℕ) → List ℕ
written_from year [] = []
written_from year (l ∷ ls) = line_bytes l year ++ written_from (year_on year l) ls

abbrev pub written : List (List ℕ) → List ℕ
written ls = written_from 0 ls

-- no line is refused: nothing is written unless all of it is right
abbrev pub right_from : ℕ → List (List ℕ) → Bool
right_from year [] = true
right_from year (l ∷ ls) = eqb (parsed_of l year).answer 0 && right_from (year_on year l) ls

abbrev pub right : List (List ℕ) → Bool
right ls = right_from 0 ls

-- a line that says nothing: gaps alone, or gaps and a comment
abbrev pub silent : List ℕ → Bool
silent line = ends_here (drop (gaps_in line) line)

-- the lines that say something
abbrev pub spoken : List (List ℕ) → List (List ℕ)
spoken ls = keep (λ (l : List ℕ). not (silent l)) ls
