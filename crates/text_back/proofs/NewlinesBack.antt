-- A text as bytes: the lines of the bytes of lines are those lines, with a newline after the last or without. No line of a book's text holds a newline, as
-- no byte of a written line is one; so the bytes that book_read prints stand for the book, comments between the lines included.
-- Assumes nothing.
use Prim.Native.Nat.{ℕ, zero, suc}
use mathlib.Core.Path.{◌≡◌, refl, ap, ◌∙◌}
use mathlib.Core.Bool.{Bool, true, false, cond}
use mathlib.Core.List.{List, [], ◌∷◌, ◌++◌, append_assoc}
use lib.Dec.{eqb}
use lib.ListN.{length, take, drop}
use borrow.Author.Tests.{ne_eqb}
use Rattle.base.specs.Lists.{All, Bytes}
use Rattle.base.proofs.ListLaws.{all_append}
use Rattle.wire.specs.Cut.{records_of, stop_from}
use Rattle.text_items.specs.Entry.{Entry}
use Rattle.text_write.specs.Line.{line_of}
use Rattle.unpack.specs.Unpack.{kind_in, unpacked_of, bytes_entry, year_after}
use Rattle.text_back.specs.Text.{bytes_lines_in, bytes_lines, record_lines, book_lines, book_text, written, right, spoken}
use Rattle.text_back.specs.Newlines.{text_bytes, in_front, text_lines, OneLine}
use Rattle.text_back.proofs.Written.{newline_unwritten}
use Rattle.text_back.proofs.TextBack.{text_spoken, commented_read_back}

-- a line in front, with its newline
line_first : (l s : List ℕ) → OneLine l → text_lines (l ++ (10 ∷ s)) ≡ l ∷ text_lines s
line_first [] s a = refl
line_first (b ∷ l) s a = rw (ne_eqb b 10 a.0) (ap (in_front b) (line_first l s a.1))

-- bytes without a newline are one line
line_alone : (b : ℕ) (l : List ℕ) → OneLine (b ∷ l) → text_lines (b ∷ l) ≡ (b ∷ l) ∷ []
line_alone b [] a = rw (ne_eqb b 10 a.0) refl
line_alone b (c ∷ l) a = rw (ne_eqb b 10 a.0) (ap (in_front b) (line_alone c l a.1))

-- lines, each with its newline
pub lines_of_bytes : (ls : List (List ℕ)) → All OneLine ls → text_lines (text_bytes ls) ≡ ls
lines_of_bytes [] a = refl
lines_of_bytes (l ∷ ls) a = line_first l (text_bytes ls) a.0 ∙ ap (λ (ms : List (List ℕ)). l ∷ ms) (lines_of_bytes ls a.1)

-- "the last one may do without"
pub last_without : (ls : List (List ℕ)) (b : ℕ) (l : List ℕ) → All OneLine ls → OneLine (b ∷ l) → text_lines (text_bytes ls ++ (b ∷ l)) ≡ ls ++ ((b ∷ l) ∷ [])
last_without [] b l a o = line_alone b l o
last_without (m ∷ ls) b l a o =
    ap text_lines (append_assoc m (10 ∷ text_bytes ls) (b ∷ l)) ∙
    line_first m (text_bytes ls ++ (b ∷ l)) a.0 ∙
    ap (λ (ms : List (List ℕ)). m ∷ ms) (last_without ls b l a.1 o)

-- a written line holds no newline
pub line_one_line : (e : Entry) (year : ℕ) → OneLine (line_of e year)
line_one_line e year = newline_unwritten e.kind year (take e.count e.values)

-- nor does a line of a book's text
bytes_one_line : (n : ℕ) (s : List ℕ) → All OneLine (bytes_lines_in n s)
bytes_one_line zero s = tt
bytes_one_line (suc n) s = go (eqb (length s) 0) (bytes_one_line n (drop 32 s))
  where
    go : (t : Bool) → All OneLine (bytes_lines_in n (drop 32 s)) → All OneLine (cond t [] (line_of (bytes_entry s) 0 ∷ bytes_lines_in n (drop 32 s)))
    go true others = tt
    go false others = (line_one_line (bytes_entry s) 0, others)

record_one_line : (s : List ℕ) (year : ℕ) → All OneLine (record_lines s year)
record_one_line s year = go (eqb (kind_in s) 0)
  where
    go : (t : Bool) → All OneLine (cond t (bytes_lines s) (line_of (unpacked_of s) year ∷ []))
    go true = bytes_one_line (length s) s
    go false = (line_one_line (unpacked_of s) year, tt)

records_one_line : (rs : List (List ℕ)) (rest : List ℕ) (year : ℕ) → All OneLine (book_lines year rs rest)
records_one_line [] rest year = bytes_one_line (length rest) rest
records_one_line (r ∷ rs) rest year =
    all_append OneLine (record_lines r year) (book_lines (year_after year r) rs rest) (record_one_line r year) (records_one_line rs rest (year_after year r))

-- no line of a book's text holds a newline
pub book_one_line : (book : List ℕ) → All OneLine (book_text book)
book_one_line book = records_one_line (records_of book) (drop (stop_from book 0) book) 0

-- bytes whose lines are those of a book's text, with any comments and blank lines between them, stand for the book, and no line of them is refused
pub printed_read_back :
    (book : List ℕ) (ls : List (List ℕ)) →
    Bytes book →
    All OneLine ls →
    spoken ls ≡ book_text book →
    (written (text_lines (text_bytes ls)) ≡ book) × (right (text_lines (text_bytes ls)) ≡ true)
printed_read_back book ls b a e =
    let same = lines_of_bytes ls a in
    let back = commented_read_back book ls b e in (
      ap written same ∙ back.0,
      ap right same ∙ back.1,
    )

-- a book's text alone does
pub text_read_back : (book : List ℕ) → Bytes book → written (text_lines (text_bytes (book_text book))) ≡ book
text_read_back book b = (printed_read_back book (book_text book) b (book_one_line book) (text_spoken book)).0
