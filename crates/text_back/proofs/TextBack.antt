-- The whole way back: the lines of a book are taken without a refusal and stand for the same bytes, for every input. Each record's lines stand for the
-- record and leave the year as the record does; the records and the bytes after them are the book. Comments and blank lines, which book_read puts between,
-- add nothing. Assumes nothing.
use Prim.Native.Nat.{ℕ, zero, suc, ◌+◌, ◌<◌, ◌≤◌}
use mathlib.Core.Path.{◌≡◌, refl, sym, ap, subst, ◌∙◌}
use mathlib.Core.Bool.{Bool, true, false, ◌&&◌, cond}
use mathlib.Core.List.{List, [], ◌∷◌, ◌++◌, append_assoc, append-nil}
use lib.Dec.{eqb}
use lib.ListN.{length, take, drop, length-take, length-drop, take-append-drop}
use native.Mathlib.Omega.{arith}
use native.Mathlib.Nat.{le_refl}
use borrow.Author.Tests.{eqb-true, eqb-false, ne_eqb}
use Rattle.base.specs.Lists.{All, Bytes, Byte}
use Rattle.base.proofs.TestLaws.{Tested, holds, fails, test}
use Rattle.base.proofs.ListLaws.{all_append, all_front, all_back, all_take, all_drop}
use Rattle.wire.specs.Cut.{records_of, stop_from, joined}
use Rattle.wire.proofs.CutLaws.{records_joined}
use Rattle.text_items.specs.Entry.{Entry}
use Rattle.text_items.specs.Shape.{whole_of, within_from, entry_of, no_entry, item_of}
use Rattle.text_scan.specs.Scan.{is_gap, gaps_in}
use Rattle.text_parse.specs.Entry.{parsed_of, word_text}
use Rattle.text_write.specs.Line.{item_text, gap_text, items_text, line_of}
use Rattle.unpack.specs.Unpack.{kind_in, values_in, unpacked_of, bytes_entry, year_after}
use Rattle.unpack.proofs.UnpackLaws.{year_kept, year_none}
use Rattle.pack.specs.Pack.{packed_of}
use Rattle.text_back.specs.Mirror.{line_bytes}
use Rattle.text_back.specs.Text.{bytes_lines_in, bytes_lines, record_lines, book_lines, book_text, year_on, written_from, written, right_from, right, silent, spoken}
use Rattle.text_back.proofs.LineBack.{word_gapless, word_goes_on, line_back}
use Rattle.text_back.proofs.RecordBack.{expressed, record_whole, record_within, bytes_back, hex_whole, hex_within}
use Rattle.text_back.proofs.BookBack.{line_of_numbers, entry_back, sort_of, record_read_back}

-- lines stand for bytes, with the year before them and the year after them, whatever lines follow; and none of them is refused
abbrev Stands : ℕ → List (List ℕ) → List ℕ → ℕ → Type 0
Stands year ls s next =
    (more : List (List ℕ)) → (written_from year (ls ++ more) ≡ s ++ written_from next more) × (right_from year (ls ++ more) ≡ right_from next more)

-- one line
line_stands : (year next : ℕ) (l s : List ℕ) → (parsed_of l year).answer ≡ 0 → line_bytes l year ≡ s → year_on year l ≡ next → Stands year (l ∷ []) s next
line_stands year next l s a b y more =
    let taken : right_from year (l ∷ more) ≡ right_from (year_on year l) more = rw a in (
      (λ i. b i ++ written_from (y i) more),
      taken ∙ ap (λ (n : ℕ). right_from n more) y,
    )

-- lines before lines
both_stand :
    (year mid next : ℕ) (ls ms : List (List ℕ)) (s t : List ℕ) → Stands year ls s mid → Stands mid ms t next → Stands year (ls ++ ms) (s ++ t) next
both_stand year mid next ls ms s t a b more = (
  ap (written_from year) (append_assoc ls ms more) ∙ (a (ms ++ more)).0 ∙ ap (λ (l : List ℕ). s ++ l) (b more).0 ∙ sym (append_assoc s t (written_from next more)),
  ap (right_from year) (append_assoc ls ms more) ∙ (a (ms ++ more)).1 ∙ (b more).1,
)

-- a written line is taken, as an entry of its sort
module _ (kind year : ℕ) (vs : List ℕ) (low : 1 ≤ kind) (high : kind ≤ 4) (w : whole_of kind (length vs) ≡ true) (in' : within_from kind 0 vs ≡ true) where
  line_taken : (parsed_of (line_of (entry_of kind vs) year) year).answer ≡ 0
  line_taken = ap (λ (l : List ℕ). (parsed_of l year).answer) (line_of_numbers kind year vs) ∙ (line_back kind year vs low high w in').0

  line_sort : (parsed_of (line_of (entry_of kind vs) year) year).entry.kind ≡ kind
  line_sort =
      ap (λ (l : List ℕ). (parsed_of l year).entry.kind) (line_of_numbers kind year vs) ∙
      ap (λ (e : Entry). e.kind) (line_back kind year vs low high w in').1

-- a line of bytes is the same under any year, as no time stands in it
hex_items : (year k : ℕ) (vs : List ℕ) → items_text 4 0 k vs ≡ items_text 4 year k vs
unfolding item_text item_of
hex_items year k [] = refl
hex_items year k (v ∷ vs) = ap (λ (l : List ℕ). gap_text 4 k ++ (item_text (item_of 4 k) 0 v ++ l)) (hex_items year (k + 1) vs)

hex_line : (year : ℕ) (vs : List ℕ) → line_of (entry_of 4 vs) 0 ≡ line_of (entry_of 4 vs) year
hex_line year vs = ap (λ (l : List ℕ). word_text 4 ++ l) (hex_items year 0 (take (length vs) (entry_of 4 vs).values))

-- so it stands for its bytes under any year, which it leaves
hex_stands : (year : ℕ) (vs : List ℕ) → Bytes vs → 1 ≤ length vs → length vs ≤ 32 → Stands year (line_of (entry_of 4 vs) 0 ∷ []) vs year
hex_stands year vs b some few =
    let w = hex_whole vs some few in
    let n = hex_within vs b in
    let sort = line_sort 4 year vs (omega arith) (omega arith) w n in
    let l : List ℕ = line_of (entry_of 4 vs) year in
    rw (hex_line year vs)
    (line_stands year year l vs
    (line_taken 4 year vs (omega arith) (omega arith) w n)
    (entry_back 4 year vs (omega arith) (omega arith) w n ∙ bytes_back vs b)
    (rw sort))

-- bytes, 32 to a line
bytes_stand : (n : ℕ) (s : List ℕ) (year : ℕ) → Bytes s → length s ≤ n → Stands year (bytes_lines_in n s) s year
unfolding bytes_entry
bytes_stand zero [] year b h = λ more. (refl, refl)
bytes_stand (suc n) [] year b h = λ more. (refl, refl)
bytes_stand zero (x ∷ s) year b h = absurd (omega arith)
bytes_stand (suc n) (x ∷ s) year b h =
    let t : List ℕ = x ∷ s in
    let some : 1 ≤ length (take 32 t) = omega (arith, length-take 32 t) in
    let few : length (take 32 t) ≤ 32 = omega (arith, length-take 32 t) in
    let front : Stands year (line_of (entry_of 4 (take 32 t)) 0 ∷ []) (take 32 t) year = hex_stands year (take 32 t) (all_take Byte 32 t b) some few in
    let back : Stands year (bytes_lines_in n (drop 32 t)) (drop 32 t) year =
    bytes_stand n (drop 32 t) year (all_drop Byte 32 t b) (omega (arith, length-drop 32 t)) in
    rw (ne_eqb (length t) 0 (λ e. omega arith))
    (subst (λ (u : List ℕ). Stands year (line_of (entry_of 4 (take 32 t)) 0 ∷ bytes_lines_in n (drop 32 t)) u year) (take-append-drop 32 t)
    (both_stand year year year (line_of (entry_of 4 (take 32 t)) 0 ∷ []) (bytes_lines_in n (drop 32 t)) (take 32 t) (drop 32 t) front back))

all_bytes_stand : (s : List ℕ) (year : ℕ) → Bytes s → Stands year (bytes_lines s) s year
all_bytes_stand s year b = bytes_stand (length s) s year b (le_refl (length s))

-- a record that is no sheet leaves the year
year_left : (year : ℕ) (s : List ℕ) → (kind_in s ≡ 1 → ⊥) → year_after year s ≡ year
year_left year s n = go (test (eqb year 0))
  where
    go : Tested (eqb year 0) → year_after year s ≡ year
    go (holds e) = let z : year ≡ 0 = eqb-true year 0 e in sym (year_none year s z n) ∙ sym z
    go (fails e) = sym (year_kept year s (eqb-false year 0 e))

-- a record that a line expresses stands for itself, and its line leaves the year that it leaves
expressed_stands : (s : List ℕ) (year : ℕ) → Bytes s → eqb (kind_in s) 0 ≡ false → Stands year (line_of (unpacked_of s) year ∷ []) s (year_after year s)
unfolding unpacked_of
expressed_stands s year b e = line_stands year (year_after year s) l s taken bytes (years (test (eqb (kind_in s) 1)))
  where
    l : List ℕ
    l = line_of (unpacked_of s) year

    sort : (1 ≤ kind_in s) × (kind_in s ≤ 4)
    sort = sort_of s (expressed s e)

    is : unpacked_of s ≡ entry_of (kind_in s) (values_in s)
    is = rw (unpacked_of, e)

    taken : (parsed_of l year).answer ≡ 0
    taken =
        ap (λ (x : Entry). (parsed_of (line_of x year) year).answer) is ∙
        line_taken (kind_in s) year (values_in s) sort.0 sort.1 (record_whole s e) (record_within s b e)

    kind : (parsed_of l year).entry.kind ≡ kind_in s
    kind =
        ap (λ (x : Entry). (parsed_of (line_of x year) year).entry.kind) is ∙
        line_sort (kind_in s) year (values_in s) sort.0 sort.1 (record_whole s e) (record_within s b e)

    bytes : line_bytes l year ≡ s
    bytes = record_read_back s year b e

    years : Tested (eqb (kind_in s) 1) → year_on year l ≡ year_after year s
    years (holds k) = rw (kind, k) (ap (year_after year) bytes)
    years (fails k) = rw (kind, k) (sym (year_left year s (eqb-false (kind_in s) 1 k)))

-- so does every record
record_stands : (s : List ℕ) (year : ℕ) → Bytes s → Stands year (record_lines s year) s (year_after year s)
record_stands s year b = go (test (eqb (kind_in s) 0))
  where
    go : Tested (eqb (kind_in s) 0) → Stands year (record_lines s year) s (year_after year s)
    go (holds e) =
        let z : kind_in s ≡ 0 = eqb-true (kind_in s) 0 e in
        rw (e, year_left year s (λ k. omega arith)) (all_bytes_stand s year b)
    go (fails e) = rw e (expressed_stands s year b e)

-- records one after the other, and the bytes after them
lines_back :
    (rs : List (List ℕ)) (rest : List ℕ) (year : ℕ) →
    Bytes (joined rs) →
    Bytes rest →
    (written_from year (book_lines year rs rest) ≡ joined rs ++ rest) × (right_from year (book_lines year rs rest) ≡ true)
lines_back [] rest year b c =
    let last = all_bytes_stand rest year c [] in
    let none : bytes_lines rest ++ [] ≡ bytes_lines rest = append-nil (bytes_lines rest) in (
      ap (written_from year) (sym none) ∙ last.0 ∙ append-nil rest,
      ap (right_from year) (sym none) ∙ last.1,
    )
lines_back (r ∷ rs) rest year b c =
    let front = record_stands r year (all_front (λ (x : ℕ). x < 256) r (joined rs) b) (book_lines (year_after year r) rs rest) in
    let back = lines_back rs rest (year_after year r) (all_back (λ (x : ℕ). x < 256) r (joined rs) b) c in (
      front.0 ∙ ap (λ (l : List ℕ). r ++ l) back.0 ∙ sym (append_assoc r (joined rs) rest),
      front.1 ∙ back.1,
    )

module _ (book : List ℕ) (b : Bytes book) where
  abbrev stop : ℕ
  stop = stop_from book 0

  whole_back : (written (book_text book) ≡ joined (records_of book) ++ drop stop book) × (right (book_text book) ≡ true)
  whole_back = lines_back (records_of book) (drop stop book) 0 (subst Bytes (sym (records_joined book)) (all_take Byte stop book b)) (all_drop Byte stop book b)

  -- a book's text stands for the book
  pub book_read_back : written (book_text book) ≡ book
  book_read_back = whole_back.0 ∙ ap (λ (l : List ℕ). l ++ drop stop book) (records_joined book) ∙ take-append-drop stop book

  -- and no line of it is refused
  pub book_read_right : right (book_text book) ≡ true
  book_read_right = whole_back.1

-- two different books never have the same text
pub texts_differ : (a b : List ℕ) → Bytes a → Bytes b → book_text a ≡ book_text b → a ≡ b
texts_differ a b i j e = sym (book_read_back a i) ∙ ap written e ∙ book_read_back b j

-- nor have two different records that lines express the same line
pub lines_differ :
    (s t : List ℕ) (year : ℕ) →
    Bytes s →
    Bytes t →
    (kind_in s ≡ 0 → ⊥) →
    (kind_in t ≡ 0 → ⊥) →
    line_of (unpacked_of s) year ≡ line_of (unpacked_of t) year →
    s ≡ t
lines_differ s t year b c k m e =
    sym (record_read_back s year b (ne_eqb (kind_in s) 0 k)) ∙ ap (λ (l : List ℕ). line_bytes l year) e ∙ record_read_back t year c (ne_eqb (kind_in t) 0 m)

-- a line that says nothing stands for no bytes, leaves the year and is not refused
module _ (year : ℕ) (l : List ℕ) (is : silent l ≡ true) where
  silent_parsed : parsed_of l year ≡ record { answer = 0; at = gaps_in l; entry = no_entry }
  unfolding parsed_of
  silent_parsed = rw (parsed_of, is)

  pub silent_stands : Stands year (l ∷ []) [] year
  unfolding packed_of whole_of
  silent_stands =
      line_stands year year l []
      (rw silent_parsed)
      (rw silent_parsed)
      (rw silent_parsed)

pub comment_adds_nothing : (year : ℕ) (words : List ℕ) (ls : List (List ℕ)) → written_from year ((35 ∷ words) ∷ ls) ≡ written_from year ls
unfolding is_gap
comment_adds_nothing year words ls = (silent_stands year (35 ∷ words) refl ls).0

pub blank_adds_nothing : (year : ℕ) (ls : List (List ℕ)) → written_from year ([] ∷ ls) ≡ written_from year ls
blank_adds_nothing year ls = (silent_stands year [] refl ls).0

-- so lines stand for what those stand for that say something
abbrev pub Same : ℕ → List (List ℕ) → List (List ℕ) → Type 0
Same year ls ms = (written_from year ls ≡ written_from year ms) × (right_from year ls ≡ right_from year ms)

spoken_first : (l : List ℕ) (ls : List (List ℕ)) (year : ℕ) → ((y : ℕ) → Same y ls (spoken ls)) → Tested (silent l) → Same year (l ∷ ls) (spoken (l ∷ ls))
spoken_first l ls year others (holds e) =
    let here = silent_stands year l e ls in
    rw e (here.0 ∙ (others year).0, here.1 ∙ (others year).1)
spoken_first l ls year others (fails e) =
    let after = others (year_on year l) in
    rw e (ap (λ (s : List ℕ). line_bytes l year ++ s) after.0, ap (λ (t : Bool). eqb (parsed_of l year).answer 0 && t) after.1)

-- lines stand for the bytes of those of them that say something, and are refused exactly where those are
pub spoken_same : (ls : List (List ℕ)) (year : ℕ) → Same year ls (spoken ls)
spoken_same [] year = (refl, refl)
spoken_same (l ∷ ls) year = spoken_first l ls year (spoken_same ls) (test (silent l))

-- every line of a book's text begins with its word, and so says something
abbrev Speaks : List ℕ → Type 0
Speaks l = silent l ≡ false

line_speaks : (kind year : ℕ) (vs : List ℕ) → 1 ≤ kind → kind ≤ 4 → Speaks (line_of (entry_of kind vs) year)
line_speaks kind year vs low high =
    let items = items_text kind year 0 (take (length vs) (entry_of kind vs).values) in
    rw (word_gapless items kind low high) (word_goes_on items kind low high)

bytes_speak : (n : ℕ) (s : List ℕ) → All Speaks (bytes_lines_in n s)
unfolding bytes_entry
bytes_speak zero s = tt
bytes_speak (suc n) s = go (eqb (length s) 0) (bytes_speak n (drop 32 s))
  where
    go : (t : Bool) → All Speaks (bytes_lines_in n (drop 32 s)) → All Speaks (cond t [] (line_of (bytes_entry s) 0 ∷ bytes_lines_in n (drop 32 s)))
    go true others = tt
    go false others = (line_speaks 4 0 (take 32 s) (omega arith) (omega arith), others)

record_speaks : (s : List ℕ) (year : ℕ) → All Speaks (record_lines s year)
unfolding unpacked_of
record_speaks s year = go (test (eqb (kind_in s) 0))
  where
    go : Tested (eqb (kind_in s) 0) → All Speaks (record_lines s year)
    go (holds e) = rw e (bytes_speak (length s) s)
    go (fails e) =
        let sort = sort_of s (expressed s e) in
        rw (unpacked_of, e) (line_speaks (kind_in s) year (values_in s) sort.0 sort.1, tt)

lines_speak : (rs : List (List ℕ)) (rest : List ℕ) (year : ℕ) → All Speaks (book_lines year rs rest)
lines_speak [] rest year = bytes_speak (length rest) rest
lines_speak (r ∷ rs) rest year =
    all_append Speaks (record_lines r year) (book_lines (year_after year r) rs rest) (record_speaks r year) (lines_speak rs rest (year_after year r))

all_spoken : (ls : List (List ℕ)) → All Speaks ls → spoken ls ≡ ls
all_spoken [] a = refl
all_spoken (l ∷ ls) a = rw a.0 (ap (λ (ms : List (List ℕ)). l ∷ ms) (all_spoken ls a.1))

-- every line of a book's text says something
pub text_spoken : (book : List ℕ) → spoken (book_text book) ≡ book_text book
text_spoken book = all_spoken (book_text book) (lines_speak (records_of book) (drop (stop_from book 0) book) 0)

-- a book's text with any comments and blank lines between its lines is right, and stands for the book
pub commented_read_back : (book : List ℕ) (ls : List (List ℕ)) → Bytes book → spoken ls ≡ book_text book → (written ls ≡ book) × (right ls ≡ true)
commented_read_back book ls b e =
    let same = spoken_same ls 0 in (
      same.0 ∙ ap written e ∙ book_read_back book b,
      same.1 ∙ ap right e ∙ book_read_right book b,
    )
