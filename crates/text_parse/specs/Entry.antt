-- A line of text read as an entry (docs/TEXT.md): its word, then its items, each parted from the next.
use Rattle.std.specs.Prelude.{ℕ, zero, suc, ◌+◌, List, [], ◌∷◌, Bool, true, false, ◌&&◌, not, cond, eqb, ltb, leb, length, take, drop}
use Rattle.text_items.specs.Shape.{item_of, most_of, whole_of, entry_of, no_entry}
use Rattle.text_scan.specs.Found.{Found}
use Rattle.text_scan.specs.Scan.{said_at, gaps_in, ends_here, parted_here, separator_of, other_at, gap_said, item_found}
use Rattle.text_parse.specs.Records.{Word, Parsed}

abbrev pub begins_with : List ℕ → List ℕ → Bool
begins_with s [] = true
begins_with [] (w ∷ ws) = false
begins_with (b ∷ bs) (w ∷ ws) = eqb b w && begins_with bs ws

unfoldable pub is_word : List ℕ → List ℕ → Bool
is_word s word = begins_with s word && parted_here (drop (length word) s)

-- sheet, simple, stepped and hex, in ASCII
abbrev pub word_text : ℕ → List ℕ
word_text kind =
    cond (eqb kind 1) (115 ∷ 104 ∷ 101 ∷ 101 ∷ 116 ∷ [])
    (cond (eqb kind 2) (115 ∷ 105 ∷ 109 ∷ 112 ∷ 108 ∷ 101 ∷ [])
    (cond (eqb kind 3) (115 ∷ 116 ∷ 101 ∷ 112 ∷ 112 ∷ 101 ∷ 100 ∷ [])
    (cond (eqb kind 4) (104 ∷ 101 ∷ 120 ∷ []) [])))

abbrev pub word_as : ℕ → Word
word_as kind = record { kind = kind; used = length (word_text kind) }

unfoldable pub word_of : List ℕ → Word
word_of s =
    cond (is_word s (word_text 1)) (word_as 1)
    (cond (is_word s (word_text 2)) (word_as 2)
    (cond (is_word s (word_text 3)) (word_as 3)
    (cond (is_word s (word_text 4)) (word_as 4) (word_as 0))))

-- an item in front, parted from what follows; 10: a gap
unfoldable pub parted_item : List ℕ → ℕ → Found → Found
parted_item s skipped f =
    cond (not (eqb f.answer 0)) (said_at f.answer skipped)
    (cond (not (parted_here (drop (skipped + f.used) s))) (said_at 10 (skipped + f.used))
    (record { answer = 0; value = f.value; used = skipped + f.used }))

-- the k-th item of a line; 255: the line has ended; 11: no more items
unfoldable pub next_field : List ℕ → ℕ → ℕ → ℕ → Found
next_field s kind k year =
    cond (ends_here (drop (gaps_in s) s)) (said_at 255 (gaps_in s))
    (cond (leb (most_of kind) k) (said_at 11 (gaps_in s))
    (parted_item s (gaps_in s) (item_found (drop (gaps_in s) s) (item_of kind k) year)))

-- whether the line goes on with an item that it has room for
unfoldable pub item_due : List ℕ → ℕ → ℕ → Bool
item_due s kind k = not (ends_here s) && ltb k (most_of kind)

-- the gap in front of the k-th item of a line with a separator; 0: no line of cells, where every gap is right
unfoldable pub gap_before : List ℕ → ℕ → ℕ → ℕ → Found
gap_before s kind k sep = cond (eqb sep 0) (said_at 0 0) (gap_said (take (gaps_in s) s) sep (item_due (drop (gaps_in s) s) kind k))

-- the k-th item of such a line, where the gap in front of it is right
unfoldable pub next_cell : List ℕ → ℕ → ℕ → ℕ → ℕ → Found
next_cell s kind k year sep = cond (eqb (gap_before s kind k sep).answer 0) (next_field s kind k year) (gap_before s kind k sep)

-- the numbers of the items from the k-th on, up to one that is not there, and what is said there
unfoldable pub values_from : ℕ → List ℕ → ℕ → ℕ → ℕ → ℕ → List ℕ
values_from zero s kind k year sep = []
values_from (suc n) s kind k year sep =
    cond (eqb (next_cell s kind k year sep).answer 0)
    ((next_cell s kind k year sep).value ∷ values_from n (drop (next_cell s kind k year sep).used s) kind (k + 1) year sep)
    []

unfoldable pub end_from : ℕ → List ℕ → ℕ → ℕ → ℕ → ℕ → Found
end_from zero s kind k year sep = next_cell s kind k year sep
end_from (suc n) s kind k year sep =
    cond (eqb (next_cell s kind k year sep).answer 0)
    (said_at (end_from n (drop (next_cell s kind k year sep).used s) kind (k + 1) year sep).answer ((next_cell s kind k year sep).used + (end_from n (drop (next_cell s kind k year sep).used s) kind (k + 1) year sep).used))
    (said_at (next_cell s kind k year sep).answer (next_cell s kind k year sep).used)

-- no entry: what was expected, and where
abbrev pub refused_at : ℕ → ℕ → Parsed
refused_at answer at = record { answer = answer; at = at; entry = no_entry }

-- once the items are read: 12 where the line needs more of them
unfoldable pub ended_by : ℕ → ℕ → ℕ → ℕ → List ℕ → Parsed
ended_by answer at kind count values =
    cond (not (eqb answer 255)) (refused_at answer at)
    (cond (not (whole_of kind count)) (refused_at 12 at)
    (record { answer = 0; at = at; entry = record { kind = kind; count = count; values = values } }))

-- the items of a line from a place on: at most 261
unfoldable pub gathered : List ℕ → ℕ → ℕ → ℕ → ℕ → Parsed
gathered line start kind year sep =
    ended_by
    (end_from 261 (drop start line) kind 0 year sep).answer
    (start + (end_from 261 (drop start line) kind 0 year sep).used)
    kind
    (length (values_from 261 (drop start line) kind 0 year sep))
    (entry_of kind (values_from 261 (drop start line) kind 0 year sep)).values

-- 13: another separator than the line's before its word; 1: a word
unfoldable pub parsed_of : List ℕ → ℕ → Parsed
parsed_of line year =
    cond (ends_here (drop (gaps_in line) line)) (record { answer = 0; at = gaps_in line; entry = no_entry })
    (cond (ltb (other_at (take (gaps_in line) line) (separator_of line)) (gaps_in line)) (refused_at 13 (other_at (take (gaps_in line) line) (separator_of line)))
    (cond (eqb (word_of (drop (gaps_in line) line)).kind 0) (refused_at 1 (gaps_in line))
    (gathered line (gaps_in line + (word_of (drop (gaps_in line) line)).used) (word_of (drop (gaps_in line) line)).kind year (separator_of line))))

-- how many items of a line are read, from a place on
unfoldable pub items_read : List ℕ → ℕ → ℕ → ℕ → ℕ → ℕ
items_read line start kind year sep = length (values_from 261 (drop start line) kind 0 year sep)

-- the sort of the item past those that are read: where a line is refused at an item, the sort of that item
unfoldable pub item_refused : List ℕ → ℕ → ℕ
item_refused line year =
    item_of
    (word_of (drop (gaps_in line) line)).kind
    (items_read line (gaps_in line + (word_of (drop (gaps_in line) line)).used) (word_of (drop (gaps_in line) line)).kind year (separator_of line))
