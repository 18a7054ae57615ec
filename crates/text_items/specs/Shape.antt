-- The lines of a book's text (docs/TEXT.md): which items stand in a line of each sort. The items are the fields of 01's table ("Bytes on the wire") in
-- their order; the step count is not written, as the line's own steps are counted.
use Rattle.std.specs.Prelude.{ℕ, ◌+◌, ◌-◌, ◌%◌, List, [], ◌∷◌, ◌++◌, Bool, true, false, ◌&&◌, cond, eqb, ltb, leb, length, replicate}
use Rattle.text_items.specs.Entry.{Entry}

-- the sorts of line: 1 a sheet, 2 a simple event, 3 a stepped event, 4 bytes in hexadecimal digits; and of item: a number of 1 byte, of 2 bytes and of 4
-- bytes, 4 a time, 5 two hexadecimal digits

-- "number 2, type 1, voltage 1, cause 1, T0", then "T1 T2 T3 T4, n1 3x4, n2 3x4" or "per step: time, 3 counts"
unfoldable pub event_item : ℕ → ℕ → ℕ
event_item kind k =
    cond (eqb k 0) 2
    (cond (ltb k 4) 1
    (cond (eqb k 4) 4
    (cond (eqb kind 2) (cond (ltb k 9) 4 3)
    (cond (eqb ((k - 5) % 4) 0) 4 3))))

-- "year 2, customers of each level 3x4"
unfoldable pub item_of : ℕ → ℕ → ℕ
item_of kind k =
    cond (eqb kind 4) 5
    (cond (eqb kind 1) (cond (eqb k 0) 2 3)
    (event_item kind k))

-- how many items a line has at most: "Steps are 1 to 64"
unfoldable pub most_of : ℕ → ℕ
most_of kind = cond (eqb kind 1) 4 (cond (eqb kind 2) 15 (cond (eqb kind 3) 261 (cond (eqb kind 4) 32 0)))

-- a line of so many items is whole
unfoldable pub whole_of : ℕ → ℕ → Bool
whole_of kind count =
    cond (eqb kind 3) (cond (ltb count 9) false (cond (ltb 261 count) false (eqb ((count - 5) % 4) 0)))
    (cond (eqb kind 4) (cond (eqb count 0) false (leb count 32))
    (cond (eqb count 0) false (eqb count (most_of kind))))

-- a bar parts the codes from the times, the times from the counts, and each step from the one before
unfoldable pub bar_before : ℕ → ℕ → Bool
bar_before kind k =
    cond (eqb kind 1) (eqb k 1)
    (cond (eqb kind 4) false
    (cond (ltb k 4) false
    (cond (eqb k 4) true
    (cond (eqb kind 2) (cond (ltb k 9) false (eqb (k % 3) 0))
    (eqb ((k - 5) % 4) 0)))))

-- a line's sort and numbers, and zeros past them
abbrev pub entry_of : ℕ → List ℕ → Entry
entry_of kind vs = record { kind = kind; count = length vs; values = vs ++ replicate (261 - length vs) 0 }

-- no line
abbrev pub no_entry : Entry
no_entry = entry_of 0 []

-- the largest number that an item takes
unfoldable pub limit_of : ℕ → ℕ
limit_of item = cond (eqb item 1) 255 (cond (eqb item 2) 65535 (cond (eqb item 5) 255 4294967295))

-- each of the numbers from the k-th on is within its item's
abbrev pub within_from : ℕ → ℕ → List ℕ → Bool
within_from kind k [] = true
within_from kind k (v ∷ vs) = leb v (limit_of (item_of kind k)) && within_from kind (k + 1) vs
