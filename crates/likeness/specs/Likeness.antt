-- What stands in a refused line in the place of what was expected (docs/TEXT.md): what spreadsheets and people write often, each by its look alone.
use Rattle.std.specs.Prelude.{ℕ, ◌+◌, List, [], ◌∷◌, Bool, true, false, ◌&&◌, ◌||◌, cond, eqb, ltb, leb, length, drop}
use Rattle.wire.specs.Numbers.{byte_at}
use Rattle.text_scan.specs.Scan.{is_gap, is_digit, parted_here}
use Rattle.text_parse.specs.Entry.{word_text, item_refused}

-- a letter of ASCII, or a byte past it: those of other alphabets
unfoldable pub is_letter : ℕ → Bool
is_letter b = cond (ltb b 65) false (cond (leb b 90) true (cond (ltb b 97) false (cond (leb b 122) true (leb 128 b))))

-- a capital letter as a small one
unfoldable pub lowered : ℕ → ℕ
lowered b = cond (ltb b 65) b (cond (leb b 90) (b + 32) b)

-- one of the four words in front, in whichever letters
abbrev pub begins_alike : List ℕ → List ℕ → Bool
begins_alike s [] = true
begins_alike [] (w ∷ ws) = false
begins_alike (b ∷ bs) (w ∷ ws) = eqb (lowered b) w && begins_alike bs ws

unfoldable pub is_alike : List ℕ → List ℕ → Bool
is_alike s word = begins_alike s word && parted_here (drop (length word) s)

unfoldable pub any_alike : List ℕ → Bool
any_alike s = is_alike s (word_text 1) || (is_alike s (word_text 2) || (is_alike s (word_text 3) || is_alike s (word_text 4)))

-- an item behind the first that begins with a letter, before the comment; `behind`: a gap stands in front
abbrev pub letters_in : Bool → List ℕ → Bool
letters_in behind [] = false
letters_in behind (b ∷ bs) = cond (eqb b 35) false (cond (behind && is_letter b) true (letters_in (is_gap b) bs))

-- a header row: its first item begins with a letter, and another one too
unfoldable pub is_header : List ℕ → Bool
is_header s = is_letter (byte_at s 0) && letters_in false s

-- the three bytes of a byte-order mark
unfoldable pub is_mark : List ℕ → Bool
is_mark s = eqb (byte_at s 0) 239 && eqb (byte_at s 1) 187 && eqb (byte_at s 2) 191

-- in a word's place: 1 a byte-order mark, 2 a quotation mark, 3 one of the words in other letters, 4 a header row; 0: none of these
unfoldable pub word_like : List ℕ → ℕ
word_like s = cond (is_mark s) 1 (cond (eqb (byte_at s 0) 34) 2 (cond (any_alike s) 3 (cond (is_header s) 4 0)))

-- in an item's place: 2 a quotation mark, 5 digits where a time was expected, which are then a time of another form
unfoldable pub item_like : List ℕ → ℕ → ℕ
item_like s answer = cond (eqb (byte_at s 0) 34) 2 (cond (eqb answer 6 && is_digit (byte_at s 0)) 5 0)

-- a dash, a point, a stroke or a colon, and a digit: so a day or an hour goes on
unfoldable pub marks_time : ℕ → Bool
marks_time b = eqb b 45 || eqb b 46 || eqb b 47 || eqb b 58

unfoldable pub time_goes_on : List ℕ → Bool
time_goes_on s = marks_time (byte_at s 0) && is_digit (byte_at s 1)

-- behind an item: 5 where it is a time, and goes on in another form
unfoldable pub gap_like : List ℕ → ℕ → ℕ
gap_like s item = cond (eqb item 4 && time_goes_on s) 5 0

-- what stands at a place of a line under a year, where another thing was expected: a word (1), an item (2, 6, 9) or a gap (10)
unfoldable pub likeness_of : List ℕ → ℕ → ℕ → ℕ → ℕ
likeness_of line at answer year =
    cond (eqb answer 1) (word_like (drop at line))
    (cond (eqb answer 10) (gap_like (drop at line) (item_refused line year))
    (cond (eqb answer 2 || (eqb answer 6 || eqb answer 9)) (item_like (drop at line) answer) 0))
