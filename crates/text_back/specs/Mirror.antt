-- book_write of book_read's text gives the same bytes for every input: what a line of text stands for, as bytes.
use Rattle.std.specs.Prelude.{ℕ, List, [], cond, eqb}
use Rattle.text_parse.specs.Entry.{parsed_of}
use Rattle.pack.specs.Pack.{packed_of}

-- the bytes of a line, under the year of the sheet before it; none of a line that is refused
abbrev pub line_bytes : List ℕ → ℕ → List ℕ
line_bytes line year = cond (eqb (parsed_of line year).answer 0) (packed_of (parsed_of line year).entry) []
