-- Where a line ends, and what a line is, where a name and a colon may stand in front of it. Assumes nothing.
use Rattle.std.specs.Prelude.{ℕ, ◌+◌, ◌||◌, min, List, [], cond, eqb, length, drop}
use Rattle.std.specs.List.{position_or_len}
use Rattle.wire.specs.Numbers.{byte_at}
use Rattle.wire.specs.Book.{part_of}
use Rattle.cases.specs.declared.Line.{Line}
use Rattle.cases.specs.declared.Line.TheVariants.{Passed, Heading, Trial, Kept, Joined, Plain}

-- the place behind the newline of the line that begins at a place; the text's end where there is none
abbrev pub line_past : List ℕ → ℕ → ℕ
line_past text start = min (start + position_or_len (λ b. eqb b 10) (drop start text) + 1) (length text)

-- what is seen of a line: the byte that tells its sort (0 for a line without a name), its name and its body
pub record Parts : Type 0 where
  pub sort : ℕ
  pub name : List ℕ
  pub body : List ℕ

abbrev pub parts_in : Line → Parts
parts_in Passed = record { sort = 35; name = []; body = [] }
parts_in Heading = record { sort = 45; name = []; body = [] }
parts_in (Trial name body) = record { sort = 32; name = name.now; body = body.now }
parts_in (Kept name body) = record { sort = 61; name = name.now; body = body.now }
parts_in (Joined name body) = record { sort = 43; name = name.now; body = body.now }
parts_in Plain = record { sort = 0; name = []; body = [] }

-- a comment's # and a heading's - stand in front, and a line of nothing is passed over as a comment is; any other sort stands behind the colon
abbrev pub sort_of : List ℕ → ℕ → ℕ
sort_of line colon =
    cond (eqb (length line) 0) 35
    (cond (eqb (byte_at line 0) 35 || eqb (byte_at line 0) 45) (byte_at line 0) (byte_at (part_of line colon (length line)) 1))

-- the parts by the sort, the name, and what stands from the colon on
abbrev pub parts_by : ℕ → List ℕ → List ℕ → Parts
parts_by sort name rest =
    cond (eqb sort 35 || eqb sort 45) (record { sort = sort; name = []; body = [] })
    (cond (eqb sort 32) (record { sort = sort; name = name; body = drop 2 rest })
    (cond (eqb sort 61 || eqb sort 43) (record { sort = sort; name = name; body = drop 3 rest })
    (record { sort = 0; name = []; body = [] })))

abbrev pub parts_of : List ℕ → ℕ → Parts
parts_of line colon = parts_by (sort_of line colon) (part_of line 0 colon) (part_of line colon (length line))
