-- What is said of a line's word, and of a line, in numbers.
use Rattle.std.specs.Prelude.{ℕ}
use Rattle.text_items.specs.Entry.{Entry}

-- the sort of line that a word names, and how long the word is; no sort and 0 where it is none
pub record Word : Type 0 where
  pub kind : ℕ
  pub used : ℕ

-- 0 and an entry, which is blank where the line has nothing but gaps and a comment; or what was expected, and at which byte of the line, from 0: then the
-- entry is blank
pub record Parsed : Type 0 where
  pub answer : ℕ
  pub at : ℕ
  pub entry : Entry
