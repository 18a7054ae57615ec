-- What is said of an item, in numbers: an answer, which is 0 where it was read and else what was expected, its number, and how many bytes it has; where the
-- answer is not 0 the number is 0, and the bytes are those before the place that it speaks of.
use Rattle.std.specs.Prelude.{ℕ}

pub record Found : Type 0 where
  pub answer : ℕ
  pub value : ℕ
  pub used : ℕ
