-- What a line says, in numbers: its sort's, how many items it has, and theirs.
use Rattle.std.specs.Prelude.{ℕ, List}

pub record Entry : Type 0 where
  pub kind : ℕ
  pub count : ℕ
  pub values : List ℕ
