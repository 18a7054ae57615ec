-- The numbers by which the definitions know what stands in a refused line; 0: none of these.
use Rattle.std.specs.Prelude.{ℕ, Option, Some, None}
use Rattle.likeness.specs.declared.Likeness.{Likeness}
use Rattle.likeness.specs.declared.Likeness.TheVariants.{ByteOrderMark, Quoted, Capitals, Header, OtherTime}

abbrev pub like_number : Option Likeness → ℕ
like_number None = 0
like_number (Some ByteOrderMark) = 1
like_number (Some Quoted) = 2
like_number (Some Capitals) = 3
like_number (Some Header) = 4
like_number (Some OtherTime) = 5
