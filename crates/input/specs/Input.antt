-- What a reading came to: what was read to the end, or before a read that failed.
use Rattle.std.specs.Prelude.{Result, Ok, Err}
use Rattle.book.specs.declared.Read.{Read as Outcome}
use Rattle.input.specs.declared.Cut.{Cut}

abbrev pub read_either : Result Outcome Cut → Outcome
read_either (Ok read) = read
read_either (Err cut) = cut.read
