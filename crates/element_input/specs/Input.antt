-- What a reading came to: what was read to the end, or before a read that failed; or a table that is not sound, into which nothing is read.
use Rattle.std.specs.Prelude.{Result, Ok, Err}
use Rattle.element_table.specs.declared.Table.{Table}
use Rattle.element_file.specs.declared.Reading.{Reading as Read}
use Rattle.element_file.specs.Yearly.{Reading, reading_in}
use Rattle.element_input.specs.declared.Unread.{Unread}
use Rattle.element_input.specs.declared.Unread.TheVariants.{Refused, Cut}

abbrev pub input_in : Table → Result Read Unread → Reading
input_in left (Ok reading) = reading_in left (Ok reading)
input_in left (Err (Refused refusal)) = reading_in left (Err refusal)
input_in left (Err (Cut reading)) = reading_in left (Ok reading)
