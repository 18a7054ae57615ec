-- What the functions answer, in the numbers of the definitions.
use Rattle.std.specs.Prelude.{ℕ, ◌+◌, Option, Some, None, Result, Ok, Err}
use Rattle.text_items.specs.Shape.{no_entry}
use Rattle.text_items.specs.Sorts.{sort_number, entry_in}
use Rattle.text_scan.specs.Found.{Found}
use Rattle.text_scan.specs.Outcomes.{expected_number, wrong_in}
use Rattle.text_scan.specs.Scan.{said_at}
use Rattle.text_scan.specs.declared.Wrong.{Wrong}
use Rattle.text_parse.specs.Records.{Word, Parsed}
use Rattle.text_parse.specs.declared.Word.{Word as Named}
use Rattle.text_parse.specs.declared.Parsed.{Parsed as Told}
use Rattle.text_parse.specs.declared.Next.{Next}
use Rattle.text_parse.specs.declared.Next.TheVariants.{Item, End}

-- a word, and none of them
abbrev pub word_in : Option Named → Word
word_in None = record { kind = 0; used = 0 }
word_in (Some w) = record { kind = sort_number w.kind; used = w.used }

-- an item, the line's end (255), or what is wrong
abbrev pub next_in : Result Next Wrong → Found
next_in (Ok (Item f)) = record { answer = 0; value = f.value; used = f.used }
next_in (Ok (End used)) = said_at 255 used
next_in (Err w) = wrong_in w

-- the same with its place told from so many bytes before
abbrev pub placed : ℕ → Found → Found
placed at f = record { answer = f.answer; value = f.value; used = at + f.used }

-- an entry and where it ends, or what is wrong
abbrev pub parsed_in : Result Told Wrong → Parsed
parsed_in (Ok p) = record { answer = 0; at = p.at; entry = entry_in p.entry }
parsed_in (Err w) = record { answer = expected_number w.expected; at = w.at; entry = no_entry }
