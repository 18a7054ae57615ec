-- "A yearly element file, framed like the book and starting with a year sheet" (02, K1), taken record by record; a broken length (2) ends that
-- file's reading.
use Rattle.std.specs.Prelude.{ℕ, ◌+◌, ◌≡◌, List, [], ◌∷◌, Bool, false, cond, Result, Ok, Err}
use Rattle.wire.specs.Cut.{records_of, stop_from, ends_by}
use Rattle.records.specs.Records as records
use Rattle.records.specs.Records.{one_if_refused, is_broken}
use Rattle.element_table.specs.declared.Table.{Table}
use Rattle.element_table.specs.Table.{sound_table, seen_as}
use Rattle.element_table.specs.Rules.{answer_of}
use Rattle.element_table.specs.Take.{table_after}
use Rattle.refusals.specs.declared.Refusal.{Refusal}
use Rattle.refusals.specs.Refusals.{number_of}
use Rattle.element_file.specs.declared.Pass.{Pass as Passed}
use Rattle.element_file.specs.declared.Reading.{Reading as Read}

-- a table, and the records refused so far
pub record FileState : Type 0 where
  pub table : Table
  pub refused : ℕ

abbrev pub starting : Table → FileState
starting t = record { table = t; refused = 0 }

-- one record, as the table's `take` takes it
unfoldable pub take_record : FileState → List ℕ → FileState
take_record st s = record { table = table_after st.table s; refused = st.refused + one_if_refused (answer_of st.table s) }

abbrev pub take_all : FileState → List (List ℕ) → FileState
take_all = records.take_all take_record

-- the state after the whole records of some bytes, with where and how the reading stopped
abbrev pub after_records : Table → List ℕ → FileState
after_records t bytes = take_all (starting t) (records_of bytes)

-- (1 at the end, 2 at a broken length)
pub record Pass : Type 0 where
  pub table : Table
  pub refused : ℕ
  pub stop : ℕ
  pub which : ℕ

abbrev pub passed_in : Passed → Pass
passed_in p = record { table = p.table; refused = p.refused; stop = p.stop; which = cond p.broken 2 1 }

abbrev pub pass_of : Table → List ℕ → Pass
pass_of t bytes =
    record {
      table = (after_records t bytes).table;
      refused = (after_records t bytes).refused;
      stop = stop_from bytes 0;
      which = ends_by bytes;
    }

-- a file is begun, which clears the sheet-seen mark, and its records are taken
abbrev pub after_file : Table → List ℕ → FileState
after_file t file = after_records (seen_as false t) file

-- what reading a file comes to: an answer number, the table at the end, the refused records, and whether a broken length ended the reading
pub record Reading : Type 0 where
  pub answer : ℕ
  pub table : Table
  pub refused : ℕ
  pub broken : Bool

-- an outcome by number and table: a refusal leaves the table that stands beside it
abbrev pub reading_in : Table → Result Read Refusal → Reading
reading_in left (Ok r) = record { answer = 0; table = r.table; refused = r.refused; broken = r.broken }
reading_in left (Err refusal) = record { answer = number_of refusal; table = left; refused = 0; broken = false }

-- an unsound table answers 1, and nothing is read
unfoldable pub file_of : Table → List ℕ → Reading
file_of t file =
    cond (sound_table t)
    (record {
      answer = 0;
      table = (after_file t file).table;
      refused = (after_file t file).refused + cond (is_broken file) 1 0;
      broken = is_broken file;
    })
    (record { answer = 1; table = t; refused = 0; broken = false })

-- files one after the other
abbrev pub after_files : Table → List (List ℕ) → Table
after_files t [] = t
after_files t (f ∷ fs) = after_files (after_file t f).table fs

-- a file whose every record is accepted, at a table: it has a record, ends at a record's end, and nothing is refused
pub record AcceptedFile (t : Table) (file : List ℕ) : Type 0 where
  pub some : records_of file ≡ [] → ⊥
  pub whole : is_broken file ≡ false
  pub all : (after_file t file).refused ≡ 0

-- files that are accepted one after the other
abbrev pub AcceptedFiles : Table → List (List ℕ) → Type 0
AcceptedFiles t [] = Unit {0}
AcceptedFiles t (f ∷ fs) = AcceptedFile t f × AcceptedFiles (after_file t f).table fs
