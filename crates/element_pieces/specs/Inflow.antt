-- An element table "fed one or more yearly files" (02, K1), each of any length, in constant memory: a file taken in pieces.
use Rattle.std.specs.Prelude.{ℕ, ◌+◌, List, true, false, cond, length, eqb, Result, Ok, Err}
use Rattle.records.specs.Pieces.{Held, held_on, buffer_on, end_answer, piece_answer}
use Rattle.records.specs.Calls.{Taker}
use Rattle.element_table.specs.declared.Table.{Table}
use Rattle.element_table.specs.Table.{sound_table, file_begun}
use Rattle.refusals.specs.declared.Refusal.{Refusal}
use Rattle.refusals.specs.Refusals.{number_of}
use Rattle.element_file.specs.declared.Reading.{Reading as Read}
use Rattle.element_file.specs.Yearly.{Reading, FileState, take_record}
use Rattle.element_pieces.specs.declared.Inflow.{Inflow}

-- an answer number, and the next inflow
pub record Flowed : Type 0 where
  pub answer : ℕ
  pub flow : Inflow

-- an outcome by number and inflow: a refusal leaves the inflow that stands beside it
abbrev pub flowed_in : Inflow → Result Inflow Refusal → Flowed
flowed_in left (Ok next) = record { answer = 0; flow = next }
flowed_in left (Err refusal) = record { answer = number_of refusal; flow = left }

abbrev pub finished_in : Inflow → Result Read Refusal → Reading
finished_in left (Ok r) = record { answer = 0; table = r.table; refused = r.refused; broken = r.broken }
finished_in left (Err refusal) = record { answer = number_of refusal; table = left.table; refused = left.refused; broken = false }

-- an inflow that holds nothing
abbrev pub fresh : Table → Inflow
fresh t = record { table = t; refused = 0; held = 0; dead = false }

-- a file is begun as the table begins it
abbrev pub begun_of : Table → Flowed
begun_of t = record { answer = (file_begun t).answer; flow = fresh (file_begun t).table }

-- the reading that an inflow holds; and back
abbrev pub reading_of : Inflow → Held FileState
reading_of f = record { state = record { table = f.table; refused = f.refused }; held = f.held; dead = f.dead }

abbrev pub flow_of : Held FileState → Inflow
flow_of h = record { table = h.state.table; refused = h.state.refused; held = h.held; dead = h.dead }

-- what a piece is refused for, and the end: an unsound table (1), and what any reading in pieces is refused for
abbrev pub flow_answer : Inflow → List ℕ → ℕ → ℕ
flow_answer f b filled = piece_answer (sound_table f.table) f.refused (length b) filled

abbrev pub finish_answer : Inflow → ℕ
finish_answer f = end_answer (sound_table f.table) f.refused

unfoldable pub flowed_of : Inflow → List ℕ → ℕ → Flowed
flowed_of f b filled =
    record {
      answer = flow_answer f b filled;
      flow = cond (eqb (flow_answer f b filled) 0) (flow_of (held_on take_record (reading_of f) b filled)) f;
    }

unfoldable pub buffer_after : Inflow → List ℕ → ℕ → List ℕ
buffer_after f b filled = cond (eqb (flow_answer f b filled) 0) (buffer_on (reading_of f) b filled) b

-- the calls of a reading in pieces
abbrev pub taker : Taker Inflow
taker =
    record {
      holds = λ f. f.held;
      answer = λ f c. flow_answer f c.buffer c.filled;
      next = λ f c. (flowed_of f c.buffer c.filled).flow;
      left = λ f c. buffer_after f c.buffer c.filled;
    }

-- once the input has ended: an unsound table has no outcome; what is left over is a broken length, and counts as one refusal
unfoldable pub finished_of : Inflow → Reading
finished_of f =
    cond (eqb (finish_answer f) 0)
    (cond (eqb f.held 0)
    (record { answer = 0; table = f.table; refused = f.refused; broken = false })
    (record { answer = 0; table = f.table; refused = f.refused + 1; broken = true }))
    (record { answer = finish_answer f; table = f.table; refused = f.refused; broken = false })
