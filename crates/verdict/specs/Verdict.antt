-- What judging a record comes to: the answer, and what an accepted record does to a ledger (01, "What one event adds").
use Rattle.std.specs.Prelude.{ℕ, cond}
use Rattle.codes.specs.Codes.{row_of}
use Rattle.annex.specs.declared.Figures.{Figures}
use Rattle.annex.specs.Figures.{nothing}
use Rattle.annex.specs.Times.{is_short}
use Rattle.fields.specs.declared.Sheet.{Sheet}
use Rattle.fields.specs.declared.Head.{Head}

-- an answer, and what the record does to a ledger: the sheet after it, the number that it marks (0 for none), the events and short events that it
-- adds, and its figures with their row
pub record Verdict : Type 0 where
  pub answer : ℕ
  pub sheet : Sheet
  pub number : ℕ
  pub events : ℕ
  pub short : ℕ
  pub row : ℕ
  pub figures : Figures

-- a refused record leaves the sheet, marks no number and adds nothing
abbrev pub refused_with : Sheet → ℕ → Verdict
refused_with sheet answer = record { answer = answer; sheet = sheet; number = 0; events = 0; short = 0; row = 0; figures = nothing }

-- an accepted sheet is the ledger's sheet from then on
abbrev pub sheet_verdict : Sheet → Verdict
sheet_verdict next = record { answer = 0; sheet = next; number = 0; events = 0; short = 0; row = 0; figures = nothing }

-- an accepted event: "events taken (short ones included)"; a short one "is accepted and counted as short, and adds to no total"
unfoldable pub event_verdict : Sheet → Head → ℕ → Figures → Verdict
event_verdict sheet h end figures =
    record {
      answer = 0;
      sheet = sheet;
      number = h.number;
      events = 1;
      short = cond (is_short h.t0 end) 1 0;
      row = row_of h.typ;
      figures = cond (is_short h.t0 end) nothing figures;
    }
