-- What code hands over of a verdict: what an accepted record adds, or the refusal.
use Rattle.std.specs.Prelude.{Result, Ok, Err}
use Rattle.refusals.specs.declared.Refusal.{Refusal}
use Rattle.refusals.specs.Refusals.{number_of}
use Rattle.fields.specs.declared.Sheet.{Sheet}
use Rattle.verdict.specs.declared.Accepted.{Accepted}
use Rattle.verdict.specs.Verdict.{Verdict, refused_with}

-- an accepted record is answered 0
abbrev pub accepted_verdict : Accepted → Verdict
accepted_verdict a = record { answer = 0; sheet = a.sheet; number = a.number; events = a.events; short = a.short; row = a.row; figures = a.figures }

-- judged under a sheet, a refusal is answered with its number
abbrev pub judged : Sheet → Result Accepted Refusal → Verdict
judged sheet (Ok a) = accepted_verdict a
judged sheet (Err r) = refused_with sheet (number_of r)
