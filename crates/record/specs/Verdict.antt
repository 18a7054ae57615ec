-- What judging a record comes to, by the rules in their order (01, "Refusal numbers"): the smallest number that applies, and the verdict of that answer.
use Rattle.std.specs.Prelude.{ℕ, List, cond, eqb}
use Rattle.base.specs.First.{first}
use Rattle.wire.specs.Frame.{kind_of}
use Rattle.annex.specs.Simple.{simple_figures}
use Rattle.annex.specs.Stepped.{last_time, stepped_figures}
use Rattle.fields.specs.declared.Sheet.{Sheet}
use Rattle.fields.specs.Fields.{sheet_in, head_in, simple_in, steps_in}
use Rattle.verdict.specs.Verdict.{Verdict, refused_with, sheet_verdict, event_verdict}
use Rattle.record.specs.Rules.{rules}

-- what an accepted record of each kind comes to
abbrev pub accepted_at : ℕ → List ℕ → Sheet → Verdict
accepted_at kind s sheet =
    cond (eqb kind 1) (sheet_verdict (sheet_in s))
    (cond (eqb kind 2) (event_verdict sheet (head_in s) (simple_in s).t3 (simple_figures (simple_in s)))
    (event_verdict sheet (head_in s) (last_time (head_in s).t0 (steps_in s)) (stepped_figures (head_in s).t0 (steps_in s))))

-- the smallest number that applies, 0 for an accepted record
unfoldable pub record_answer : List ℕ → Sheet → List ℕ → ℕ → ℕ
record_answer s sheet m events = first (rules s sheet m events)

unfoldable pub verdict_of : List ℕ → Sheet → List ℕ → ℕ → Verdict
verdict_of s sheet m events =
    cond (eqb (record_answer s sheet m events) 0) (accepted_at (kind_of s) s sheet) (refused_with sheet (record_answer s sheet m events))
