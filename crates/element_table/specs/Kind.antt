-- The kinds of record of a yearly file: the number of each, and what is left to answer of it once the table is sound and the record framed.
use Rattle.std.specs.Prelude.{ℕ, ◌≡◌, ◌≢◌, List, Result, MatchResult}
use Rattle.refusals.specs.declared.Refusal.{Refusal}
use Rattle.refusals.specs.declared.Refusal.TheVariants as refusals
use Rattle.element_rules.specs.Answers.{sheet_answer, outage_answer, stock_answer}
use Rattle.element_table.specs.declared.Table.{Table}
use Rattle.element_table.specs.declared.Kind.{Kind}
use Rattle.element_table.specs.declared.Kind.TheVariants.{Sheet, Outage, Stock}
use Rattle.element_table.specs.Rules.{row_named}

abbrev pub number_of_kind : Kind → ℕ
number_of_kind Sheet = 1
number_of_kind Outage = 4
number_of_kind Stock = 5

-- the kind with this number, or the refusal of a number that no kind has
abbrev pub IsKind : ℕ → Result Kind Refusal → Type 0
IsKind n r =
    MatchResult r (λ kind. n ≡ number_of_kind kind) (λ refusal. (refusal ≡ refusals.Kind) × (n ≢ 1) × (n ≢ 4) × (n ≢ 5))

abbrev pub answer_at : Kind → Table → List ℕ → ℕ
answer_at Sheet t s = sheet_answer t.seen s
answer_at Outage t s = outage_answer t.seen (row_named t s) s
answer_at Stock t s = stock_answer t.seen (row_named t s) s
