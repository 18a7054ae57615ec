-- What an accepted record does to a table; a refusal hands the table back as it was (02, K1).
use Rattle.std.specs.Prelude.{ℕ, ◌-◌, List, true, cond, set, eqb}
use Rattle.wire.specs.Frame.{kind_of}
use Rattle.element_codes.specs.Elements.{row_of}
use Rattle.element_row.specs.declared.Row.{Row}
use Rattle.element_row.specs.Row.{with_outage, with_stock}
use Rattle.element_table.specs.declared.Table.{Table}
use Rattle.element_table.specs.Table.{Filed}
use Rattle.element_table.specs.Table.{seen_as}
use Rattle.element_rules.specs.Fields.{code_in, start_in, end_in, unit_in, amount_in}
use Rattle.element_table.specs.Rules.{row_named, answer_of}

-- the table with another row for an element
abbrev pub with_row : Table → ℕ → Row → Table
with_row t at r = record { period = t.period; seen = t.seen; rows = set t.rows at r }

-- what an accepted record of each kind comes to: the sheet is seen, the outage is counted, the stock is told
abbrev pub accepted_at : ℕ → Table → List ℕ → Table
accepted_at kind t s =
    cond (eqb kind 1) (seen_as true t)
    (cond (eqb kind 4) (with_row t (row_of (code_in s)) (with_outage (row_named t s) (end_in s - start_in s)))
    (with_row t (row_of (code_in s)) (with_stock (row_named t s) (unit_in s) (amount_in s))))

unfoldable pub table_after : Table → List ℕ → Table
table_after t s = cond (eqb (answer_of t s) 0) (accepted_at (kind_of s) t s) t

abbrev pub taken_of : Table → List ℕ → Filed
taken_of t s = record { answer = answer_of t s; table = table_after t s }
