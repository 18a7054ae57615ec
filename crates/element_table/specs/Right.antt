-- What is asked of a record of a yearly file that is accepted, of each kind by itself: nothing else is (02, K1).
use Rattle.std.specs.Prelude.{ℕ, ◌<◌, ◌≤◌, ◌≡◌, List, true, false, length}
use Rattle.wire.specs.Frame.{framed}
use Rattle.codes.specs.Ranges.{latest}
use Rattle.fields.specs.Fields.{sheet_in}
use Rattle.fields.specs.Tests.{in_range}
use Rattle.element_codes.specs.Elements.{element_listed}
use Rattle.element_row.specs.Row.{most_outages}
use Rattle.element_rules.specs.Fields.{code_in, start_in, end_in, unit_in}
use Rattle.element_table.specs.declared.Table.{Table}
use Rattle.element_table.specs.Table.{sound_table}
use Rattle.element_table.specs.Rules.{row_named}

-- a year sheet
pub record SheetRight (t : Table) (s : List ℕ) : Type 0 where
  pub sound : sound_table t ≡ true
  pub framed : framed s ≡ true
  pub size : length s ≡ 18
  pub first : t.seen ≡ false
  pub range : in_range (sheet_in s) ≡ true

-- an element outage
pub record OutageRight (t : Table) (s : List ℕ) : Type 0 where
  pub sound : sound_table t ≡ true
  pub framed : framed s ≡ true
  pub size : length s ≡ 14
  pub seen : t.seen ≡ true
  pub listed : element_listed (code_in s) ≡ true
  pub ordered : start_in s ≤ end_in s
  pub timely : end_in s ≤ latest
  pub room : (row_named t s).outages < most_outages

-- a stock
pub record StockRight (t : Table) (s : List ℕ) : Type 0 where
  pub sound : sound_table t ≡ true
  pub framed : framed s ≡ true
  pub size : length s ≡ 11
  pub seen : t.seen ≡ true
  pub new : (row_named t s).stock ≡ 0
  pub listed : element_listed (code_in s) ≡ true
  pub unit : unit_in s ≤ 1
