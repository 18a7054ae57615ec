-- A row of the element table (02, K1): what is known of one element, its bounds, and what an outage and a stock add to it.
use Rattle.std.specs.Prelude.{ℕ, ◌+◌, ◌*◌, ◌≤◌, ◌≡◌, Bool, ◌&&◌, ◌||◌, leb, ltb, eqb}
use Rattle.element_row.specs.declared.Row.{Row}

-- no outage, and no stock told
abbrev pub no_row : Row
no_row = record { outages = 0; minutes = 0; stock = 0; amount = 0 }

-- the most outages that are kept of an element, and the longest of them in minutes
abbrev pub most_outages : ℕ
most_outages = 65535

abbrev pub longest : ℕ
longest = 600000

-- outages over 65,535, minutes over outages x 600,000, a stock mark that is none of its values, no stock marked but an amount not 0
abbrev pub row_within : Row → Bool
row_within r =
    leb r.outages most_outages && leb r.minutes (r.outages * longest) && leb r.stock 2 && (ltb 0 r.stock || eqb r.amount 0)

-- one outage more, of so many minutes
abbrev pub with_outage : Row → ℕ → Row
with_outage r minutes = record { outages = r.outages + 1; minutes = r.minutes + minutes; stock = r.stock; amount = r.amount }

-- the stock told: pieces are marked 1, a line 2
abbrev pub with_stock : Row → ℕ → ℕ → Row
with_stock r unit amount = record { outages = r.outages; minutes = r.minutes; stock = unit + 1; amount = amount }

-- a row within its bounds
pub record RowSound (r : Row) : Type 0 where
  pub outages : r.outages ≤ most_outages
  pub minutes : r.minutes ≤ r.outages * longest
  pub stock : r.stock ≤ 2
  pub amount : r.stock ≡ 0 → r.amount ≡ 0
