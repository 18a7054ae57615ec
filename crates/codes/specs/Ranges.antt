-- Ranges that 01 gives ("Bytes on the wire", "Refusal numbers").
use Rattle.std.specs.Prelude.{ℕ}

-- "other times are at most 600,000"
abbrev pub latest : ℕ
latest = 600000

-- "Level totals are 0 to 10,000,000"
abbrev pub most_customers : ℕ
most_customers = 10000000

-- "events are at most 65,535"
abbrev pub most_events : ℕ
most_events = 65535
