-- "A year divisible by 4 has 527,040 minutes, others 525,600" (01, "Bytes on the wire"); short events (01, "What one event adds").
use Rattle.std.specs.Prelude.{ℕ, ◌-◌, ◌%◌, Bool, cond, leb, eqb}

unfoldable pub minutes_in : ℕ → ℕ
minutes_in year = cond (eqb (year % 4) 0) 527040 525600

-- "An event whose T3 (last step's time) minus T0 is 3 or less is accepted and counted as short, and adds to no total."
unfoldable pub is_short : ℕ → ℕ → Bool
is_short start end = leb (end - start) 3
