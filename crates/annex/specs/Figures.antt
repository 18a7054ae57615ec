-- What an event adds, level by level, and how one step changes it (01, "What one event adds", Stepped).
use Rattle.std.specs.Prelude.{ℕ, ◌+◌, ◌*◌, max, List, [], ◌∷◌, get_or}
use Rattle.annex.specs.declared.Customers.{Customers}
use Rattle.annex.specs.declared.HalfMinutes.{HalfMinutes}
use Rattle.annex.specs.declared.Figures.{Figures}

abbrev pub customers : ℕ → Customers
customers n = record { 0 = n }

abbrev pub half_minutes : ℕ → HalfMinutes
half_minutes h = record { 0 = h }

abbrev pub nothing : Figures
nothing =
    record {
      customers = customers 0 ∷ customers 0 ∷ customers 0 ∷ [];
      halves = half_minutes 0 ∷ half_minutes 0 ∷ half_minutes 0 ∷ [];
    }

-- the figures of a level
abbrev pub customers_at : Figures → ℕ → ℕ
customers_at f level = (get_or f.customers level (customers 0)).0

abbrev pub halves_at : Figures → ℕ → ℕ
halves_at f level = (get_or f.halves level (half_minutes 0)).0

-- "the customers are the largest count of any step"
abbrev pub larger_of : Customers → ℕ → Customers
larger_of c n = customers (max c.0 n)

-- "twice the customer-minutes are twice the sum of count times duration"
abbrev pub longer_of : HalfMinutes → ℕ → ℕ → HalfMinutes
longer_of h n minutes = half_minutes (h.0 + 2 * n * minutes)

-- one step more, whose counts held for so many minutes
unfoldable pub with_step : Figures → List ℕ → ℕ → Figures
with_step f counts minutes =
    record {
      customers =
          larger_of (get_or f.customers 0 (customers 0)) (get_or counts 0 0) ∷
          larger_of (get_or f.customers 1 (customers 0)) (get_or counts 1 0) ∷
          larger_of (get_or f.customers 2 (customers 0)) (get_or counts 2 0) ∷ [];
      halves =
          longer_of (get_or f.halves 0 (half_minutes 0)) (get_or counts 0 0) minutes ∷
          longer_of (get_or f.halves 1 (half_minutes 0)) (get_or counts 1 0) minutes ∷
          longer_of (get_or f.halves 2 (half_minutes 0)) (get_or counts 2 0) minutes ∷ [];
    }
