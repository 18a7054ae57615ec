-- What a simple event adds (01, "What one event adds", Simple; 003, 4.3.1).
use Rattle.std.specs.Prelude.{ℕ, ◌+◌, ◌*◌, ◌-◌, ◌≤◌, [], ◌∷◌, get_or}
use Rattle.codes.specs.Ranges.{latest}
use Rattle.annex.specs.declared.HalfMinutes.{HalfMinutes}
use Rattle.annex.specs.declared.Figures.{Figures}
use Rattle.annex.specs.declared.Simple.{Simple}
use Rattle.annex.specs.Figures.{customers, half_minutes}

-- "twice the customer-minutes are 2 n1 (T1-T0) + (n1+n2)(T2-T1) + 2 n2 (T3-T2)"
abbrev pub halves_of : Simple → ℕ → ℕ → HalfMinutes
halves_of e n1 n2 = half_minutes (2 * n1 * (e.t1 - e.t0) + (n1 + n2) * (e.t2 - e.t1) + 2 * n2 * (e.t3 - e.t2))

-- "Per level the customers are n1"
unfoldable pub simple_figures : Simple → Figures
simple_figures e =
    record {
      customers = customers (get_or e.n1 0 0) ∷ customers (get_or e.n1 1 0) ∷ customers (get_or e.n1 2 0) ∷ [];
      halves =
          halves_of e (get_or e.n1 0 0) (get_or e.n2 0 0) ∷
          halves_of e (get_or e.n1 1 0) (get_or e.n2 1 0) ∷
          halves_of e (get_or e.n1 2 0) (get_or e.n2 2 0) ∷ [];
    }

-- "T0 <= T1 <= T2 <= T3", "other times are at most 600,000"
pub record InOrder (e : Simple) : Type 0 where
  pub one : e.t0 ≤ e.t1
  pub two : e.t1 ≤ e.t2
  pub three : e.t2 ≤ e.t3
  pub last : e.t3 ≤ latest
