-- The figures of 003, 4.3.1, each a sum of its own unit: the customers interrupted, and the customer-minutes, which are kept in halves. What is said of
-- each of them is said once, of a Figure.
use Rattle.std.specs.Prelude.{ℕ, ◌*◌}
use Rattle.codes.specs.Ranges.{latest, most_customers}
use Rattle.annex.specs.declared.Figures.{Figures}
use Rattle.annex.specs.Figures.{customers_at, halves_at}
use Rattle.annex.specs.Annex.{Event, njh, njhtjh2}

pub data Figure : Type 0 where
  Off : Figure
  Halves : Figure

-- what event j gives a level h: n_jh, and 2 · n_jh · t_jh
abbrev pub given : Figure → ℕ → Event → ℕ
given Off h e = njh h e
given Halves h e = njhtjh2 h e

-- the same among the figures that code works out
abbrev pub figure_at : Figure → Figures → ℕ → ℕ
figure_at Off f h = customers_at f h
figure_at Halves f h = halves_at f h

-- the most that one event gives a level: "level totals are 0 to 10,000,000", all of them off from 0 to 600,000
abbrev pub most_of : Figure → ℕ
most_of Off = most_customers
most_of Halves = 2 * most_customers * latest
