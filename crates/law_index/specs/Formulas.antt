-- SAIFI, SAIDI and CAIDI as 003 prints them (4.3.1 of a level, 4.3.2 of the network), over the events of a book and the customers of its year sheet.
use Rattle.std.specs.Prelude.{ℕ, ◌+◌, ◌*◌, List, [], map, get_or}
use Rattle.base.specs.Lists.{sum}
use Rattle.wire.specs.Numbers.{le32}
use Rattle.wire.specs.Cut.{records_of}
use Rattle.ratio.specs.declared.Fraction.{Fraction}
use Rattle.codes.specs.declared.Set.{Set}
use Rattle.annex.specs.Annex.{njh, njhtjh2}
use Rattle.law_sums.specs.Accepted.{event_in}
use Rattle.law_sums.specs.Theorem.{events_of}
use Rattle.index.specs.declared.Level.{Level}
use Rattle.index.specs.declared.Index.{Index}
use Rattle.index.specs.declared.Index.TheVariants.{Saifi, Saidi, Caidi}
use Rattle.law_adding.specs.Parts.{across, column_of, types_in, counted}

-- the book's events of a set's types that are not short
abbrev pub events_under : Set → List ℕ → List (List ℕ)
events_under set book = counted (types_in set) (events_of book)

-- Σ_j n_jh over them; of the network Σ_h Σ_j n_jh
abbrev pub customers_off : List ℕ → Level → Set → ℕ
customers_off book level set =
    across level (λ (h : Level). sum (map (λ (s : List ℕ). njh (column_of h) (event_in s)) (events_under set book)))

-- 2 · Σ_j n_jh · t_jh; of the network 2 · Σ_h Σ_j n_jh · t_jh
abbrev pub half_minutes_off : List ℕ → Level → Set → ℕ
half_minutes_off book level set =
    across level (λ (h : Level). sum (map (λ (s : List ℕ). njhtjh2 (column_of h) (event_in s)) (events_under set book)))

-- the year sheet is the first record: "year 2, customers of each level 3x4" after its length and kind
abbrev pub sheet_of : List ℕ → List ℕ
sheet_of book = get_or (records_of book) 0 []

-- N_sh, from its bytes; of the network Σ_h N_sh
abbrev pub served : List ℕ → Level → ℕ
served book level = across level (λ (h : Level). le32 (sheet_of book) (6 + 4 * column_of h))

-- SAIFI = Σ n_jh / N_sh, SAIDI = Σ n_jh t_jh / N_sh, CAIDI = Σ n_jh t_jh / Σ n_jh; with half minutes above the line there is a 2 below it
abbrev pub annex_fraction : Index → List ℕ → Level → Set → Fraction
annex_fraction Saifi book level set = record { top = customers_off book level set; bottom = served book level }
annex_fraction Saidi book level set = record { top = half_minutes_off book level set; bottom = 2 * served book level }
annex_fraction Caidi book level set = record { top = half_minutes_off book level set; bottom = 2 * customers_off book level set }
