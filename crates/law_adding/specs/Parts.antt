-- The parts that are added: levels, event types, and the events of a book, with 003's sums over them (4.3.1 of a level, 4.3.2 of the network) and
-- the same figures as a ledger's cells have them.
use Rattle.std.specs.Prelude.{ℕ, ◌+◌, ◌*◌, List, [], ◌∷◌, map, Bool, true, ◌&&◌, not, ltb, Result, Ok, Err}
use Rattle.base.specs.Lists.{sum, keep, listed}
use Rattle.refusals.specs.declared.Refusal.{Refusal}
use Rattle.ratio.specs.declared.Fraction.{Fraction}
use Rattle.ratio.specs.Fraction.{whole, plus, times}
use Rattle.codes.specs.declared.Set.{Set}
use Rattle.codes.specs.declared.Set.TheVariants.{All, Std, Unnamed}
use Rattle.codes.specs.Codes.{types, compliance, rows, row_of}
use Rattle.annex.specs.Annex.{short_event}
use Rattle.annex.specs.Figure.{Figure, given}
use Rattle.fields.specs.Fields.{head_in}
use Rattle.ledger.specs.declared.Cell.{Cell}
use Rattle.ledger.specs.declared.Ledger.{Ledger}
use Rattle.ledger.specs.Ledger.{held_in, cell_by}
use Rattle.law_sums.specs.Accepted.{event_in}
use Rattle.index.specs.declared.Level.{Level}
use Rattle.index.specs.declared.Level.TheVariants.{NN, VN, VVN, Network}
use Rattle.index.specs.declared.Index.{Index}
use Rattle.index.specs.Sums.{customers_of}
use Rattle.index.specs.Index.{top_of, divisor_of, weight_of, index_of}

-- 003, 4.3.2: Σ from h = NN to h = VVN
abbrev pub over_levels : (Level → ℕ) → ℕ
over_levels f = f NN + f VN + f VVN

-- of a level what is said of it, of the network the sum over the levels
abbrev pub across : Level → (Level → ℕ) → ℕ
across NN f = f NN
across VN f = f VN
across VVN f = f VVN
across Network f = over_levels f

-- a level's place among the three counts of a record and the three cells of a row; the network has none
abbrev pub column_of : Level → ℕ
column_of NN = 0
column_of VN = 1
column_of VVN = 2
column_of Network = 3

-- the types that a set holds (01, "Codes"), and "types 13 to 16", which 'std' leaves out
abbrev pub types_in : Set → List ℕ
types_in All = types
types_in Std = compliance
types_in Unnamed = compliance

abbrev pub rest : List ℕ
rest = keep (λ (typ : ℕ). not (listed typ compliance)) types

-- each is a type of 9.2, and none stands there twice
abbrev pub each_once : List ℕ → Bool
each_once [] = true
each_once (typ ∷ ts) = ltb (row_of typ) rows && not (listed typ ts) && each_once ts

-- the events of some types that are not short: those that count
abbrev pub counted : List ℕ → List (List ℕ) → List (List ℕ)
counted ts events = keep (λ (s : List ℕ). listed (head_in s).typ ts && not (short_event (event_in s))) events

-- of a figure, Σ_h Σ_j over the counted events j of some types: Σ_h Σ_j n_jh, and 2 · Σ_h Σ_j n_jh · t_jh
abbrev pub events_hold : Figure → List ℕ → Level → List (List ℕ) → ℕ
events_hold x ts level events = across level (λ (h : Level). sum (map (λ (s : List ℕ). given x (column_of h) (event_in s)) (counted ts events)))

-- what a ledger holds of a figure for a type, and for some types together, of a level or of the network
abbrev pub type_holds : Figure → Ledger → Level → ℕ → ℕ
type_holds x l level typ = across level (λ (h : Level). held_in x l (row_of typ) (column_of h))

abbrev pub types_hold : Figure → Ledger → Level → List ℕ → ℕ
types_hold x l level ts = sum (map (type_holds x l level) ts)

abbrev pub together : Ledger → Level → List ℕ → Cell
together l level ts = cell_by (λ x. types_hold x l level ts)

-- 01's formula of an index for some types alone; N is that of the level or the network, whatever the types
abbrev pub alone_of : Ledger → Index → Level → List ℕ → Fraction
alone_of l index level ts =
    record {
      top = top_of index (together l level ts);
      bottom = weight_of index * divisor_of index (together l level ts) (customers_of l.sheet.totals level);
    }

-- fractions added one after the other
abbrev pub plus_all : List Fraction → Fraction
plus_all [] = whole 0
plus_all (f ∷ fs) = plus f (plus_all fs)

-- Σ from h = NN to h = VVN, of fractions
abbrev pub each_level : List Level
each_level = NN ∷ VN ∷ VVN ∷ []

abbrev pub over_each : (Level → Fraction) → Fraction
over_each f = plus_all (map f each_level)

-- an index times N; an index that is refused, as with an N of 0, adds nothing
abbrev pub times_n : Result Fraction Refusal → ℕ → Fraction
times_n (Ok f) n = times f n
times_n (Err r) n = whole 0

-- an index of a level, or of the network, times its N
abbrev pub share_of : Ledger → Index → Set → Level → Fraction
share_of l index set level = times_n (index_of l index level set) (customers_of l.sheet.totals level)
