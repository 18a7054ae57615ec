-- What the sums add up to. Assumes nothing.
use Prim.Native.Nat.{ℕ, zero, suc, ◌+◌}
use mathlib.Core.Path.{◌≡◌, refl, ◌∙◌}
use mathlib.Core.List.{List}
use native.Mathlib.Omega.{arith}
use Rattle.codes.specs.Codes.{rows, row_held}
use Rattle.codes.specs.declared.Set.{Set}
use Rattle.codes.specs.declared.Set.TheVariants.{All, Std}
use Rattle.annex.specs.Figure.{Figure, Off, Halves}
use Rattle.ledger.specs.declared.Cell.{Cell}
use Rattle.ledger.specs.declared.TypeRow.{TypeRow}
use Rattle.ledger.specs.Ledger.{held}
use Rattle.ledger.proofs.CellLaws.{by_figures}
use Rattle.index.specs.declared.Level.{Level}
use Rattle.index.specs.declared.Level.TheVariants.{NN, VN, VVN, Network}
use Rattle.index.specs.Sums.{plus_cell, sum_to, cell_at, over_levels, level_sum, total_of}
use Rattle.index.specs.Parts.{Levels, type_sum, level_rest, rest_of}

pub network_adds_levels : (rs : List TypeRow) (totals : List ℕ) (set : Set) → Levels rs totals set
network_adds_levels rs totals set = record { figures = both; served = refl }
  where
    both : (x : Figure) → held x (total_of rs Network set) ≡ held x (total_of rs NN set) + held x (total_of rs VN set) + held x (total_of rs VVN set)
    both Off = refl
    both Halves = refl

-- 'all' leaves no row out
pub level_adds_types : (rs : List TypeRow) (h : ℕ) → level_sum rs h All ≡ sum_to (cell_at rs h) rows
unfolding level_sum row_held
level_adds_types rs h = refl

-- three sums, term by term
sum_of_three : (f : ℕ → ℕ → Cell) (n : ℕ) → over_levels (λ h. sum_to (f h) n) ≡ sum_to (λ k. over_levels (λ h. f h k)) n
sum_of_three f zero = refl
sum_of_three f (suc n) =
    by_figures _ (plus_cell (over_levels (λ h. sum_to (f h) n)) (over_levels (λ h. f h n))) across ∙
    (λ i. plus_cell (sum_of_three f n i) (over_levels (λ h. f h n)))
  where
    across : (x : Figure) → held x (over_levels (λ h. sum_to (f h) (suc n))) ≡ held x (plus_cell (over_levels (λ h. sum_to (f h) n)) (over_levels (λ h. f h n)))
    across Off = omega arith
    across Halves = omega arith

-- over all types the network's sums are those of the types together
pub types_add_up : (rs : List TypeRow) → total_of rs Network All ≡ sum_to (type_sum rs) rows
types_add_up rs = (λ i. over_levels (λ h. level_adds_types rs h i)) ∙ sum_of_three (cell_at rs) rows

-- the compliance figures and those of the types that they leave out are together those of all: of a level by its number
pub level_std_and_rest : (rs : List TypeRow) (h : ℕ) → plus_cell (level_sum rs h Std) (level_rest rs h) ≡ level_sum rs h All
unfolding level_sum level_rest row_held
level_std_and_rest rs h = by_figures _ _ both
  where
    both : (x : Figure) → held x (plus_cell (level_sum rs h Std) (level_rest rs h)) ≡ held x (level_sum rs h All)
    both Off = omega arith
    both Halves = omega arith

-- six cells, added two by two
two_by_two : (f g : ℕ → Cell) → plus_cell (over_levels f) (over_levels g) ≡ over_levels (λ h. plus_cell (f h) (g h))
two_by_two f g = by_figures _ _ both
  where
    both : (x : Figure) → held x (plus_cell (over_levels f) (over_levels g)) ≡ held x (over_levels (λ h. plus_cell (f h) (g h)))
    both Off = omega arith
    both Halves = omega arith

-- and of a level or the network
pub std_and_rest : (rs : List TypeRow) (level : Level) → plus_cell (total_of rs level Std) (rest_of rs level) ≡ total_of rs level All
std_and_rest rs NN = level_std_and_rest rs 0
std_and_rest rs VN = level_std_and_rest rs 1
std_and_rest rs VVN = level_std_and_rest rs 2
std_and_rest rs Network = two_by_two (λ h. level_sum rs h Std) (level_rest rs) ∙ (λ i. over_levels (λ h. level_std_and_rest rs h i))
