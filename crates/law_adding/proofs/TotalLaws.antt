-- Levels, types, and 'std' with the rest, in a ledger's totals: each total is a sum of the same cells, taken in another order. Assumes nothing.
use Prim.Native.Nat.{ℕ, ◌+◌}
use mathlib.Core.Path.{◌≡◌, refl, sym, ap, ◌∙◌}
use mathlib.Core.List.{map}
use native.Mathlib.Omega.{arith}
use Rattle.base.specs.Lists.{sum}
use Rattle.codes.specs.declared.Set.{Set}
use Rattle.codes.specs.declared.Set.TheVariants.{All, Std, Unnamed}
use Rattle.codes.specs.Codes.{row_of, row_held}
use Rattle.annex.specs.Figure.{Figure, Off, Halves}
use Rattle.ledger.specs.declared.Ledger.{Ledger}
use Rattle.ledger.specs.Ledger.{held, held_in}
use Rattle.ledger.proofs.CellLaws.{held_by}
use Rattle.index.specs.declared.Level.{Level}
use Rattle.index.specs.declared.Level.TheVariants.{NN, VN, VVN, Network}
use Rattle.index.specs.Sums.{level_sum, total_of}
use Rattle.index.specs.Parts.{level_rest, rest_of}
use Rattle.index.proofs.AddLaws.{network_adds_levels, std_and_rest}
use Rattle.law_adding.specs.Parts.{column_of, across, types_in, rest, types_hold}
use Rattle.law_adding.specs.Adding.{total_held, LevelsAdd, TypesAdd, RestAdds}
use Rattle.law_adding.proofs.SumLaws.{sum_across, across_alike}

module _ (l : Ledger) where
  pub levels_add : (set : Set) → LevelsAdd l set
  levels_add set = let levels = network_adds_levels l.rows l.sheet.totals set in record { figures = levels.figures; served = levels.served }

  -- a level's sums, row by row in the order of the types
  level_holds : (x : Figure) (h : ℕ) (set : Set) → held x (level_sum l.rows h set) ≡ sum (map (λ (typ : ℕ). held_in x l (row_of typ) h) (types_in set))
  unfolding level_sum row_held row_of
  level_holds Off h All = omega arith
  level_holds Off h Std = omega arith
  level_holds Off h Unnamed = omega arith
  level_holds Halves h All = omega arith
  level_holds Halves h Std = omega arith
  level_holds Halves h Unnamed = omega arith

  -- a level's or the network's total, level by level
  total_across : (x : Figure) (level : Level) (set : Set) → total_held x l level set ≡ across level (λ (h : Level). held x (level_sum l.rows (column_of h) set))
  total_across x NN set = refl
  total_across x VN set = refl
  total_across x VVN set = refl
  total_across x Network set = (levels_add set).figures x

  pub types_add : (level : Level) (set : Set) → TypesAdd l level set
  types_add level set x =
      total_across x level set ∙
      across_alike level _ _ (level_holds x 0 set) (level_holds x 1 set) (level_holds x 2 set) ∙
      sym (sum_across level (λ (typ : ℕ) (h : Level). held_in x l (row_of typ) (column_of h)) (types_in set))

  -- the types that 'std' leaves out, as the index's laws add them
  rest_is : (x : Figure) (level : Level) → types_hold x l level rest ≡ held x (rest_of l.rows level)
  unfolding level_rest row_held row_of
  rest_is Off NN = omega arith
  rest_is Off VN = omega arith
  rest_is Off VVN = omega arith
  rest_is Off Network = omega arith
  rest_is Halves NN = omega arith
  rest_is Halves VN = omega arith
  rest_is Halves VVN = omega arith
  rest_is Halves Network = omega arith

  pub rest_adds : (level : Level) → RestAdds l level
  rest_adds level x =
      ap (λ (n : ℕ). total_held x l level Std + n) (rest_is x level) ∙
      sym (held_by (λ y. held y (total_of l.rows level Std) + held y (rest_of l.rows level)) x) ∙
      ap (held x) (std_and_rest l.rows level)
