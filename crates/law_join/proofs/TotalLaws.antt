-- The annex's sums over two lists of events, one after the other, are the sums of the two. Assumes nothing.
use Prim.Native.Nat.{ℕ, ◌+◌}
use mathlib.Core.Path.{◌≡◌, ap, ◌∙◌}
use mathlib.Core.List.{List, ◌++◌}
use mathlib.Core.Bool.{Bool, ◌&&◌, not}
use lib.ListN.{length, length-append}
use lib.Dec.{eqb}
use Rattle.annex.specs.Annex.{short_event}
use Rattle.annex.specs.Figure.{Figure, given}
use Rattle.law_sums.specs.Accepted.{event_in, row_in, short_ones, sum_of}
use Rattle.base.proofs.ListLaws.{keep_append}
use Rattle.base.proofs.SumLaws.{sum_kept_append}

abbrev counts : ℕ → List ℕ → Bool
counts row = λ (s : List ℕ). eqb (row_in s) row && not (short_event (event_in s))

module _ (xs ys : List (List ℕ)) where
  pub sums_append : (x : Figure) (row h : ℕ) → sum_of x row h (xs ++ ys) ≡ sum_of x row h xs + sum_of x row h ys
  sums_append x row h = sum_kept_append (counts row) (λ (s : List ℕ). given x h (event_in s)) xs ys

  pub short_append : length (short_ones (xs ++ ys)) ≡ length (short_ones xs) + length (short_ones ys)
  short_append = ap length (keep_append (λ (s : List ℕ). short_event (event_in s)) xs ys) ∙ length-append (short_ones xs) (short_ones ys)
