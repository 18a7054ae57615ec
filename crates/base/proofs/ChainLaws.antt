-- A chain of tests as code has it, `a && b && c` or `a || b || c` bracketed to the left, taken apart into its tests. Assumes nothing.
use mathlib.Core.Path.{◌≡◌}
use mathlib.Core.List.{List, [], ◌∷◌}
use mathlib.Core.Bool.{Bool, true, false, ◌&&◌, ◌||◌}
use Rattle.base.specs.Lists.{All}
use Rattle.base.proofs.TestLaws.{and_left, and_right, or_left, or_right}

-- t && u && .. over the list
abbrev pub and_of : Bool → List Bool → Bool
and_of t [] = t
and_of t (u ∷ us) = and_of (t && u) us

-- where the chain is true, each of its tests is
pub each_holds : (t : Bool) (us : List Bool) → and_of t us ≡ true → All (λ b. b ≡ true) (t ∷ us)
each_holds t [] e = (e, tt)
each_holds t (u ∷ us) e = let k = each_holds (t && u) us e in (and_left t u k.0, (and_right t u k.0, k.1))

-- t || u || .. over the list
abbrev pub or_of : Bool → List Bool → Bool
or_of t [] = t
or_of t (u ∷ us) = or_of (t || u) us

-- where the chain is false, each of its tests is
pub each_fails : (t : Bool) (us : List Bool) → or_of t us ≡ false → All (λ b. b ≡ false) (t ∷ us)
each_fails t [] e = (e, tt)
each_fails t (u ∷ us) e = let k = each_fails (t || u) us e in (or_left t u k.0, (or_right t u k.0, k.1))
