-- The annex's fractions of the worked year (003, 10.2; 01, "Worked year"), computed from its bytes, before they are brought to lowest terms. Assumes nothing.
use Prim.Native.Nat.{ℕ}
use mathlib.Core.Path.{◌≡◌, refl}
use mathlib.Core.List.{List, [], ◌∷◌, map}
use Rattle.wire.specs.Cut.{cut_in, records_of}
use Rattle.ratio.specs.declared.Fraction.{Fraction}
use Rattle.codes.specs.declared.Set.TheVariants.{All, Std}
use Rattle.annex.specs.Times.{is_short}
use Rattle.annex.specs.Annex.{njh, njhtjh2}
use Rattle.index.specs.declared.Level.TheVariants.{NN, VVN, Network}
use Rattle.index.specs.declared.Index.{Index}
use Rattle.index.specs.declared.Index.TheVariants.{Saifi, Saidi, Caidi}
use Rattle.worked.specs.Worked.{year}
use Rattle.law_index.specs.Formulas.{annex_fraction}

abbrev over : ℕ → ℕ → Fraction
over top bottom = record { top = top; bottom = bottom }

abbrev three : List Index
three = Saifi ∷ Saidi ∷ Caidi ∷ []

-- of the network and of NN under 'all', and of VVN under 'std', where nobody was interrupted
pub year_network : map (λ (index : Index). annex_fraction index year Network All) three ≡ (over 3021 1011 ∷ over 158588 2022 ∷ over 158588 6042 ∷ [])
unfolding cut_in records_of is_short njh njhtjh2
year_network = refl

pub year_nn : map (λ (index : Index). annex_fraction index year NN All) three ≡ (over 3000 1000 ∷ over 158000 2000 ∷ over 158000 6000 ∷ [])
unfolding cut_in records_of is_short njh njhtjh2
year_nn = refl

pub year_vvn_std : map (λ (index : Index). annex_fraction index year VVN Std) three ≡ (over 0 1 ∷ over 0 2 ∷ over 0 0 ∷ [])
unfolding cut_in records_of is_short njh njhtjh2
year_vvn_std = refl
