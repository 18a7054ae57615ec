-- The codes of an index, a level and a set in include/temelyak.h, and the numbers that a call answers.
use Rattle.std.specs.Prelude.{ℕ, List, [], ◌∷◌, Bool, ◌&&◌, cond, leb, eqb, Result, Ok, Err}
use Rattle.refusals.specs.declared.Refusal.{Refusal}
use Rattle.refusals.specs.Refusals.{number_of}
use Rattle.ratio.specs.declared.Fraction.{Fraction}
use Rattle.decimal.specs.declared.Decimal.{Decimal}
use Rattle.codes.specs.declared.Set.{Set}
use Rattle.codes.specs.declared.Set.TheVariants.{All, Std, Unnamed}
use Rattle.index.specs.declared.Level.{Level}
use Rattle.index.specs.declared.Level.TheVariants.{NN, VN, VVN, Network}
use Rattle.index.specs.declared.Index.{Index}
use Rattle.index.specs.declared.Index.TheVariants.{Saifi, Saidi, Caidi}

-- 1 SAIFI, 2 SAIDI, 3 CAIDI
abbrev pub index_named : ℕ → Index
index_named code = cond (eqb code 1) Saifi (cond (eqb code 2) Saidi Caidi)

-- 1 NN, 2 VN, 3 VVN, 4 the network
abbrev pub level_named : ℕ → Level
level_named code = cond (eqb code 1) NN (cond (eqb code 2) VN (cond (eqb code 3) VVN Network))

-- 0 none named, 1 all, 2 std
abbrev pub set_named : ℕ → Set
set_named code = cond (eqb code 0) Unnamed (cond (eqb code 1) All Std)

-- each code names one of these; any other code names none
abbrev pub all_named : ℕ → ℕ → ℕ → Bool
all_named index level set = leb 1 index && leb index 3 && (leb 1 level && leb level 4) && leb set 2

-- 0 and the numbers for an output, or the number of a refusal alone
abbrev pub numbers_in : Result (List ℕ) Refusal → List ℕ
numbers_in (Ok ns) = 0 ∷ ns
numbers_in (Err r) = number_of r ∷ []

-- the two numbers of a fraction and those of a decimal; what is refused by a number is handed on
abbrev pub fraction_words : Result Fraction ℕ → Result (List ℕ) ℕ
fraction_words (Ok f) = Ok (f.top ∷ f.bottom ∷ [])
fraction_words (Err n) = Err n

abbrev pub decimal_words : Result Decimal ℕ → Result (List ℕ) ℕ
decimal_words (Ok d) = Ok (d.whole ∷ d.digits ∷ [])
decimal_words (Err n) = Err n
