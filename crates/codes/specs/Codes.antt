-- The codes of 003, section 9, as 01 takes them ("Codes").
use Rattle.std.specs.Prelude.{ℕ, List, [], ◌∷◌, Bool, ◌&&◌, ◌||◌, cond, get_or, leb, ltb, eqb}
use Rattle.base.specs.Lists.{listed, place}
use Rattle.codes.specs.declared.Set.{Set}
use Rattle.codes.specs.declared.Voltage.{Voltage}
use Rattle.codes.specs.declared.Set.TheVariants.{All, Std, Unnamed}

-- 9.2: "Types: 11, 12, 13, 14, 15, 16 and 2 (planned). The group code 1 is not taken." A type's row in the ledger is its place here.
abbrev pub types : List ℕ
types = 11 ∷ 12 ∷ 13 ∷ 14 ∷ 15 ∷ 16 ∷ 2 ∷ []

abbrev pub rows : ℕ
rows = 7

-- a type that is not listed has the row past the last one
unfoldable pub row_of : ℕ → ℕ
row_of typ = place typ types

-- the levels are 0, 1 and 2, NN lowest
abbrev pub levels : ℕ
levels = 3

abbrev NN : ℕ
NN = 0

abbrev VN : ℕ
VN = 1

abbrev VVN : ℕ
VVN = 2

-- 9.4 in its order: a code, its level, and beside them the annex's voltage. "Voltage 1 is NN, 2 to 6 VN, 7 VVN."
abbrev pub voltages : List Voltage
voltages =
    (1, NN) ∷  -- 0,4 kV
    (2, VN) ∷  -- 3 kV
    (3, VN) ∷  -- 6 kV
    (4, VN) ∷  -- 10 kV
    (5, VN) ∷  -- 22 kV
    (6, VN) ∷  -- 35 kV
    (7, VVN) ∷ []  -- 110 kV

-- the level in the first row that has the code; a code that is not listed has the level past the last
abbrev pub level_in : ℕ → List Voltage → ℕ
level_in voltage [] = levels
level_in voltage (r ∷ rs) = cond (eqb voltage r.0) r.1 (level_in voltage rs)

unfoldable pub level_of : ℕ → ℕ
level_of voltage = level_in voltage voltages

-- the same by ranges, for every number (`CodeLaws.table_by_ranges`)
abbrev pub level_by_ranges : ℕ → ℕ
level_by_ranges voltage = cond (eqb voltage 1) 0 (cond (leb 2 voltage && leb voltage 6) 1 (cond (eqb voltage 7) 2 levels))

-- 9.6, as printed; "0 means not recorded and counts as listed"
unfoldable pub causes : List ℕ
causes = 1 ∷ 2 ∷ 3 ∷ 4 ∷ 9 ∷ 11 ∷ 12 ∷ 13 ∷ 14 ∷ 19 ∷ 21 ∷ 22 ∷ 23 ∷ 24 ∷ 25 ∷ 26 ∷ 29 ∷ 31 ∷ 32 ∷ 33 ∷ 34 ∷ 39 ∷ []

unfoldable pub cause_listed : ℕ → Bool
cause_listed cause = eqb cause 0 || listed cause causes

-- "Set 'std' (the compliance figures) holds 11, 12 and 2; types 13 to 16 are left out."
abbrev pub compliance : List ℕ
compliance = 11 ∷ 12 ∷ 2 ∷ []

-- the set holds the type of this row; 02, K10: "A request that names no set now means 'std'."
unfoldable pub row_held : Set → ℕ → Bool
row_held All row = ltb row rows
row_held Std row = listed (get_or types row 0) compliance
row_held Unnamed row = listed (get_or types row 0) compliance
