-- Laws of the code lists: bounds on rows and levels, what the lists hold and what they leave out, computed from the definitions. Assumes nothing.
use Rattle.std.specs.List.{list_any}
use Prim.Native.Nat.{ℕ, zero, suc, ◌+◌, ◌-◌, ◌<◌, ◌≤◌}
use mathlib.Core.Path.{◌≡◌, refl, sym, ap, ◌∙◌}
use mathlib.Core.Bool.{Bool, true, false, ◌&&◌, ◌||◌, cond, false≢true}
use mathlib.Core.List.{List, [], ◌∷◌, map}
use lib.ListN.{replicate}
use lib.Dec.{eqb, leb}
use native.Mathlib.Omega.{arith}
use borrow.Author.Tests.{eq-eqb, ne_eqb, eqb-true, eqb-false, leb-true, le-leb, lt-leb}
use Rattle.base.specs.Lists.{every, listed}
use Rattle.base.proofs.TestLaws.{Tested, holds, fails, test, and_left, and_right}
use Rattle.base.proofs.PlaceLaws.{number_at_most}
use Rattle.codes.specs.Codes.{types, rows, levels, row_of, voltages, level_in, level_of, level_by_ranges, causes, cause_listed, row_held}
use Rattle.codes.specs.declared.Set.{Set}
use Rattle.codes.specs.declared.Voltage.{Voltage}
use Rattle.codes.specs.declared.Set.TheVariants.{All, Std, Unnamed}

-- the compliance figures by the rows of their types
pub compliance_by_row : (row : ℕ) → (eqb row 0 || eqb row 1 || eqb row 6) ≡ row_held Std row
unfolding row_held
compliance_by_row zero = refl
compliance_by_row (suc zero) = refl
compliance_by_row (suc (suc zero)) = refl
compliance_by_row (suc (suc (suc zero))) = refl
compliance_by_row (suc (suc (suc (suc zero)))) = refl
compliance_by_row (suc (suc (suc (suc (suc zero))))) = refl
compliance_by_row (suc (suc (suc (suc (suc (suc zero)))))) = refl
compliance_by_row (suc (suc (suc (suc (suc (suc (suc n))))))) =
    let m : ℕ = suc (suc (suc (suc (suc (suc (suc n)))))) in
    rw (ne_eqb m 0 (λ e. omega arith), ne_eqb m 1 (λ e. omega arith), ne_eqb m 6 (λ e. omega arith))

pub row_at_most : (typ : ℕ) → row_of typ ≤ rows
unfolding row_of
row_at_most typ = number_at_most typ types

-- the library's search of a list finds what is listed
pub listed_by_any : (x : ℕ) (ys : List ℕ) → list_any (λ y. eqb x y) ys ≡ listed x ys
listed_by_any x [] = refl
listed_by_any x (y ∷ ys) = ap (λ b. eqb x y || b) (listed_by_any x ys)

-- no row of the table has a level past the last
in_at_most : (voltage : ℕ) (rs : List Voltage) → every (λ r. leb r.1 levels) rs ≡ true → level_in voltage rs ≤ levels
in_at_most voltage [] h = omega arith
in_at_most voltage (r ∷ rs) h =
    let rest : Bool = every (λ x. leb x.1 levels) rs in
    go (eqb voltage r.0) (leb-true r.1 levels (and_left (leb r.1 levels) rest h)) (in_at_most voltage rs (and_right (leb r.1 levels) rest h))
  where
    go : (t : Bool) → r.1 ≤ levels → level_in voltage rs ≤ levels → cond t r.1 (level_in voltage rs) ≤ levels
    go true a b = a
    go false a b = b

pub level_at_most : (voltage : ℕ) → level_of voltage ≤ levels
unfolding level_of
level_at_most voltage = in_at_most voltage voltages refl

-- the table answers what the ranges answer, for every number and so for every byte
pub table_by_ranges : (voltage : ℕ) → level_of voltage ≡ level_by_ranges voltage
unfolding level_of
table_by_ranges zero = refl
table_by_ranges (suc zero) = refl
table_by_ranges (suc (suc zero)) = refl
table_by_ranges (suc (suc (suc zero))) = refl
table_by_ranges (suc (suc (suc (suc zero)))) = refl
table_by_ranges (suc (suc (suc (suc (suc zero))))) = refl
table_by_ranges (suc (suc (suc (suc (suc (suc zero)))))) = refl
table_by_ranges (suc (suc (suc (suc (suc (suc (suc zero))))))) = refl
table_by_ranges (suc (suc (suc (suc (suc (suc (suc (suc n)))))))) =
    let m : ℕ = suc (suc (suc (suc (suc (suc (suc (suc n))))))) in
    let other : (k : ℕ) → k ≤ 7 → eqb m k ≡ false = λ k l. ne_eqb m k (λ e. omega arith) in
    rw (other 1 (omega arith), other 2 (omega arith), other 3 (omega arith), other 4 (omega arith), other 5 (omega arith), other 6 (omega arith), other 7 (omega arith), le-leb 2 m (omega arith), lt-leb m 6 (omega arith)) refl

-- 0, not recorded, counts as listed
pub cause_zero : cause_listed 0 ≡ true
unfolding cause_listed causes
cause_zero = refl

-- the types of 9.2 in their order, then the group code 1 and two numbers that are no type
pub rows_computed : map row_of (11 ∷ 12 ∷ 13 ∷ 14 ∷ 15 ∷ 16 ∷ 2 ∷ 1 ∷ 0 ∷ 17 ∷ []) ≡ (0 ∷ 1 ∷ 2 ∷ 3 ∷ 4 ∷ 5 ∷ 6 ∷ 7 ∷ 7 ∷ 7 ∷ [])
unfolding row_of
rows_computed = refl

-- the voltages 0 to 8
pub levels_computed : map level_of (0 ∷ 1 ∷ 2 ∷ 3 ∷ 4 ∷ 5 ∷ 6 ∷ 7 ∷ 8 ∷ []) ≡ (3 ∷ 0 ∷ 1 ∷ 1 ∷ 1 ∷ 1 ∷ 1 ∷ 2 ∷ 3 ∷ [])
unfolding level_of
levels_computed = refl

-- each printed cause is listed
pub causes_computed : map cause_listed causes ≡ replicate 22 true
unfolding cause_listed causes
causes_computed = refl

-- numbers between and past the printed ones
pub gaps_computed : map cause_listed (5 ∷ 10 ∷ 40 ∷ []) ≡ replicate 3 false
unfolding cause_listed causes
gaps_computed = refl

-- the rows 0 to 7 in a set
abbrev pub held_rows : Set → List Bool
held_rows set = map (row_held set) (0 ∷ 1 ∷ 2 ∷ 3 ∷ 4 ∷ 5 ∷ 6 ∷ 7 ∷ [])

-- 'std' and no set named hold the rows of 11, 12 and 2 and no other; 'all' holds the row of each type, and not the row past the last
pub held_computed :
    map held_rows (Std ∷ Unnamed ∷ All ∷ [])
    ≡ ((true ∷ true ∷ false ∷ false ∷ false ∷ false ∷ true ∷ false ∷ [])
    ∷ (true ∷ true ∷ false ∷ false ∷ false ∷ false ∷ true ∷ false ∷ [])
    ∷ (true ∷ true ∷ true ∷ true ∷ true ∷ true ∷ true ∷ false ∷ [])
    ∷ [])
unfolding row_held
held_computed = refl

-- a request that names no set means 'std'
pub unnamed_is_std : (row : ℕ) → row_held Unnamed row ≡ row_held Std row
unfolding row_held
unnamed_is_std row = refl

-- faults, planned work, and what is neither
fault_row : (k : ℕ) → k < 6 → row_of (11 + k) ≡ k
unfolding row_of
fault_row zero l = refl
fault_row (suc zero) l = refl
fault_row (suc (suc zero)) l = refl
fault_row (suc (suc (suc zero))) l = refl
fault_row (suc (suc (suc (suc zero)))) l = refl
fault_row (suc (suc (suc (suc (suc zero))))) l = refl
fault_row (suc (suc (suc (suc (suc (suc k)))))) l = absurd (omega arith)

-- types 11 to 16 have the rows 0 to 5, type 2 has row 6, and any other number has the row past the last
pub row_of_fault : (typ : ℕ) → 11 ≤ typ → typ ≤ 16 → row_of typ ≡ typ - 11
row_of_fault typ a b =
    let e : typ ≡ 11 + (typ - 11) = omega arith in
    ap row_of e ∙ fault_row (typ - 11) (omega arith)

pub row_of_planned : row_of 2 ≡ 6
unfolding row_of
row_of_planned = refl

pub row_of_none : (typ : ℕ) → (leb 11 typ && leb typ 16) ≡ false → (typ ≡ 2 → ⊥) → row_of typ ≡ rows
unfolding row_of
row_of_none typ f p =
    let out : (n : ℕ) → leb 11 n ≡ true → leb n 16 ≡ true → typ ≡ n → ⊥ =
    λ n a b e. false≢true (sym f ∙ ap (λ x. leb 11 x && leb x 16) e ∙ (λ i. a i && leb n 16) ∙ b) in
    rw (ne_eqb typ 11 (out 11 refl refl), ne_eqb typ 12 (out 12 refl refl), ne_eqb typ 13 (out 13 refl refl), ne_eqb typ 14 (out 14 refl refl), ne_eqb typ 15 (out 15 refl refl), ne_eqb typ 16 (out 16 refl refl), ne_eqb typ 2 p)
