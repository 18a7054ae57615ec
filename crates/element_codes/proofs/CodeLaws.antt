-- Laws of the element list: a listed code has a row, another has the row past the last, and code and row belong to each other. Assumes nothing.
use Prim.Native.Nat.{ℕ, suc, ◌+◌, ◌<◌, ◌≤◌}
use mathlib.Core.Path.{◌≡◌, refl, sym, ap, ◌∙◌}
use mathlib.Core.Bool.{Bool, true, false, ◌||◌, cond, false≢true, true≢false}
use mathlib.Core.List.{List, [], ◌∷◌, map}
use lib.ListN.{length, get_or-eq_default}
use lib.Dec.{eqb, ltb}
use native.Mathlib.Omega.{arith}
use Rattle.std.proofs.lemmas.Bool.Decides.{nat_tests}
use Rattle.std.specs.Prelude.{Some, None}
use Rattle.std.specs.List.{list_any, position, position_or_len}
use Rattle.std.specs.Option.{unwrap_or}
use Rattle.std.proofs.lemmas.List.Recursion.{is_position_or_len}
use Rattle.base.specs.Lists.{listed, place}
use Rattle.base.proofs.PlaceLaws.{number_at_most}
use Rattle.element_codes.specs.Elements.{codes, element_listed, row_of, code_at}

count : length codes ≡ 62
unfolding codes
count = refl

-- a search by the library's words finds what `listed` and `place` say
module _ (x : ℕ) where
  turned : (y : ℕ) → eqb y x ≡ eqb x y
  turned y = grind (arith, nat_tests)

  pub listed_any : (xs : List ℕ) → list_any (λ y. eqb y x) xs ≡ listed x xs
  listed_any [] = refl
  listed_any (y ∷ ys) = λ i. turned y i || listed_any ys i

  place_or_len : (xs : List ℕ) → place x xs ≡ position_or_len (λ y. eqb x y) xs
  place_or_len xs = is_position_or_len (place x) (λ y. eqb x y) refl step xs
    where
      step : (y : ℕ) (ys : List ℕ) → place x (y ∷ ys) ≡ cond (eqb x y) 0 (1 + place x ys)
      step y ys = let e : suc (place x ys) ≡ 1 + place x ys = omega arith in ap (cond (eqb x y) 0) e

  or_end : (n len : ℕ) → n ≤ len → unwrap_or (cond (ltb n len) (Some n) None) len ≡ n
  or_end n len h = grind (arith, nat_tests)

  pub placed : (xs : List ℕ) → unwrap_or (position (λ y. eqb x y) xs) (length xs) ≡ place x xs
  placed xs =
      ap (λ n. unwrap_or (cond (ltb n (length xs)) (Some n) None) (length xs)) (sym (place_or_len xs)) ∙
      or_end (place x xs) (length xs) (number_at_most x xs)

-- past the last row there is no code
pub code_past : (row : ℕ) → 62 ≤ row → code_at row ≡ 0
unfolding code_at
code_past row past = get_or-eq_default codes 0 (omega (arith, past, count))

-- what a list holds has its place within it, what it does not hold has the place past its end
module _ (x : ℕ) where
  within : (xs : List ℕ) → listed x xs ≡ true → place x xs < length xs
  within [] e = absurd (false≢true e)
  within (y ∷ ys) e = go (eqb x y) e (within ys)
    where
      go : (b : Bool) → (b || listed x ys) ≡ true → (listed x ys ≡ true → place x ys < length ys) → cond b 0 (suc (place x ys)) < suc (length ys)
      go true f ih = omega arith
      go false f ih = let l = ih f in omega (arith, l)

  past : (xs : List ℕ) → listed x xs ≡ false → place x xs ≡ length xs
  past [] e = refl
  past (y ∷ ys) e = go (eqb x y) e (past ys)
    where
      go : (b : Bool) → (b || listed x ys) ≡ false → (listed x ys ≡ false → place x ys ≡ length ys) → cond b 0 (suc (place x ys)) ≡ suc (length ys)
      go true f ih = absurd (true≢false f)
      go false f ih = ap suc (ih f)

-- a listed code has one of the 62 rows, and another the row past the last
pub listed_row : (code : ℕ) → element_listed code ≡ true → row_of code < 62
unfolding element_listed row_of
listed_row code e = let l = within code codes e in omega (arith, l, count)

pub unlisted_row : (code : ℕ) → element_listed code ≡ false → row_of code ≡ 62
unfolding element_listed row_of
unlisted_row code e = past code codes e ∙ count

-- the code of each row has that row: the printed codes differ
pub rows_in_order : map row_of codes ≡ 0 ∷ 1 ∷ 2 ∷ 3 ∷ 4 ∷ 5 ∷ 6 ∷ 7 ∷ 8 ∷ 9 ∷ 10 ∷ 11 ∷ 12 ∷ 13 ∷ 14 ∷ 15 ∷ 16 ∷ 17 ∷ 18 ∷ 19 ∷ 20 ∷ 21 ∷ 22 ∷ 23 ∷ 24 ∷ 25 ∷ 26 ∷ 27 ∷ 28 ∷ 29 ∷ 30 ∷ 31 ∷ 32 ∷ 33 ∷ 34 ∷ 35 ∷ 36 ∷ 37 ∷ 38 ∷ 39 ∷ 40 ∷ 41 ∷ 42 ∷ 43 ∷ 44 ∷ 45 ∷ 46 ∷ 47 ∷ 48 ∷ 49 ∷ 50 ∷ 51 ∷ 52 ∷ 53 ∷ 54 ∷ 55 ∷ 56 ∷ 57 ∷ 58 ∷ 59 ∷ 60 ∷ 61 ∷ []
unfolding codes row_of
rows_in_order = refl
