-- The elements of 003, 9.8 (02, K1): "element code of 9.8".
use Rattle.std.specs.Prelude.{ℕ, List, [], ◌∷◌, Bool, get_or}
use Rattle.base.specs.Lists.{listed, place}

-- 9.8, as printed
unfoldable pub codes : List ℕ
codes =
    1 ∷ 2 ∷ 3 ∷ 4 ∷ 5 ∷ 6 ∷ 7 ∷ 8 ∷ 9 ∷ 10 ∷ 11 ∷ 12 ∷ 13 ∷ 14 ∷ 15 ∷ 16 ∷ 17 ∷ 18 ∷ 19 ∷ 20 ∷ 21 ∷ 22 ∷ 23 ∷ 24 ∷ 25 ∷ 26 ∷ 27 ∷ 28 ∷ 29 ∷ 30 ∷
    101 ∷ 102 ∷ 103 ∷ 109 ∷
    181 ∷ 182 ∷ 183 ∷ 184 ∷ 191 ∷ 192 ∷ 193 ∷ 194 ∷ 199 ∷
    211 ∷ 212 ∷ 213 ∷ 214 ∷
    241 ∷ 242 ∷ 243 ∷ 244 ∷ 245 ∷ 246 ∷ 247 ∷ 249 ∷
    251 ∷ 252 ∷ 253 ∷ 254 ∷ 255 ∷ 256 ∷ 259 ∷ []

abbrev pub element_count : ℕ
element_count = 62

unfoldable pub element_listed : ℕ → Bool
element_listed code = listed code codes

-- the row of a code in an element table is its place in the list; one that is not listed has the row past the last
unfoldable pub row_of : ℕ → ℕ
row_of code = place code codes

unfoldable pub code_at : ℕ → ℕ
code_at row = get_or codes row 0
