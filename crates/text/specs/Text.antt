-- Text as bytes, and numbers in decimal digits.
use Rattle.std.specs.Prelude.{ℕ, zero, suc, ◌+◌, ◌-◌, ◌/◌, ◌%◌, List, [], ◌∷◌, ◌++◌, cond, length, set, replicate, ltb, leb}
use Rattle.text.specs.declared.Text.{Text}

-- the text with these bytes, and zeros past them
abbrev pub text_of : List ℕ → Text
text_of bytes = record { bytes = bytes ++ replicate (1024 - length bytes) 0; len = length bytes }

-- one byte more, where there is room
unfoldable pub pushed : Text → ℕ → Text
pushed t b = cond (leb 1024 t.len) t (record { bytes = set t.bytes t.len b; len = t.len + 1 })

abbrev pub pushed_all : Text → List ℕ → Text
pushed_all t [] = t
pushed_all t (b ∷ bs) = pushed_all (pushed t b) bs

-- the decimal digits of a number below ten to the k, the most significant first
abbrev pub digits_in : ℕ → ℕ → List ℕ
digits_in zero n = []
digits_in (suc k) n = cond (ltb n 10) ((48 + n) ∷ []) (digits_in k (n / 10) ++ ((48 + n % 10) ∷ []))

-- a number below ten to the 20th, as every 64-bit number is
unfoldable pub number_text : ℕ → List ℕ
number_text n = digits_in 20 n

-- the last two digits
abbrev pub two_text : ℕ → List ℕ
two_text n = (48 + n / 10 % 10) ∷ (48 + n % 10) ∷ []
