-- "All numbers are unsigned and little-endian" (01, "Bytes on the wire"). A byte past the end is read as 0.
use Rattle.std.specs.Prelude.{ℕ, ◌+◌, ◌*◌, ◌/◌, ◌%◌, List, [], ◌∷◌, ◌++◌, get_or}

abbrev pub byte_at : List ℕ → ℕ → ℕ
byte_at s at = get_or s at 0

abbrev pub le16 : List ℕ → ℕ → ℕ
le16 s at = get_or s at 0 + get_or s (at + 1) 0 * 256

abbrev pub le32 : List ℕ → ℕ → ℕ
le32 s at = get_or s at 0 + get_or s (at + 1) 0 * 256 + get_or s (at + 2) 0 * 65536 + get_or s (at + 3) 0 * 16777216

-- "three counts, one for each level: NN, VN, VVN"
abbrev pub counts_at : List ℕ → ℕ → List ℕ
counts_at s at = le32 s at ∷ le32 s (at + 4) ∷ le32 s (at + 8) ∷ []

-- a number written in two and in four bytes
abbrev pub le2 : ℕ → List ℕ
le2 n = n % 256 ∷ n / 256 % 256 ∷ []

abbrev pub le4 : ℕ → List ℕ
le4 n = le2 n ++ le2 (n / 65536)
