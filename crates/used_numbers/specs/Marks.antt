-- "A map of 8,192 lent bytes marks used event numbers: number v is bit v mod 8 (lowest is 0) of byte v / 8" (01, "What one event adds").
use Rattle.std.specs.Prelude.{ℕ, ◌+◌, ◌/◌, ◌%◌, ◌^◌, List, Bool, cond, get_or, set, eqb}

-- how many bytes a map has
abbrev pub map_size : ℕ
map_size = 8192

abbrev pub bit_of : ℕ → ℕ → Bool
bit_of byte k = eqb (byte / 2 ^ k % 2) 1

-- the byte with bit k set
abbrev pub with_bit : ℕ → ℕ → ℕ
with_bit byte k = cond (bit_of byte k) byte (byte + 2 ^ k)

unfoldable pub marked : List ℕ → ℕ → Bool
marked m v = bit_of (get_or m (v / 8) 0) (v % 8)

unfoldable pub marking : List ℕ → ℕ → List ℕ
marking m v = set m (v / 8) (with_bit (get_or m (v / 8) 0) (v % 8))

-- event numbers are 1 to 65,535: 0 stands for no event, and marks nothing
unfoldable pub marked_with : List ℕ → ℕ → List ℕ
marked_with m v = cond (eqb v 0) m (marking m v)
