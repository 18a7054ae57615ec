-- Bytes written one after the other into a buffer, and what numbers look like in hexadecimal digits.
use Rattle.std.specs.Prelude.{ℕ, ◌+◌, ◌/◌, ◌%◌, List, [], ◌∷◌, cond, length, set, ltb, leb}
use Rattle.pen.specs.declared.Pen.{Pen}

-- a buffer, and the place of the next byte
pub record Spot : Type 0 where
  pub bytes : List ℕ
  pub at : ℕ

abbrev pub spot : List ℕ → ℕ → Spot
spot bytes at = record { bytes = bytes; at = at }

-- one byte more, where there is room
unfoldable pub pushed : Spot → ℕ → Spot
pushed s b = cond (leb (length s.bytes) s.at) s (spot (set s.bytes s.at b) (s.at + 1))

abbrev pub pushed_all : Spot → List ℕ → Spot
pushed_all s [] = s
pushed_all s (b ∷ bs) = pushed_all (pushed s b) bs

-- 0 to 9, then a to f
abbrev pub hex_digit : ℕ → ℕ
hex_digit d = cond (ltb d 10) (48 + d) (87 + d)

abbrev pub hex_text : ℕ → List ℕ
hex_text n = hex_digit (n / 16 % 16) ∷ hex_digit (n % 16) ∷ []

-- the pen with some bytes written: it holds the same buffer
abbrev pub inked : Pen → List ℕ → Pen
inked p bs =
    let s : Spot = pushed_all (spot p.out.now p.at) bs in
    record { out = record p.out { now = s.bytes }; at = s.at }
