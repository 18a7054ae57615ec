-- A number's bytes read back are the number, where it fits its bytes; and the bytes of a number that was read are those that it was read from. Assumes
-- nothing.
use Prim.Native.Nat.{ℕ, ◌+◌, ◌*◌, ◌/◌, ◌%◌, ◌<◌}
use mathlib.Core.Path.{◌≡◌, ap, ◌∙◌}
use mathlib.Core.List.{List, [], ◌∷◌, ◌++◌}
use lib.ListN.{length, get_or}
use lib.Seq.{get_or-append-add}
use native.Mathlib.Omega.{arith}
use native.Mathlib.Nat.{add_assoc}
use Rattle.wire.specs.Numbers.{byte_at, le16, le32, le2, le4}

-- a number from its bytes, by the place of each
pub of_two : (n : ℕ) → n < 65536 → n % 256 + n / 256 % 256 * 256 ≡ n
of_two n h = omega arith

pub of_four : (n : ℕ) → n < 4294967296 → n % 256 + n / 256 % 256 * 256 + n / 65536 % 256 * 65536 + n / 65536 / 256 % 256 * 16777216 ≡ n
of_four n h = omega arith

-- what is read past a front is read from what stands behind it
module _ (pre s : List ℕ) (at : ℕ) where
  pub byte_behind : byte_at (pre ++ s) (length pre + at) ≡ byte_at s at
  byte_behind = get_or-append-add pre s at 0

  byte_further : (k : ℕ) → byte_at (pre ++ s) (length pre + at + k) ≡ byte_at s (at + k)
  byte_further k = ap (λ (n : ℕ). get_or (pre ++ s) n 0) (add_assoc (length pre) at k) ∙ get_or-append-add pre s (at + k) 0

  pub le16_behind : le16 (pre ++ s) (length pre + at) ≡ le16 s at
  le16_behind = λ i. byte_behind i + byte_further 1 i * 256

  pub le32_behind : le32 (pre ++ s) (length pre + at) ≡ le32 s at
  le32_behind = λ i. byte_behind i + byte_further 1 i * 256 + byte_further 2 i * 65536 + byte_further 3 i * 16777216

-- writing what was read
two_low : (a b : ℕ) → a < 256 → b < 256 → (a + b * 256) % 256 ≡ a
two_low a b h k = omega arith

two_high : (a b : ℕ) → a < 256 → b < 256 → (a + b * 256) / 256 % 256 ≡ b
two_high a b h k = omega arith

-- the number that two bytes make is written as these two
pub le2_written : (a b : ℕ) → a < 256 → b < 256 → le2 (a + b * 256) ≡ a ∷ b ∷ []
le2_written a b h k = λ i. two_low a b h k i ∷ two_high a b h k i ∷ []

module _ (a b c d : ℕ) (ha : a < 256) (hb : b < 256) (hc : c < 256) (hd : d < 256) where
  abbrev four : ℕ
  four = a + b * 256 + c * 65536 + d * 16777216

  byte_0 : four % 256 ≡ a
  byte_0 = omega arith

  byte_1 : four / 256 % 256 ≡ b
  byte_1 = omega arith

  byte_2 : four / 65536 % 256 ≡ c
  byte_2 = omega arith

  byte_3 : four / 65536 / 256 % 256 ≡ d
  byte_3 = omega arith

  -- the number that four bytes make is written as these four
  pub le4_written : le4 (a + b * 256 + c * 65536 + d * 16777216) ≡ a ∷ b ∷ c ∷ d ∷ []
  le4_written = λ i. byte_0 i ∷ byte_1 i ∷ byte_2 i ∷ byte_3 i ∷ []
