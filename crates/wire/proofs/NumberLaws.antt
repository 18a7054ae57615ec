-- At an offset past the end every number read is 0. Assumes nothing.
use mathlib.Core.Path.{◌≡◌, sym}
use Prim.Native.Nat.{ℕ, ◌+◌, ◌*◌, ◌≤◌}
use mathlib.Core.List.{List, [], ◌∷◌}
use lib.ListN.{length, get_or-eq_default}
use native.Mathlib.Omega.{arith}
use Rattle.wire.specs.Numbers.{byte_at, le16, le32, counts_at}

module _ (s : List ℕ) where
  pub byte_past : (at : ℕ) → length s ≤ at → 0 ≡ byte_at s at
  byte_past at h = sym (get_or-eq_default s 0 h)

  pub le16_past : (at : ℕ) → length s ≤ at → 0 ≡ le16 s at
  le16_past at h = λ i. byte_past at h i + byte_past (at + 1) (omega arith) i * 256

  pub le32_past : (at : ℕ) → length s ≤ at → 0 ≡ le32 s at
  le32_past at h =
      λ i.
      byte_past at h i + byte_past (at + 1) (omega arith) i * 256 + byte_past (at + 2) (omega arith) i * 65536
      + byte_past (at + 3) (omega arith) i * 16777216

  pub counts_past : (at : ℕ) → length s ≤ at → 0 ∷ 0 ∷ 0 ∷ [] ≡ counts_at s at
  counts_past at h = λ i. le32_past at h i ∷ le32_past (at + 4) (omega arith) i ∷ le32_past (at + 8) (omega arith) i ∷ []
