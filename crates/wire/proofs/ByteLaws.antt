-- Numbers in two and in four bytes are below 2^16 and 2^32, and joined records that hold bytes are records that do. Assumes nothing.
use Prim.Native.Nat.{ℕ, ◌+◌, ◌<◌}
use mathlib.Core.List.{List, [], ◌∷◌}
use native.Mathlib.Omega.{arith}
use Rattle.base.specs.Lists.{All, Byte, Bytes}
use Rattle.base.proofs.ListLaws.{all_front, all_back, byte_at_lem}
use Rattle.wire.specs.Numbers.{le16, le32}
use Rattle.wire.specs.Cut.{joined}

module _ (s : List ℕ) (b : Bytes s) where
  pub le16_below : (i : ℕ) → le16 s i < 65536
  le16_below i = omega (arith, byte_at_lem s b i, byte_at_lem s b (i + 1))

  pub le32_below : (i : ℕ) → le32 s i < 4294967296
  le32_below i = omega (arith, byte_at_lem s b i, byte_at_lem s b (i + 1), byte_at_lem s b (i + 2), byte_at_lem s b (i + 3))

pub bytes_each : (rs : List (List ℕ)) → Bytes (joined rs) → All Bytes rs
bytes_each [] b = tt
bytes_each (r ∷ rs) b = (all_front Byte r (joined rs) b, bytes_each rs (all_back Byte r (joined rs) b))
