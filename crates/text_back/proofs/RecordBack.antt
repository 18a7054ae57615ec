-- The numbers of a record that a line expresses stand for that record's own bytes: each number's bytes are those that it was read from, one after the
-- other from the first byte to the last, and the length, the kind and the step count, which a line does not say, are those that its sort and its numbers
-- tell. Such a line is whole and its numbers are in range; so is one of 1 to 32 bytes in hexadecimal digits, which stands for those bytes. Assumes nothing.
use Prim.Native.Nat.{ℕ, zero, suc, ◌+◌, ◌-◌, ◌*◌, ◌%◌, ◌<◌, ◌≤◌}
use mathlib.Core.Path.{◌≡◌, refl, ap, ◌∙◌}
use mathlib.Core.Bool.{Bool, true, false, cond, true≢false}
use mathlib.Core.List.{List, [], ◌∷◌}
use lib.Dec.{eqb, ltb, leb}
use lib.ListN.{length}
use native.Mathlib.Omega.{arith}
use native.Mathlib.Nat.{le-pred_of_lt}
use borrow.Author.Tests.{ltb-false, le-ltb, le-leb, lt-leb, eqb-true, eqb-false, eq-eqb, ne_eqb}
use Rattle.base.proofs.TestLaws.{Tested, holds, fails, test, and_both, and_right}
use Rattle.base.proofs.ListLaws.{byte_at_lem}
use Rattle.wire.specs.Numbers.{byte_at, le16, le32}
use Rattle.wire.specs.Frame.{framed, kind_of}
use Rattle.wire.proofs.ByteLaws.{le16_below, le32_below}
use Rattle.fields.specs.Fields.{head_in, step_count}
use Rattle.codec.specs.Codec.{stepped_record}
use Rattle.codec.proofs.EncodeLaws.{fours_from, fours_length, sheet_again, simple_again, stepped_again}
use Rattle.text_items.specs.Shape.{event_item, item_of, most_of, whole_of, limit_of, within_from}
use Rattle.pack.specs.Pack.{one_each, sheet_bytes, simple_bytes, steps_of, stepped_bytes, packed_as}
use Rattle.unpack.specs.Unpack.{kind_in, count_in, value_in, values_run, values_in}
use Rattle.unpack.proofs.UnpackLaws.{run_long}
use Rattle.base.specs.Lists.{Bytes}

-- the records that a line expresses: their sort, and what holds of each
pub data Expressed (s : List ℕ) : Type 0 where
  sheet : kind_in s ≡ 1 → le16 s 0 ≡ length s → le16 s 2 ≡ 1 → length s ≡ 18 → Expressed s
  simple : kind_in s ≡ 2 → le16 s 0 ≡ length s → le16 s 2 ≡ 2 → length s ≡ 53 → Expressed s
  stepped : kind_in s ≡ 3 → le16 s 0 ≡ length s → le16 s 2 ≡ 3 → length s ≡ 14 + 16 * step_count s → 0 < step_count s → step_count s ≤ 64 → Expressed s

module _ (s : List ℕ) (some : eqb (kind_in s) 0 ≡ false) where
  frame_of : framed s ≡ true
  unfolding kind_in
  frame_of = go (test (framed s))
    where
      go : Tested (framed s) → framed s ≡ true
      go (holds e) = e
      go (fails e) = absurd (true≢false (rw e at some))

  length_of_lem : le16 s 0 ≡ length s
  length_of_lem = eqb-true (le16 s 0) (length s) (and_right (leb 4 (length s)) (eqb (le16 s 0) (length s)) frame_of)

  abbrev steps : ℕ
  steps = step_count s

  stepped_of : eqb (kind_of s) 1 ≡ false → eqb (kind_of s) 2 ≡ false → eqb (kind_of s) 3 ≡ true → Expressed s
  unfolding kind_in
  stepped_of k1 k2 k3 = go (test (eqb steps 0)) (test (ltb 64 steps)) (test (eqb (length s) (14 + 16 * steps)))
    where
      go : Tested (eqb steps 0) → Tested (ltb 64 steps) → Tested (eqb (length s) (14 + 16 * steps)) → Expressed s
      go (holds e) f g = absurd (true≢false (rw (frame_of, k1, k2, k3, e) at some))
      go (fails e) (holds f) g = absurd (true≢false (rw (frame_of, k1, k2, k3, e, f) at some))
      go (fails e) (fails f) (fails g) = absurd (true≢false (rw (frame_of, k1, k2, k3, e, f, g) at some))
      go (fails e) (fails f) (holds g) =
          stepped (rw (frame_of, k1, k2, k3, e, f, g)) length_of_lem (eqb-true (kind_of s) 3 k3) (eqb-true (length s) (14 + 16 * steps) g) (omega (arith, eqb-false steps 0 e))
          (ltb-false 64 steps f)

  -- a record of a sort that is not none is one of these
  pub expressed : Expressed s
  unfolding kind_in
  expressed = go (test (eqb (kind_of s) 1)) (test (eqb (kind_of s) 2)) (test (eqb (kind_of s) 3)) (test (eqb (length s) 18)) (test (eqb (length s) 53))
    where
      go : Tested (eqb (kind_of s) 1) → Tested (eqb (kind_of s) 2) → Tested (eqb (kind_of s) 3) → Tested (eqb (length s) 18) → Tested (eqb (length s) 53) → Expressed s
      go (holds k) f g (holds l) m = sheet (rw (frame_of, k, l)) length_of_lem (eqb-true (kind_of s) 1 k) (eqb-true (length s) 18 l)
      go (holds k) f g (fails l) m = absurd (true≢false (rw (frame_of, k, l) at some))
      go (fails e) (holds k) g l (holds m) = simple (rw (frame_of, e, k, m)) length_of_lem (eqb-true (kind_of s) 2 k) (eqb-true (length s) 53 m)
      go (fails e) (holds k) g l (fails m) = absurd (true≢false (rw (frame_of, e, k, m) at some))
      go (fails e) (fails f) (holds k) l m = stepped_of e f k
      go (fails e) (fails f) (fails k) l m = absurd (true≢false (rw (frame_of, e, f, k) at some))

-- a stepped event's numbers after T0 stand in 4 bytes each, one after the other
module _ (s : List ℕ) where
  stepped_value : (k : ℕ) → 5 ≤ k → k < 261 → value_in s 3 k ≡ le32 s (4 * k - 6)
  unfolding value_in
  stepped_value k h l = rw (lt-leb 261 k l, ne_eqb k 0 (omega arith), le-ltb k 4 (omega arith), ne_eqb k 4 (omega arith)) refl

  stepped_run : (n k at : ℕ) → 5 ≤ k → k + n ≤ 261 → at + 6 ≡ 4 * k → values_run n s 3 k ≡ fours_from s n at
  stepped_run zero k at h l e = refl
  stepped_run (suc n) k at h l e =
      let a : 4 * k - 6 ≡ at = omega arith in
      let first : value_in s 3 k ≡ le32 s at = stepped_value k h (omega arith) ∙ ap (le32 s) a in
      let others : values_run n s 3 (k + 1) ≡ fours_from s n (at + 4) = stepped_run n (k + 1) (at + 4) (omega arith) (omega arith) (omega arith) in
      λ i. first i ∷ others i

  -- the numbers of a record of each sort
  abbrev head_values : List ℕ → List ℕ
  head_values vs = le16 s 4 ∷ byte_at s 6 ∷ byte_at s 7 ∷ byte_at s 8 ∷ le32 s 9 ∷ vs

  sheet_values : values_run (count_in s 1) s 1 0 ≡ le16 s 4 ∷ fours_from s 3 6
  unfolding value_in count_in most_of
  sheet_values = refl

  simple_values : values_run (count_in s 2) s 2 0 ≡ head_values (fours_from s 10 13)
  unfolding value_in count_in most_of
  simple_values = refl

  stepped_values : step_count s ≤ 64 → values_run (count_in s 3) s 3 0 ≡ head_values (fours_from s (4 * step_count s) 14)
  unfolding value_in count_in
  stepped_values h =
      let e : 5 + 4 * step_count s ≡ suc (suc (suc (suc (suc (4 * step_count s))))) = omega arith in
      ap (λ (n : ℕ). values_run n s 3 0) e ∙ ap head_values (stepped_run (4 * step_count s) 5 14 (omega arith) (omega arith) refl)

-- their bytes, from the first to the last
module _ (s : List ℕ) (b : Bytes s) where
  sheet_line : le16 s 0 ≡ length s → le16 s 2 ≡ 1 → length s ≡ 18 → sheet_bytes (le16 s 4 ∷ fours_from s 3 6) ≡ s
  unfolding sheet_bytes
  sheet_line = sheet_again s b

  simple_line : le16 s 0 ≡ length s → le16 s 2 ≡ 2 → length s ≡ 53 → simple_bytes (head_values s (fours_from s 10 13)) ≡ s
  unfolding simple_bytes
  simple_line = simple_again s b

  -- the line's steps are as many as the record says
  stepped_line :
      le16 s 0 ≡ length s → le16 s 2 ≡ 3 → length s ≡ 14 + 16 * step_count s → stepped_bytes (head_values s (fours_from s (4 * step_count s) 14)) ≡ s
  unfolding stepped_bytes
  stepped_line stated kind l =
      let numbers : List ℕ = fours_from s (4 * step_count s) 14 in
      let e : steps_of (head_values s numbers) ≡ step_count s = omega (arith, fours_length s (4 * step_count s) 14) in
      (λ i. stepped_record (head_in s) (e i) numbers) ∙ stepped_again s b stated kind l

  again : Expressed s → packed_as (kind_in s) (values_in s) ≡ s
  unfolding packed_as
  again (sheet k stated kind l) =
      ap (λ (n : ℕ). packed_as n (values_run (count_in s n) s n 0)) k ∙ ap sheet_bytes (sheet_values s) ∙ sheet_line stated kind l
  again (simple k stated kind l) =
      ap (λ (n : ℕ). packed_as n (values_run (count_in s n) s n 0)) k ∙ ap simple_bytes (simple_values s) ∙ simple_line stated kind l
  again (stepped k stated kind l low high) =
      ap (λ (n : ℕ). packed_as n (values_run (count_in s n) s n 0)) k ∙ ap stepped_bytes (stepped_values s high) ∙ stepped_line stated kind l

  -- the numbers of a record that a line expresses stand for its own bytes
  pub record_back : eqb (kind_in s) 0 ≡ false → packed_as (kind_in s) (values_in s) ≡ s
  record_back some = again (expressed s some)

-- its line is whole
module _ (s : List ℕ) where
  whole_of_count : Expressed s → whole_of (kind_in s) (count_in s (kind_in s)) ≡ true
  unfolding whole_of count_in most_of
  whole_of_count (sheet k stated kind l) = rw k refl
  whole_of_count (simple k stated kind l) = rw k refl
  whole_of_count (stepped k stated kind l low high) =
      rw (k, le-ltb (5 + 4 * step_count s) 9 (omega arith), le-ltb 261 (5 + 4 * step_count s) (omega arith)) (eq-eqb ((5 + 4 * step_count s - 5) % 4) 0 (omega arith))

  -- a line of its sort is whole with as many numbers as it has
  pub record_whole : eqb (kind_in s) 0 ≡ false → whole_of (kind_in s) (length (values_in s)) ≡ true
  record_whole some = ap (whole_of (kind_in s)) (run_long (count_in s (kind_in s)) s (kind_in s) 0) ∙ whole_of_count (expressed s some)

-- a time and a count take every number of 4 bytes
within_four : (time : Bool) (v : ℕ) → v < 4294967296 → v ≤ limit_of (cond time 4 3)
unfolding limit_of
within_four true v h = le-pred_of_lt h
within_four false v h = le-pred_of_lt h

-- and its numbers are in range
module _ (s : List ℕ) (b : Bytes s) where
  module _ (kind k : ℕ) (no-hex : eqb kind 4 ≡ false) where
    value_within : value_in s kind k ≤ limit_of (item_of kind k)
    unfolding value_in limit_of item_of event_item
    value_within = go (test (leb 261 k)) (test (eqb k 0)) (test (eqb kind 1)) (test (ltb k 4)) (test (eqb k 4)) (test (eqb kind 2))
      where
        go : Tested (leb 261 k) → Tested (eqb k 0) → Tested (eqb kind 1) → Tested (ltb k 4) → Tested (eqb k 4) → Tested (eqb kind 2) → value_in s kind k ≤ limit_of (item_of kind k)
        go (holds past) z one code t0 two = rw past (omega arith)
        go (fails past) (holds z) (holds one) code t0 two = rw (past, z, no-hex, one) (le-pred_of_lt (le16_below s b 4))
        go (fails past) (holds z) (fails one) code t0 two = rw (past, z, no-hex, one) (le-pred_of_lt (le16_below s b 4))
        go (fails past) (fails z) (holds one) code t0 two = rw (past, z, no-hex, one) (le-pred_of_lt (le32_below s b (4 * k + 2)))
        go (fails past) (fails z) (fails one) (holds code) t0 two = rw (past, z, no-hex, one, code) (le-pred_of_lt (byte_at_lem s b (k + 5)))
        go (fails past) (fails z) (fails one) (fails code) (holds t0) two = rw (past, z, no-hex, one, code, t0) (le-pred_of_lt (le32_below s b 9))
        go (fails past) (fails z) (fails one) (fails code) (fails t0) (holds two) =
            rw (past, z, no-hex, one, code, t0, two) (within_four (ltb k 9) (le32 s (4 * k - 7)) (le32_below s b (4 * k - 7)))
        go (fails past) (fails z) (fails one) (fails code) (fails t0) (fails two) =
            rw (past, z, no-hex, one, code, t0, two) (within_four (eqb ((k - 5) % 4) 0) (le32 s (4 * k - 6)) (le32_below s b (4 * k - 6)))

  run_within : (kind : ℕ) → eqb kind 4 ≡ false → (n k : ℕ) → within_from kind k (values_run n s kind k) ≡ true
  run_within kind no-hex zero k = refl
  run_within kind no-hex (suc n) k =
      and_both (leb (value_in s kind k) (limit_of (item_of kind k))) (within_from kind (k + 1) (values_run n s kind (k + 1)))
      (le-leb (value_in s kind k) (limit_of (item_of kind k)) (value_within kind k no-hex))
      (run_within kind no-hex n (k + 1))

  no_hex_kind : Expressed s → eqb (kind_in s) 4 ≡ false
  no_hex_kind (sheet k stated kind l) = rw k
  no_hex_kind (simple k stated kind l) = rw k
  no_hex_kind (stepped k stated kind l low high) = rw k

  -- each of its numbers is within what its item takes
  pub record_within : eqb (kind_in s) 0 ≡ false → within_from (kind_in s) 0 (values_in s) ≡ true
  record_within some = run_within (kind_in s) (no_hex_kind (expressed s some)) (count_in s (kind_in s)) 0

-- bytes in hexadecimal digits stand for themselves
ones_again : (s : List ℕ) → Bytes s → one_each s ≡ s
ones_again [] b = refl
ones_again (x ∷ s) b =
    let h : x < 256 = b.0 in
    let e : x % 256 ≡ x = omega arith in
    λ i. e i ∷ ones_again s b.1 i

-- bytes, as the numbers of a line of bytes, stand for themselves
pub bytes_back : (s : List ℕ) → Bytes s → packed_as 4 s ≡ s
unfolding packed_as
bytes_back s b = ones_again s b

-- 1 to 32 bytes make a whole line, and each is within what its item takes
pub hex_whole : (s : List ℕ) → 1 ≤ length s → length s ≤ 32 → whole_of 4 (length s) ≡ true
unfolding whole_of
hex_whole s low high = rw (ne_eqb (length s) 0 (omega arith)) (le-leb (length s) 32 high)

hex_from : (s : List ℕ) → Bytes s → (k : ℕ) → within_from 4 k s ≡ true
unfolding limit_of item_of
hex_from [] b k = refl
hex_from (x ∷ s) b k = and_both (leb x 255) (within_from 4 (k + 1) s) (le-leb x 255 (le-pred_of_lt b.0)) (hex_from s b.1 (k + 1))

pub hex_within : (s : List ℕ) → Bytes s → within_from 4 0 s ≡ true
hex_within s b = hex_from s b 0
