-- One bit of a byte: the table of the eight bits, and what setting a bit does to this bit and to the others. Assumes nothing.
use Prim.Native.Nat.{ℕ, zero, suc, ◌+◌, ◌*◌, ◌-◌, ◌/◌, ◌%◌, ◌^◌, ◌<◌}
use mathlib.Core.Path.{◌≡◌, refl, ap, ◌∙◌, sym}
use mathlib.Core.Bool.{Bool, true, false, cond}
use mathlib.Core.Logic.{◌≢◌}
use lib.Dec.{leb, eqb}
use lib.Pow.{pow_pos, pow-add}
use native.Mathlib.Omega.{arith}
use native.Mathlib.Nat.{add-div_right, add-mul-div_left, div-div-eq-div-mul, mul_assoc}
use borrow.Author.Tests.{eqb-false, eq-eqb, leb-true, leb-false}
use Rattle.used_numbers.specs.Marks.{bit_of, with_bit}

-- what holds of each of the eight places holds below 8
each_place : (P : ℕ → Type 0) → P 0 → P 1 → P 2 → P 3 → P 4 → P 5 → P 6 → P 7 → (k : ℕ) → k < 8 → P k
each_place P a b c d e f g h zero l = a
each_place P a b c d e f g h (suc zero) l = b
each_place P a b c d e f g h (suc (suc zero)) l = c
each_place P a b c d e f g h (suc (suc (suc zero))) l = d
each_place P a b c d e f g h (suc (suc (suc (suc zero)))) l = e
each_place P a b c d e f g h (suc (suc (suc (suc (suc zero))))) l = f
each_place P a b c d e f g h (suc (suc (suc (suc (suc (suc zero)))))) l = g
each_place P a b c d e f g h (suc (suc (suc (suc (suc (suc (suc zero))))))) l = h
each_place P a b c d e f g h (suc (suc (suc (suc (suc (suc (suc (suc n)))))))) l = absurd (omega arith)

-- 1 shifted by k within a byte is 2^k
pub one_shifted : (k : ℕ) → k < 8 → 1 * 2 ^ k % 256 ≡ 2 ^ k
one_shifted = each_place (λ k. 1 * 2 ^ k % 256 ≡ 2 ^ k) refl refl refl refl refl refl refl refl

-- a bit that is not set can be added, and the sum is still a byte
abbrev Room : ℕ → Type 0
Room k = (b : ℕ) → b < 256 → (b / 2 ^ k % 2 ≡ 1 → ⊥) → b + 2 ^ k < 256

room : (k : ℕ) → k < 8 → Room k
room =
    each_place Room
    (λ b l e. omega arith)
    (λ b l e. omega arith)
    (λ b l e. omega arith)
    (λ b l e. omega arith)
    (λ b l e. omega arith)
    (λ b l e. omega arith)
    (λ b l e. omega arith)
    (λ b l e. omega arith)

-- a byte with a bit added that was not set is still a byte
pub unset_bit_fits : (b k : ℕ) → b < 256 → k < 8 → bit_of b k ≡ false → b + 2 ^ k < 256
unset_bit_fits b k l m e = room k m b l (eqb-false (b / 2 ^ k % 2) 1 e)

-- an unset bit that is added is set
sets : (k b : ℕ) → (b / 2 ^ k % 2 ≡ 1 → ⊥) → (b + 2 ^ k) / 2 ^ k % 2 ≡ 1
sets k b e = rw (add-div_right b (pow_pos k)) (omega arith)

-- what stands above it stays: no carry
above : (p r b : ℕ) → 0 < p → (b / p % 2 ≡ 1 → ⊥) → (b + p) / (p * 2 * r) ≡ b / (p * 2 * r)
above p r b l e =
    let q : (b + p) / p / 2 ≡ b / p / 2 = omega (arith, add-div_right b l) in
    let f : (x : ℕ) → x / p / 2 / r ≡ x / (p * 2 * r) = λ x. ap (λ y. y / r) (div-div-eq-div-mul x p 2) ∙ div-div-eq-div-mul x (p * 2) r in
    sym (f (b + p)) ∙ ap (λ y. y / r) q ∙ f b

-- and what stands below
below : (p r b : ℕ) → 0 < p → (b + p * 2 * r) / p % 2 ≡ b / p % 2
below p r b l = rw (mul_assoc p 2 r, add-mul-div_left b (2 * r) l) (omega arith)

power : (k i : ℕ) → 2 ^ (k + 1 + i) ≡ 2 ^ k * 2 * 2 ^ i
power k i = pow-add 2 (k + 1) i ∙ ap (λ x. x * 2 ^ i) (pow-add 2 k 1)

stays : (k j b : ℕ) → j ≢ k → (b / 2 ^ k % 2 ≡ 1 → ⊥) → (b + 2 ^ k) / 2 ^ j % 2 ≡ b / 2 ^ j % 2
stays k j b d e = go (leb k j) refl
  where
    go : (t : Bool) → leb k j ≡ t → (b + 2 ^ k) / 2 ^ j % 2 ≡ b / 2 ^ j % 2
    go true f =
        let l = leb-true k j f in
        let q : j ≡ k + 1 + (j - k - 1) = omega arith in
        let w : 2 ^ j ≡ 2 ^ k * 2 * 2 ^ (j - k - 1) = ap (λ x. 2 ^ x) q ∙ power k (j - k - 1) in
        rw w (ap (λ x. x % 2) (above (2 ^ k) (2 ^ (j - k - 1)) b (pow_pos k) e))
    go false f =
        let l = leb-false k j f in
        let q : k ≡ j + 1 + (k - j - 1) = omega arith in
        let w : 2 ^ k ≡ 2 ^ j * 2 * 2 ^ (k - j - 1) = ap (λ x. 2 ^ x) q ∙ power j (k - j - 1) in
        rw w (below (2 ^ j) (2 ^ (k - j - 1)) b (pow_pos j))

-- with a bit set, that bit is set and every other is as before
pub bit_same : (b k : ℕ) → bit_of (with_bit b k) k ≡ true
bit_same b k = go (bit_of b k) refl
  where
    go : (t : Bool) → bit_of b k ≡ t → bit_of (cond t b (b + 2 ^ k)) k ≡ true
    go true e = e
    go false e = eq-eqb _ _ (sets k b (eqb-false (b / 2 ^ k % 2) 1 e))

pub bit_other : (b k j : ℕ) → j ≢ k → bit_of (with_bit b k) j ≡ bit_of b j
bit_other b k j d = go (bit_of b k) refl
  where
    go : (t : Bool) → bit_of b k ≡ t → bit_of (cond t b (b + 2 ^ k)) j ≡ bit_of b j
    go true e = refl
    go false e = ap (λ x. eqb x 1) (stays k j b d (eqb-false (b / 2 ^ k % 2) 1 e))

-- two different bits set in either order give the same byte
pub bit_comm : (b k j : ℕ) → j ≢ k → with_bit (with_bit b k) j ≡ with_bit (with_bit b j) k
bit_comm b k j d =
    ap (λ t. cond t (with_bit b k) (with_bit b k + 2 ^ j)) (bit_other b k j d) ∙
    go (bit_of b k) (bit_of b j) ∙
    sym (ap (λ t. cond t (with_bit b j) (with_bit b j + 2 ^ k)) (bit_other b j k (λ e. d (sym e))))
  where
    go : (s t : Bool) → cond t (cond s b (b + 2 ^ k)) (cond s b (b + 2 ^ k) + 2 ^ j) ≡ cond s (cond t b (b + 2 ^ j)) (cond t b (b + 2 ^ j) + 2 ^ k)
    go true true = refl
    go true false = refl
    go false true = refl
    go false false = omega arith
