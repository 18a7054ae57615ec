-- A number that is written in digits is read back: each digit brings ten times the number before it and its own, and no number on the way is past what the
-- scanner tells apart. Assumes nothing.
use Prim.Native.Nat.{ℕ, zero, suc, ◌+◌, ◌-◌, ◌*◌, ◌/◌, ◌%◌, ◌^◌, ◌<◌, ◌≤◌}
use mathlib.Core.Path.{◌≡◌, refl, ◌∙◌}
use mathlib.Core.Bool.{true, false}
use mathlib.Core.List.{List, [], ◌∷◌, ◌++◌}
use lib.ListN.{length, length-append, get_or-append}
use lib.Seq.{append_snoc}
use lib.Dec.{ltb, leb}
use native.Mathlib.Omega.{arith}
use native.Mathlib.Nat.{pow-suc}
use borrow.Author.Tests.{ltb-true, ltb-false, le-ltb, le-leb}
use Rattle.base.proofs.TestLaws.{Tested, holds, fails, test, and_both}
use Rattle.base.proofs.ListLaws.{every_at}
use Rattle.wire.specs.Numbers.{byte_at}
use Rattle.text.specs.Text.{digits_in, number_text}
use Rattle.text.proofs.TextLaws.{last_digit_alone, last_digit_after, every_digit}
use Rattle.text_scan.specs.Scan.{is_digit, grown, digits_from, digits_of}

-- no digit stands in front
abbrev pub digit_free : List ℕ → Type 0
digit_free rest = is_digit (byte_at rest 0) ≡ false

-- a number below ten is a digit of the scanner
pub digit_stands : (d : ℕ) → d < 10 → is_digit (48 + d) ≡ true
unfolding is_digit
digit_stands d h = and_both (leb 48 (48 + d)) (leb (48 + d) 57) (le-leb 48 (48 + d) (omega arith)) (le-leb (48 + d) 57 (omega arith))

grows : (v d : ℕ) → v ≤ 4294967295 → grown v (48 + d) ≡ v * 10 + d
unfolding grown
grows v d h =
    let e : 48 + d - 48 ≡ d = omega arith in
    rw (le-ltb 4294967295 v h, e)

-- a digit is read, and what is none ends the run
pub digit_read : (v u d : ℕ) (s : List ℕ) → v ≤ 4294967295 → d < 10 → digits_from v u ((48 + d) ∷ s) ≡ digits_from (v * 10 + d) (u + 1) s
digit_read v u d s h l = rw (digit_stands d l, grows v d h)

pub run_stops : (v u : ℕ) (rest : List ℕ) → digit_free rest → digits_from v u rest ≡ record { value = v; used = u }
run_stops v u [] e = refl
run_stops v u (b ∷ rest) e = rw e

-- the digits of a number, one after the other
pub digits_read : (k n : ℕ) (s : List ℕ) → n < 10 ^ k → n ≤ 4294967295 → digits_from 0 0 (digits_in k n ++ s) ≡ digits_from n (length (digits_in k n)) s
digits_read zero n s h l =
    let z : n ≡ 0 = omega arith in
    rw z
digits_read (suc k) n s h l = go (digits_read k (n / 10) ((48 + n % 10) ∷ s) tenth (omega arith)) (test (ltb n 10))
  where
    tenth : n / 10 < 10 ^ k
    tenth =
        let p : 10 ^ suc k ≡ 10 ^ k * 10 = pow-suc 10 k in
        let q : n / 10 * 10 ≤ n = omega arith in
        omega arith

    alone : n < 10 → digits_from 0 0 (digits_in (suc k) n ++ s) ≡ digits_from n (length (digits_in (suc k) n)) s
    alone b =
        let e : 0 * 10 + n ≡ n = omega arith in
        rw (last_digit_alone k n b, digit_read 0 0 n s (omega arith) b, e)

    after :
        10 ≤ n →
        digits_from 0 0 (digits_in k (n / 10) ++ (48 + n % 10) ∷ s) ≡ digits_from (n / 10) (length (digits_in k (n / 10))) ((48 + n % 10) ∷ s) →
        digits_from 0 0 (digits_in (suc k) n ++ s) ≡ digits_from n (length (digits_in (suc k) n)) s
    after b ih =
        let e : n / 10 * 10 + n % 10 ≡ n = omega arith in
        rw (
          last_digit_after k n b,
          append_snoc (digits_in k (n / 10)) (48 + n % 10) s,
          ih,
          digit_read (n / 10) (length (digits_in k (n / 10))) (n % 10) s (omega arith) (omega arith),
          length-append (digits_in k (n / 10)) ((48 + n % 10) ∷ []),
          e,
        )

    go :
        digits_from 0 0 (digits_in k (n / 10) ++ (48 + n % 10) ∷ s) ≡ digits_from (n / 10) (length (digits_in k (n / 10))) ((48 + n % 10) ∷ s) →
        Tested (ltb n 10) →
        digits_from 0 0 (digits_in (suc k) n ++ s) ≡ digits_from n (length (digits_in (suc k) n)) s
    go ih (holds e) = alone (ltb-true n 10 e)
    go ih (fails e) = after (ltb-false n 10 e) ih

-- reading a printed number gives the number
pub number_back : (n : ℕ) (rest : List ℕ) → n ≤ 4294967295 → digit_free rest → digits_of (number_text n ++ rest) ≡ record { value = n; used = length (number_text n) }
unfolding digits_of number_text
number_back n rest h free = digits_read 20 n rest (omega arith) h ∙ run_stops n (length (digits_in 20 n)) rest free

-- a number has a digit, and each of its bytes is one
digits_some : (k n : ℕ) → 1 ≤ length (digits_in (suc k) n)
digits_some k n = go (test (ltb n 10))
  where
    go : Tested (ltb n 10) → 1 ≤ length (digits_in (suc k) n)
    go (holds e) = rw (last_digit_alone k n (ltb-true n 10 e)) (omega arith)
    go (fails e) = rw (last_digit_after k n (ltb-false n 10 e), length-append (digits_in k (n / 10)) ((48 + n % 10) ∷ [])) (omega arith)

pub number_some : (n : ℕ) → 1 ≤ length (number_text n)
unfolding number_text
number_some n = digits_some 19 n

pub number_digit : (n i : ℕ) (rest : List ℕ) → i < length (number_text n) → is_digit (byte_at (number_text n ++ rest) i) ≡ true
unfolding is_digit
number_digit n i rest h = rw (get_or-append (number_text n) rest 0 i h) (every_at is_digit 0 (number_text n) (every_digit n) i h)

-- so it begins with one
pub number_begins : (n : ℕ) (rest : List ℕ) → is_digit (byte_at (number_text n ++ rest) 0) ≡ true
number_begins n rest = number_digit n 0 rest (number_some n)
