-- Text put together piece by piece is the text of the pieces joined, where all fit; and a number's digits, one at a time from the least significant.
-- Assumes nothing.
use Prim.Native.Nat.{ℕ, zero, suc, ◌+◌, ◌-◌, ◌*◌, ◌/◌, ◌%◌, ◌^◌, ◌<◌, ◌≤◌}
use mathlib.Core.Path.{◌≡◌, refl, sym, ap, ◌∙◌}
use mathlib.Core.Bool.{Bool, true, ◌&&◌}
use mathlib.Core.List.{List, [], ◌∷◌, ◌++◌, append-nil}
use lib.ListN.{length, length-append, set, replicate}
use lib.Seq.{set-append_seam, append_snoc}
use lib.Dec.{ltb, leb}
use native.Mathlib.Omega.{arith}
use native.Mathlib.Nat.{pow-suc, mod-lt}
use borrow.Author.Tests.{ltb-true, ltb-false, lt-ltb, le-ltb, lt-leb, le-leb}
use Rattle.base.specs.Lists.{every}
use Rattle.base.proofs.TestLaws.{Tested, holds, fails, test, and_both, and_left, and_right}
use Rattle.text.specs.declared.Text.{Text}
use Rattle.text.specs.Text.{text_of, pushed, pushed_all, digits_in, number_text}

-- a text that is not full has the byte where it ended
pub room_takes : (t : Text) (b : ℕ) → t.len < 1024 → pushed t b ≡ record { bytes = set t.bytes t.len b; len = t.len + 1 }
unfolding pushed
room_takes t b h = rw (lt-leb 1024 t.len h) refl

-- two pieces one after the other are their joined bytes
pub pushed_all_append : (t : Text) (a b : List ℕ) → pushed_all t (a ++ b) ≡ pushed_all (pushed_all t a) b
pushed_all_append t [] b = refl
pushed_all_append t (x ∷ a) b = pushed_all_append (pushed t x) a b

-- a byte stands where the zeros began
stands_after_lem : (l : List ℕ) (k b : ℕ) → set (l ++ replicate (suc k) 0) (length l) b ≡ (l ++ (b ∷ [])) ++ replicate k 0
stands_after_lem l k b = set-append_seam l 0 (replicate k 0) b ∙ sym (append_snoc l b (replicate k 0))

one_longer : (l : List ℕ) (b : ℕ) → length (l ++ (b ∷ [])) ≡ length l + 1
one_longer l b = length-append l (b ∷ [])

-- so the zeros left are one fewer
pub push_fits : (l : List ℕ) (b : ℕ) → length l < 1024 → pushed (text_of l) b ≡ text_of (l ++ (b ∷ []))
push_fits l b h =
    let n = length l in
    let m : ℕ = 1024 - (length l + 1) in
    let e : 1024 - length l ≡ suc m = omega arith in
    room_takes (text_of l) b h ∙ rw (one_longer l b, e) (λ i. record { bytes = stands_after_lem l m b i; len = n + 1 })

-- a piece that fits after what is there
pub piece_fits : (a l : List ℕ) → length a + length l ≤ 1024 → pushed_all (text_of a) l ≡ text_of (a ++ l)
piece_fits a [] h = ap text_of (sym (append-nil a))
piece_fits a (b ∷ l) h =
    let e : length (a ++ (b ∷ [])) ≡ length a + 1 = one_longer a b in
    let g : length (a ++ (b ∷ [])) + length l ≤ 1024 = omega arith in
    ap (λ (t : Text). pushed_all t l) (push_fits a b (omega arith)) ∙ piece_fits (a ++ (b ∷ [])) l g ∙ ap text_of (append_snoc a b l)

-- bytes that fit, pushed from the empty text on, are their text
pub all_fits : (l : List ℕ) → length l ≤ 1024 → pushed_all (text_of []) l ≡ text_of l
all_fits l h = piece_fits [] l (omega arith)

-- one digit, and a digit after the others
pub last_digit_alone : (k n : ℕ) → n < 10 → digits_in (suc k) n ≡ ((48 + n) ∷ [])
last_digit_alone k n h = rw (lt-ltb n 10 h) refl

pub last_digit_after : (k n : ℕ) → 10 ≤ n → digits_in (suc k) n ≡ (digits_in k (n / 10) ++ ((48 + n % 10) ∷ []))
last_digit_after k n h = rw (le-ltb n 10 h) refl

-- a tenth of a number has a digit less
pub tenth_below : (n k : ℕ) → n < 10 ^ suc k → n / 10 < 10 ^ k
tenth_below n k h =
    let p : 10 ^ suc k ≡ 10 ^ k * 10 = pow-suc 10 k in
    let q : n / 10 * 10 ≤ n = omega arith in
    omega arith

-- more places than a number needs say nothing
pub spare_place : (k n : ℕ) → n < 10 ^ suc k → digits_in (suc (suc k)) n ≡ digits_in (suc k) n
spare_place zero n h = last_digit_alone 1 n h ∙ sym (last_digit_alone 0 n h)
spare_place (suc k) n h = go (spare_place k (n / 10) (tenth_below n (suc k) h)) (test (ltb n 10))
  where
    go : digits_in (suc (suc k)) (n / 10) ≡ digits_in (suc k) (n / 10) → Tested (ltb n 10) → digits_in (suc (suc (suc k))) n ≡ digits_in (suc (suc k)) n
    go more (holds e) = let l : n < 10 = ltb-true n 10 e in last_digit_alone (suc (suc k)) n l ∙ sym (last_digit_alone (suc k) n l)
    go more (fails e) = let l : 10 ≤ n = ltb-false n 10 e in last_digit_after (suc (suc k)) n l ∙ ap (λ (d : List ℕ). d ++ ((48 + n % 10) ∷ [])) more ∙ sym (last_digit_after (suc k) n l)

-- a number below 10 is its digit; any other below 10^20 is the text of its tenth, and its last digit
pub number_ends : (n : ℕ) → n < 10 → number_text n ≡ ((48 + n) ∷ [])
unfolding number_text
number_ends n h = last_digit_alone 19 n h

pub number_unrolls : (n : ℕ) → 10 ≤ n → n < 10 ^ 20 → number_text n ≡ (number_text (n / 10) ++ ((48 + n % 10) ∷ []))
unfolding number_text
number_unrolls n l h = last_digit_after 19 n l ∙ ap (λ (d : List ℕ). d ++ ((48 + n % 10) ∷ [])) (sym (spare_place 18 (n / 10) (tenth_below n 19 h)))

digits_length : (k n : ℕ) → length (digits_in k n) ≤ k
digits_length zero n = omega arith
digits_length (suc k) n = go (digits_length k (n / 10)) (test (ltb n 10))
  where
    go : length (digits_in k (n / 10)) ≤ k → Tested (ltb n 10) → length (digits_in (suc k) n) ≤ suc k
    go h (holds e) = rw (last_digit_alone k n (ltb-true n 10 e)) (omega arith)
    go h (fails e) =
        rw (last_digit_after k n (ltb-false n 10 e), length-append (digits_in k (n / 10)) ((48 + n % 10) ∷ [])) (omega arith)

-- the text of no number has more than 20 bytes
pub number_length : (n : ℕ) → length (number_text n) ≤ 20
unfolding number_text
number_length n = digits_length 20 n

-- lengths add up
pub both_short : (a b : List ℕ) {m n : ℕ} → length a ≤ m → length b ≤ n → length (a ++ b) ≤ m + n
both_short a b h k = rw (length-append a b) (omega arith)

abbrev pub is_digit : ℕ → Bool
is_digit b = leb 48 b && leb b 57

digit_is : (d : ℕ) → d < 10 → is_digit (48 + d) ≡ true
digit_is d h = and_both (leb 48 (48 + d)) (leb (48 + d) 57) (le-leb 48 (48 + d) (omega arith)) (le-leb (48 + d) 57 (omega arith))

-- a test that both parts of a list pass
every_append : (f : ℕ → Bool) (a b : List ℕ) → every f a ≡ true → every f b ≡ true → every f (a ++ b) ≡ true
every_append f [] b e h = h
every_append f (x ∷ a) b e h = and_both (f x) (every f (a ++ b)) (and_left (f x) (every f a) e) (every_append f a b (and_right (f x) (every f a) e) h)

digits_are : (k n : ℕ) → every is_digit (digits_in k n) ≡ true
digits_are zero n = refl
digits_are (suc k) n = go (digits_are k (n / 10)) (test (ltb n 10))
  where
    go : every is_digit (digits_in k (n / 10)) ≡ true → Tested (ltb n 10) → every is_digit (digits_in (suc k) n) ≡ true
    go others (holds e) = rw (last_digit_alone k n (ltb-true n 10 e)) (and_both (is_digit (48 + n)) true (digit_is n (ltb-true n 10 e)) refl)
    go others (fails e) =
        rw (last_digit_after k n (ltb-false n 10 e))
        (every_append is_digit (digits_in k (n / 10)) ((48 + n % 10) ∷ []) others (and_both (is_digit (48 + n % 10)) true (digit_is (n % 10) (mod-lt n (omega arith))) refl))

-- each byte of a number's text is a digit
pub every_digit : (n : ℕ) → every is_digit (number_text n) ≡ true
unfolding number_text
every_digit n = digits_are 20 n
