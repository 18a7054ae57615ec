-- Gaps and digits one byte at a time, and what is read of a line is within it. Assumes nothing.
use Prim.Native.Nat.{ℕ, ◌+◌, ◌-◌, ◌*◌, ◌<◌, ◌≤◌}
use mathlib.Core.Path.{◌≡◌, refl, sym, ap, ◌∙◌}
use mathlib.Core.Bool.{Bool, true, false, ◌&&◌, not, cond, false≢true, true≢false}
use mathlib.Core.List.{List, [], ◌∷◌}
use lib.Dec.{eqb, ltb, leb}
use lib.ListN.{length, take, drop, get_or, length-drop, get_or-eq_default}
use lib.Seq.{take_all, drop-cons}
use native.Mathlib.Omega.{arith}
use borrow.Author.Tests.{ltb-true, ltb-false, lt-ltb, le-ltb, not-false}
use Rattle.base.proofs.TestLaws.{Tested, holds, fails, test, and_left, and_right}
use Rattle.std.specs.Prelude.{Option, Some, None, unwrap_or}
use Rattle.std.specs.List.{position_or_len}
use Rattle.std.proofs.lemmas.Option.{same_Some, none-some}
use Rattle.wire.specs.Numbers.{byte_at}
use Rattle.wire.specs.Book.{part_of}
use Rattle.text_scan.specs.Found.{Found}
use Rattle.text_scan.specs.Outcomes.{place_within}
use Rattle.text_scan.specs.Scan.{is_gap, gaps_in, said_at, separator_of, first_of, other_at, separator_place, second_of, gap_said, is_digit, grown, digits_from, digits_of, number_found, two_stand, date_stands, date_minute, date_found, time_found, hex_value, hex_found, item_found, read, expected}

-- the part from an offset to the end is what is left there
pub part_is_rest : (s : List ℕ) (a : ℕ) → part_of s a (length s) ≡ drop a s
part_is_rest s a = take_all (length s - a) (drop a s) (omega (arith, length-drop a s))

-- and the part from the beginning is what stands in front
pub part_is_front : (s : List ℕ) (a : ℕ) → part_of s 0 a ≡ take a s
part_is_front s a = let e : a - 0 ≡ a = omega arith in ap (λ (n : ℕ). take n s) e

-- the library's place of the first byte of a sort, or the length, is that of the definition
pub first_is : (p : ℕ → Bool) (s : List ℕ) → position_or_len p s ≡ first_of p s
first_is p [] = refl
first_is p (b ∷ s) = go (first_is p s) (test (p b))
  where
    go : position_or_len p s ≡ first_of p s → Tested (p b) → position_or_len p (b ∷ s) ≡ first_of p (b ∷ s)
    go h (holds e) = rw e refl
    go h (fails e) = rw e (omega (arith, h))

-- the gaps in front end at the first byte that is none
pub gaps_are : (s : List ℕ) → first_of (λ (b : ℕ). not (is_gap b)) s ≡ gaps_in s
gaps_are [] = refl
gaps_are (b ∷ s) = go (gaps_are s) (test (is_gap b))
  where
    go : first_of (λ (b : ℕ). not (is_gap b)) s ≡ gaps_in s → Tested (is_gap b) → first_of (λ (b : ℕ). not (is_gap b)) (b ∷ s) ≡ gaps_in (b ∷ s)
    go h (holds e) = rw e (omega (arith, h))
    go h (fails e) = rw e refl

-- it stands within the line, or its place is the line's length
pub first_short : (p : ℕ → Bool) (s : List ℕ) → first_of p s ≤ length s
first_short p [] = omega arith
first_short p (b ∷ s) = go (first_short p s) (test (p b))
  where
    go : first_of p s ≤ length s → Tested (p b) → first_of p (b ∷ s) ≤ length (b ∷ s)
    go h (holds e) = rw e (omega arith)
    go h (fails e) = rw e (omega arith)

-- what the library's `position` tells of a line, and the length where it tells none
pub first_told : (p : ℕ → Bool) (s : List ℕ) (told : Option ℕ) → told ≡ place_within (position_or_len p s) s → told ≡ place_within (first_of p s) s
first_told p s told e = e ∙ ap (λ (n : ℕ). place_within n s) (first_is p s)

pub first_or : (p : ℕ → Bool) (s : List ℕ) (told : Option ℕ) → told ≡ place_within (first_of p s) s → unwrap_or told (length s) ≡ first_of p s
first_or p s told e = ap (λ (o : Option ℕ). unwrap_or o (length s)) e ∙ go (test (ltb (first_of p s) (length s)))
  where
    go : Tested (ltb (first_of p s) (length s)) → unwrap_or (place_within (first_of p s) s) (length s) ≡ first_of p s
    go (holds h) = rw h refl
    go (fails h) = rw h (omega (arith, ltb-false (first_of p s) (length s) h, first_short p s))

-- a place that is told is within the line, and one that is not is its length
pub place_there : (n : ℕ) (s : List ℕ) (k : ℕ) → place_within n s ≡ Some k → (ltb n (length s) ≡ true) × (k ≡ n)
place_there n s k e = go (test (ltb n (length s)))
  where
    go : Tested (ltb n (length s)) → (ltb n (length s) ≡ true) × (k ≡ n)
    go (holds h) = let there : place_within n s ≡ Some n = rw h refl in (h, sym (same_Some n k (sym there ∙ e)))
    go (fails h) = let none : place_within n s ≡ None = rw h refl in absurd (none-some k (sym none ∙ e))

pub place_none : (n : ℕ) (s : List ℕ) → place_within n s ≡ None → ltb n (length s) ≡ false
place_none n s e = go (test (ltb n (length s)))
  where
    go : Tested (ltb n (length s)) → ltb n (length s) ≡ false
    go (holds h) = let there : place_within n s ≡ Some n = rw h refl in absurd (none-some n (sym e ∙ there))
    go (fails h) = h

-- a line that begins with a comment has no separator
module _ (s : List ℕ) (i : ℕ) where
  pub comment_first : i < length s → get_or s i 0 ≡ 35 → separator_of (drop i s) ≡ 0
  comment_first h e = rw (drop-cons s i 0, e)

-- a gap of a line of cells, by its tests
module _ (gap : List ℕ) (sep : ℕ) (due : Bool) where
  -- 13 at the first other separator, whether or not an item is due behind the gap
  pub gap_other : ltb (other_at gap sep) (length gap) ≡ true → gap_said gap sep due ≡ said_at 13 (other_at gap sep)
  unfolding gap_said
  gap_other o = rw (gap_said, o)

  module _ (same : ltb (other_at gap sep) (length gap) ≡ false) where
    -- a gap without one is right where no item is due behind it
    pub gap_undue : due ≡ false → gap_said gap sep due ≡ said_at 0 0
    unfolding gap_said
    gap_undue d = rw (gap_said, same, d)

    module _ (item : due ≡ true) where
      -- 14 at the end of a gap without a separator, where an item is due
      pub gap_none : leb (length gap) (separator_place gap sep) ≡ true → gap_said gap sep due ≡ said_at 14 (length gap)
      unfolding gap_said
      gap_none n = rw (gap_said, same, item, n)

      module _ (one : leb (length gap) (separator_place gap sep) ≡ false) where
        -- 15 at the second separator, where an item is due
        pub gap_empty : ltb (second_of gap sep) (length gap) ≡ true → gap_said gap sep due ≡ said_at 15 (second_of gap sep)
        unfolding gap_said
        gap_empty t = rw (gap_said, same, item, one, t)

        -- a gap with one separator alone is right there
        pub gap_right : ltb (second_of gap sep) (length gap) ≡ false → gap_said gap sep due ≡ said_at 0 0
        unfolding gap_said
        gap_right t = rw (gap_said, same, item, one, t)

-- the second separator, by what is told of the part behind the first
module _ (gap : List ℕ) (sep : ℕ) (first : ℕ) (is : first ≡ separator_place gap sep) (rest : List ℕ) (behind : rest ≡ part_of gap (first + 1) (length gap)) where
  rest_is : rest ≡ drop (separator_place gap sep + 1) gap
  rest_is = behind ∙ part_is_rest gap (first + 1) ∙ ap (λ (n : ℕ). drop (n + 1) gap) is

  rest_long : length rest ≡ length gap - (separator_place gap sep + 1)
  rest_long = ap length rest_is ∙ length-drop (separator_place gap sep + 1) gap

  second_is : second_of gap sep ≡ separator_place gap sep + 1 + separator_place rest sep
  second_is = ap (λ (s : List ℕ). separator_place gap sep + 1 + separator_place s sep) (sym rest_is)

  pub second_there : (more : ℕ) → place_within (separator_place rest sep) rest ≡ Some more → (ltb (second_of gap sep) (length gap) ≡ true) × (first + 1 + more ≡ second_of gap sep)
  second_there more e =
      let there = place_there (separator_place rest sep) rest more e in
      let within = ltb-true (separator_place rest sep) (length rest) there.0 in
      let same = there.1 in
      (lt-ltb (second_of gap sep) (length gap) (omega (arith, within, rest_long, second_is)), omega (arith, is, same, second_is))

  pub second_none : place_within (separator_place rest sep) rest ≡ None → ltb (second_of gap sep) (length gap) ≡ false
  second_none e =
      let past = ltb-false (separator_place rest sep) (length rest) (place_none (separator_place rest sep) rest e) in
      le-ltb (second_of gap sep) (length gap) (omega (arith, past, rest_long, second_is))

-- two digits are looked for at the first 16 places alone
pub near_stand : (s : List ℕ) (at : ℕ) → two_stand s at ≡ true → at < 16
unfolding two_stand
near_stand s at e = ltb-true at 16 (and_left (ltb at 16) (is_digit (byte_at s at)) (and_left (ltb at 16 && is_digit (byte_at s at)) (is_digit (byte_at s (at + 1))) e))

-- what is read of either of two, where each is within a length
either_short : (t : Bool) (a b : Found) (n : ℕ) → (t ≡ true → a.used ≤ n) → (t ≡ false → b.used ≤ n) → (cond t a b).used ≤ n
either_short true a b n f g = f refl
either_short false a b n f g = g refl

-- what is said of a gap is said of a place in it, or of its end
pub said_short : (gap : List ℕ) (sep : ℕ) (due : Bool) → (gap_said gap sep due).used ≤ length gap
unfolding gap_said
said_short gap sep due =
    let other = other_at gap sep in
    let second = second_of gap sep in
    let empty = cond (ltb second (length gap)) (said_at 15 second) (said_at 0 0) in
    let none = cond (leb (length gap) (separator_place gap sep)) (said_at 14 (length gap)) empty in
    either_short (ltb other (length gap)) (said_at 13 other) (cond (not due) (said_at 0 0) none) (length gap) (λ e. omega (arith, ltb-true other (length gap) e))
    (λ _. either_short (not due) (said_at 0 0) none (length gap) (λ _. omega arith)
    (λ _. either_short (leb (length gap) (separator_place gap sep)) (said_at 14 (length gap)) empty (length gap) (λ _. omega arith)
    (λ _. either_short (ltb second (length gap)) (said_at 15 second) (said_at 0 0) (length gap) (λ e. omega (arith, ltb-true second (length gap) e)) (λ _. omega arith))))

-- the gaps are within the line
pub gaps_short : (s : List ℕ) → gaps_in s ≤ length s
gaps_short [] = omega arith
gaps_short (b ∷ s) = go (gaps_short s) (test (is_gap b))
  where
    go : gaps_in s ≤ length s → Tested (is_gap b) → gaps_in (b ∷ s) ≤ length (b ∷ s)
    go h (holds e) = rw e (omega arith)
    go h (fails e) = rw e (omega arith)

-- the digits are within the line
run_short : (value used : ℕ) (s : List ℕ) → (digits_from value used s).used ≤ used + length s
run_short value used [] = omega arith
run_short value used (b ∷ s) = go (run_short (grown value b) (used + 1) s) (test (is_digit b))
  where
    go : (digits_from (grown value b) (used + 1) s).used ≤ used + 1 + length s → Tested (is_digit b) → (digits_from value used (b ∷ s)).used ≤ used + length (b ∷ s)
    go h (holds e) = rw e (omega arith)
    go h (fails e) = rw e (omega arith)

number_short : (s : List ℕ) (most none large : ℕ) → (number_found s most none large).used ≤ length s
unfolding number_found digits_of
number_short s most none large =
    let r = digits_of s in
    either_short (eqb r.used 0) (expected none) (cond (ltb most r.value) (expected large) (read r.value r.used)) (length s) (λ _. omega arith)
    (λ _. either_short (ltb most r.value) (expected large) (read r.value r.used) (length s) (λ _. omega arith) (λ _. omega (arith, run_short 0 0 s)))

-- a digit past the end is none
digit_within : (s : List ℕ) (at : ℕ) → is_digit (byte_at s at) ≡ true → at < length s
unfolding is_digit
digit_within s at e = go (test (ltb at (length s)))
  where
    go : Tested (ltb at (length s)) → at < length s
    go (holds h) = omega (arith, ltb-true at (length s) h)
    go (fails h) = absurd (false≢true (ap is_digit (sym (get_or-eq_default s 0 (ltb-false at (length s) h))) ∙ e))

date_within : (s : List ℕ) → date_stands s ≡ true → 11 ≤ length s
unfolding date_stands two_stand
date_within s e =
    let two : two_stand s 9 ≡ true = and_right (two_stand s 0 && eqb (byte_at s 2) 45 && two_stand s 3 && eqb (byte_at s 5) 32 && two_stand s 6 && eqb (byte_at s 8) 58) (two_stand s 9) e in
    digit_within s 10 (and_right (ltb 9 16 && is_digit (byte_at s 9)) (is_digit (byte_at s 10)) two)

date_short : (s : List ℕ) (year : ℕ) → (date_found s year).used ≤ length s
unfolding date_found
date_short s year =
    let m = date_minute s year in
    let there = cond (not m.there) (expected 8) (read m.value 11) in
    either_short (not (date_stands s)) (expected 6) (cond (eqb year 0) (expected 7) there) (length s) (λ _. omega arith)
    (λ e. either_short (eqb year 0) (expected 7) there (length s) (λ _. omega arith)
    (λ _. either_short (not m.there) (expected 8) (read m.value 11) (length s) (λ _. omega arith) (λ _. date_within s (not-false (date_stands s) e))))

time_short : (s : List ℕ) (year : ℕ) → (time_found s year).used ≤ length s
unfolding time_found
time_short s year =
    either_short (eqb (byte_at s 2) 45) (date_found s year) (number_found s 4294967295 6 5) (length s) (λ _. date_short s year) (λ _. number_short s 4294967295 6 5)

-- a hexadecimal digit past the end is none
hex_within : (s : List ℕ) (at : ℕ) → ltb 15 (hex_value (byte_at s at)) ≡ false → at < length s
unfolding hex_value
hex_within s at e = go (test (ltb at (length s)))
  where
    go : Tested (ltb at (length s)) → at < length s
    go (holds h) = ltb-true at (length s) h
    go (fails h) = absurd (true≢false (ap (λ (b : ℕ). ltb 15 (hex_value b)) (sym (get_or-eq_default s 0 (ltb-false at (length s) h))) ∙ e))

hex_short : (s : List ℕ) → (hex_found s).used ≤ length s
unfolding hex_found
hex_short s =
    let high = hex_value (byte_at s 0) in
    let low = hex_value (byte_at s 1) in
    let both = read (high * 16 + low) 2 in
    either_short (ltb 15 high) (expected 9) (cond (ltb 15 low) (expected 9) both) (length s) (λ _. omega arith)
    (λ _. either_short (ltb 15 low) (expected 9) both (length s) (λ _. omega arith) (λ e. hex_within s 1 e))

-- what is read of an item is within the line
pub item_short : (s : List ℕ) (item year : ℕ) → (item_found s item year).used ≤ length s
unfolding item_found
item_short s item year =
    let n = length s in
    let count = number_found s 4294967295 2 5 in
    let digits = cond (eqb item 5) (hex_found s) count in
    let time = cond (eqb item 4) (time_found s year) digits in
    let pair = cond (eqb item 2) (number_found s 65535 2 4) time in
    either_short (eqb item 1) (number_found s 255 2 3) pair n (λ _. number_short s 255 2 3)
    (λ _. either_short (eqb item 2) (number_found s 65535 2 4) time n (λ _. number_short s 65535 2 4)
    (λ _. either_short (eqb item 4) (time_found s year) digits n (λ _. time_short s year)
    (λ _. either_short (eqb item 5) (hex_found s) count n (λ _. hex_short s) (λ _. number_short s 4294967295 2 5))))
