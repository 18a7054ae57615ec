-- An item that is written is read back: a number by its digits, a time by its minutes or its date, a byte by its two hexadecimal digits. Assumes nothing.
use Prim.Native.Nat.{ℕ, ◌+◌, ◌*◌, ◌/◌, ◌%◌, ◌<◌, ◌≤◌}
use mathlib.Core.Path.{◌≡◌, refl, sym, ap, ◌∙◌}
use mathlib.Core.Bool.{Bool, true, false, cond, true≢false}
use mathlib.Core.List.{List, [], ◌∷◌, ◌++◌}
use lib.ListN.{length}
use lib.Seq.{get_or-append-add}
use lib.Dec.{eqb, ltb, leb}
use native.Mathlib.Omega.{arith}
use borrow.Author.Tests.{ltb-true, ltb-false, leb-true, leb-false, eqb-true, eqb-false, lt-ltb, le-ltb, le-leb, lt-leb, ne_eqb}
use Rattle.base.proofs.TestLaws.{Tested, holds, fails, test, and_left, and_right, or_both}
use Rattle.wire.specs.Numbers.{byte_at}
use Rattle.annex.specs.Times.{minutes_in}
use Rattle.calendar.specs.declared.Date.{Date}
use Rattle.calendar.specs.Calendar.{date_of, minute_of}
use Rattle.calendar.proofs.CalendarLaws.{date_minute_lem, date_small}
use Rattle.text.specs.Text.{number_text}
use Rattle.pen.specs.Pen.{hex_digit, hex_text}
use Rattle.text_items.specs.Shape.{limit_of}
use Rattle.text_scan.specs.Scan.{read, is_gap, gaps_in, ends_here, parted_here, is_digit, number_found, two_stand, two_at, date_stands, date_minute, date_found, time_found, hex_value, hex_found, item_found}
use Rattle.text_write.specs.Line.{date_parts, date_text, time_text, item_text}
use Rattle.text_back.proofs.NumberBack.{digit_free, digit_stands, number_back, number_some, number_digit, number_begins}

-- a byte from 45 to 102 other than the semicolon parts nothing
pub no_gap : (b : ℕ) → 45 ≤ b → b ≤ 102 → (b ≡ 59 → ⊥) → is_gap b ≡ false
unfolding is_gap
no_gap b l h n =
    rw (
      ne_eqb b 32 (λ e. omega arith),
      ne_eqb b 9 (λ e. omega arith),
      ne_eqb b 44 (λ e. omega arith),
      ne_eqb b 59 n,
      ne_eqb b 124 (λ e. omega arith),
      ne_eqb b 13 (λ e. omega arith),
    )

-- nor does it end a line
pub not_parted : (s : List ℕ) → 45 ≤ byte_at s 0 → byte_at s 0 ≤ 102 → (byte_at s 0 ≡ 59 → ⊥) → parted_here s ≡ false
not_parted [] l h n = absurd (omega arith)
not_parted (b ∷ s) l h n = or_both (eqb b 35) (is_gap b) (ne_eqb b 35 (λ e. omega arith)) (no_gap b l h n)

digit_low : (b : ℕ) → is_digit b ≡ true → 48 ≤ b
unfolding is_digit
digit_low b e = leb-true 48 b (and_left (leb 48 b) (leb b 57) e)

digit_high : (b : ℕ) → is_digit b ≡ true → b ≤ 57
unfolding is_digit
digit_high b e = leb-true b 57 (and_right (leb 48 b) (leb b 57) e)

-- what is parted begins with no digit and no dash
module _ (rest : List ℕ) (p : parted_here rest ≡ true) where
  pub parted_digit_free : digit_free rest
  parted_digit_free = go (test (is_digit (byte_at rest 0)))
    where
      go : Tested (is_digit (byte_at rest 0)) → is_digit (byte_at rest 0) ≡ false
      go (holds e) =
          let l : 48 ≤ byte_at rest 0 = digit_low (byte_at rest 0) e in
          let h : byte_at rest 0 ≤ 57 = digit_high (byte_at rest 0) e in
          absurd (true≢false (sym p ∙ not_parted rest (omega arith) (omega arith) (λ n. omega arith)))
      go (fails e) = e

  pub parted_dash_free : byte_at rest 0 ≡ 45 → ⊥
  parted_dash_free e = true≢false (sym p ∙ not_parted rest (omega arith) (omega arith) (λ n. omega arith))

-- a printed number is found
pub number_found_lem :
    (n most none large : ℕ) (rest : List ℕ) → n ≤ most → most ≤ 4294967295 → digit_free rest → number_found (number_text n ++ rest) most none large ≡ read n (length (number_text n))
unfolding number_found
number_found_lem n most none large rest h l free =
    let some : 1 ≤ length (number_text n) = number_some n in
    rw (number_back n rest (omega arith) free, ne_eqb (length (number_text n)) 0 (λ e. omega arith), le-ltb most n h)

-- no dash stands where a date has its first
module _ (n : ℕ) (rest : List ℕ) (p : parted_here rest ≡ true) (q : byte_at rest 1 ≡ 45 → ⊥) where
  pub no_dash : byte_at (number_text n ++ rest) 2 ≡ 45 → ⊥
  no_dash e = go (test (ltb 2 (length (number_text n)))) (test (ltb 1 (length (number_text n))))
    where
      long : 2 < length (number_text n) → ⊥
      long l =
          let m : 48 ≤ byte_at (number_text n ++ rest) 2 = digit_low (byte_at (number_text n ++ rest) 2) (number_digit n 2 rest l) in
          omega arith

      two : length (number_text n) + 0 ≡ 2 → ⊥
      two l = parted_dash_free rest p (sym (get_or-append-add (number_text n) rest 0 0) ∙ ap (byte_at (number_text n ++ rest)) l ∙ e)

      one : length (number_text n) + 1 ≡ 2 → ⊥
      one l = q (sym (get_or-append-add (number_text n) rest 1 0) ∙ ap (byte_at (number_text n ++ rest)) l ∙ e)

      go : Tested (ltb 2 (length (number_text n))) → Tested (ltb 1 (length (number_text n))) → ⊥
      go (holds a) b = long (ltb-true 2 (length (number_text n)) a)
      go (fails a) (holds b) =
          let l : length (number_text n) ≤ 2 = ltb-false 2 (length (number_text n)) a in
          let m : 1 < length (number_text n) = ltb-true 1 (length (number_text n)) b in
          two (omega arith)
      go (fails a) (fails b) =
          let l : length (number_text n) ≤ 1 = ltb-false 1 (length (number_text n)) b in
          let m : 1 ≤ length (number_text n) = number_some n in
          one (omega arith)

-- two digits at a place, and their number
module _ (s : List ℕ) (at m : ℕ) (l : at < 16) (tens : byte_at s at ≡ 48 + m / 10 % 10) (ones : byte_at s (at + 1) ≡ 48 + m % 10) where
  pub two_stand_lem : two_stand s at ≡ true
  unfolding two_stand
  two_stand_lem = rw (lt-ltb at 16 l, tens, ones, digit_stands (m / 10 % 10) (omega arith), digit_stands (m % 10) (omega arith))

  pub two_read : m < 100 → two_at s at ≡ m
  unfolding two_at
  two_read h = rw (two_stand_lem, tens, ones) (omega arith)

-- a date stands in front where it is written, and its parts are read
module _ (d : Date) (rest : List ℕ) where
  pub date_stands_lem : date_stands (date_parts d ++ rest) ≡ true
  unfolding date_stands
  date_stands_lem =
      rw (
        two_stand_lem (date_parts d ++ rest) 0 d.month (omega arith) refl refl,
        two_stand_lem (date_parts d ++ rest) 3 d.day (omega arith) refl refl,
        two_stand_lem (date_parts d ++ rest) 6 d.hour (omega arith) refl refl,
        two_stand_lem (date_parts d ++ rest) 9 d.minute (omega arith) refl refl,
      )

  pub date_read : (year : ℕ) → d.month < 100 → d.day < 100 → d.hour < 100 → d.minute < 100 → date_minute (date_parts d ++ rest) year ≡ minute_of year d
  date_read year a b c e =
      rw (
        two_read (date_parts d ++ rest) 0 d.month (omega arith) refl refl a,
        two_read (date_parts d ++ rest) 3 d.day (omega arith) refl refl b,
        two_read (date_parts d ++ rest) 6 d.hour (omega arith) refl refl c,
        two_read (date_parts d ++ rest) 9 d.minute (omega arith) refl refl e,
      )

-- the number of a hexadecimal digit
pub hex_read : (d : ℕ) → d < 16 → hex_value (hex_digit d) ≡ d
unfolding hex_value
hex_read d h = go (test (ltb d 10))
  where
    decimal : d < 10 → hex_value (48 + d) ≡ d
    decimal l = rw (le-ltb (48 + d) 48 (omega arith), le-leb (48 + d) 57 (omega arith)) (omega arith)

    letter : 10 ≤ d → hex_value (87 + d) ≡ d
    letter l =
        rw (
          le-ltb (87 + d) 48 (omega arith),
          lt-leb (87 + d) 57 (omega arith),
          le-ltb (87 + d) 65 (omega arith),
          lt-leb (87 + d) 70 (omega arith),
          le-ltb (87 + d) 97 (omega arith),
          le-leb (87 + d) 102 (omega arith),
        )
        (omega arith)

    go : Tested (ltb d 10) → hex_value (hex_digit d) ≡ d
    go (holds e) = rw e (decimal (ltb-true d 10 e))
    go (fails e) = rw e (letter (ltb-false d 10 e))

-- a byte that is written in two hexadecimal digits is read
pub hex_back : (v : ℕ) (rest : List ℕ) → v ≤ 255 → hex_found (hex_text v ++ rest) ≡ read v 2
unfolding hex_found
hex_back v rest h =
    let e : v / 16 % 16 * 16 + v % 16 ≡ v = omega arith in
    rw (
      hex_read (v / 16 % 16) (omega arith),
      hex_read (v % 16) (omega arith),
      le-ltb 15 (v / 16 % 16) (omega arith),
      le-ltb 15 (v % 16) (omega arith),
      e,
    )

-- a byte that an item may begin with: from 0 to f, and no semicolon
abbrev pub Front : ℕ → Type 0
Front b = (48 ≤ b) × (b ≤ 102) × (b ≡ 59 → ⊥)

digit_front : (b : ℕ) → is_digit b ≡ true → Front b
digit_front b e =
    let l : 48 ≤ b = digit_low b e in
    let h : b ≤ 57 = digit_high b e in
    (l, omega arith, λ n. omega arith)

hex_front : (d : ℕ) → d < 16 → Front (hex_digit d)
hex_front d h = go (test (ltb d 10))
  where
    go : Tested (ltb d 10) → Front (hex_digit d)
    go (holds e) = let l : d < 10 = ltb-true d 10 e in rw e (omega arith, omega arith, λ n. omega arith)
    go (fails e) = let l : 10 ≤ d = ltb-false d 10 e in rw e (omega arith, omega arith, λ n. omega arith)

time_front : (year t : ℕ) (rest : List ℕ) → Front (byte_at (time_text year t ++ rest) 0)
unfolding time_text date_text
time_front year t rest = go (eqb year 0) (leb (minutes_in year) t)
  where
    number : Front (byte_at (number_text t ++ rest) 0)
    number = digit_front (byte_at (number_text t ++ rest) 0) (number_begins t rest)

    go : (a b : Bool) → Front (byte_at (cond a (number_text t) (cond b (number_text t) (date_parts (date_of year t))) ++ rest) 0)
    go true b = number
    go false true = number
    go false false = digit_front (48 + (date_of year t).month / 10 % 10) (digit_stands ((date_of year t).month / 10 % 10) (omega arith))

-- a written item begins with a byte from 48 to 102 that is no semicolon
pub item_front : (item year v : ℕ) (rest : List ℕ) → Front (byte_at (item_text item year v ++ rest) 0)
unfolding item_text
item_front item year v rest = go (eqb item 4) (eqb item 5)
  where
    go : (a b : Bool) → Front (byte_at (cond a (time_text year v) (cond b (hex_text v) (number_text v)) ++ rest) 0)
    go true b = time_front year v rest
    go false true = hex_front (v / 16 % 16) (omega arith)
    go false false = digit_front (byte_at (number_text v ++ rest) 0) (number_begins v rest)

-- no gap stands before such a byte, and the line has not ended
pub front_no_gap : (s : List ℕ) → Front (byte_at s 0) → gaps_in s ≡ 0
front_no_gap [] f = refl
front_no_gap (b ∷ s) f = rw (no_gap b (omega (arith, f.0)) f.1 f.2)

pub front_goes_on : (s : List ℕ) → Front (byte_at s 0) → ends_here s ≡ false
front_goes_on [] f = absurd (omega (arith, f.0))
front_goes_on (b ∷ s) f = ne_eqb b 35 (λ e. omega (arith, f.0))

-- so an item begins with no gap and no mark of a comment
pub item_begins : (item year v : ℕ) (rest : List ℕ) → (gaps_in (item_text item year v ++ rest) ≡ 0) × (ends_here (item_text item year v ++ rest) ≡ false)
item_begins item year v rest =
    let f : Front (byte_at (item_text item year v ++ rest) 0) = item_front item year v rest in
    (front_no_gap (item_text item year v ++ rest) f, front_goes_on (item_text item year v ++ rest) f)

-- a date is found
pub date_back : (year t : ℕ) (rest : List ℕ) → (year ≡ 0 → ⊥) → t < minutes_in year → date_found (date_text year t ++ rest) year ≡ read t 11
unfolding date_found date_text
date_back year t rest n h =
    let d : Date = date_of year t in
    let k = date_small year t h in
    let e : date_minute (date_parts d ++ rest) year ≡ record { there = true; value = t } =
    date_read d rest year k.0 k.1 k.2 k.3 ∙ date_minute_lem year t h in
    rw (date_stands_lem d rest, ne_eqb year 0 n, e)

date_time : (year t : ℕ) (rest : List ℕ) → (year ≡ 0 → ⊥) → t < minutes_in year → time_found (date_text year t ++ rest) year ≡ read t (length (date_text year t))
unfolding time_found date_text
date_time year t rest n h = date_back year t rest n h

-- a time is: as minutes, or as a date
pub time_back :
    (year t : ℕ) (rest : List ℕ) → t ≤ 4294967295 → parted_here rest ≡ true → (byte_at rest 1 ≡ 45 → ⊥) → time_found (time_text year t ++ rest) year ≡ read t (length (time_text year t))
unfolding time_found time_text
time_back year t rest h p q = go (test (eqb year 0)) (test (leb (minutes_in year) t))
  where
    minutes : time_found (number_text t ++ rest) year ≡ read t (length (number_text t))
    minutes =
        rw (ne_eqb (byte_at (number_text t ++ rest) 2) 45 (no_dash t rest p q))
        (number_found_lem t 4294967295 6 5 rest h (omega arith) (parted_digit_free rest p))

    go : Tested (eqb year 0) → Tested (leb (minutes_in year) t) → time_found (time_text year t ++ rest) year ≡ read t (length (time_text year t))
    go (holds a) b = rw a minutes
    go (fails a) (holds b) = rw (a, b) minutes
    go (fails a) (fails b) = rw (a, b) (date_time year t rest (eqb-false year 0 a) (leb-false (minutes_in year) t b))

-- reading a written item gives its number
pub item_back :
    (item year v : ℕ) (rest : List ℕ) →
    v ≤ limit_of item →
    parted_here rest ≡ true →
    (byte_at rest 1 ≡ 45 → ⊥) →
    item_found (item_text item year v ++ rest) item year ≡ read v (length (item_text item year v))
unfolding item_found item_text limit_of
item_back item year v rest h p q = go (test (eqb item 4)) (test (eqb item 5)) (test (eqb item 1)) (test (eqb item 2))
  where
    free : digit_free rest
    free = parted_digit_free rest p

    go :
        Tested (eqb item 4) →
        Tested (eqb item 5) →
        Tested (eqb item 1) →
        Tested (eqb item 2) →
        item_found (item_text item year v ++ rest) item year ≡ read v (length (item_text item year v))
    go (holds a) b c d = let e : item ≡ 4 = eqb-true item 4 a in rw e (time_back year v rest (rw e at h) p q)
    go (fails a) (holds b) c d = let e : item ≡ 5 = eqb-true item 5 b in rw e (hex_back v rest (rw e at h))
    go (fails a) (fails b) (holds c) d = let e : item ≡ 1 = eqb-true item 1 c in rw e (number_found_lem v 255 2 3 rest (rw e at h) (omega arith) free)
    go (fails a) (fails b) (fails c) (holds d) = let e : item ≡ 2 = eqb-true item 2 d in rw e (number_found_lem v 65535 2 4 rest (rw e at h) (omega arith) free)
    go (fails a) (fails b) (fails c) (fails d) = rw (a, b, c, d) (number_found_lem v 4294967295 2 5 rest (rw (b, c, d) at h) (omega arith) free)
