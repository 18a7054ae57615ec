-- The bytes that a written line is made of: spaces, bars, dashes, colons, digits and small letters. What holds of these holds of each byte of every line.
-- Assumes nothing.
use Prim.Native.Nat.{ℕ, zero, suc, ◌+◌, ◌/◌, ◌%◌, ◌<◌, ◌≤◌}
use mathlib.Core.Path.{◌≡◌, refl}
use mathlib.Core.Bool.{Bool, true, false, cond}
use mathlib.Core.List.{List, [], ◌∷◌, ◌++◌}
use lib.Dec.{eqb, ltb, leb}
use native.Mathlib.Omega.{arith}
use borrow.Author.Tests.{ltb-true, ltb-false, ne_eqb}
use Rattle.base.specs.Lists.{All}
use Rattle.base.proofs.ListLaws.{all_append}
use Rattle.base.proofs.TestLaws.{Tested, holds, fails, test}
use Rattle.annex.specs.Times.{minutes_in}
use Rattle.calendar.specs.Calendar.{date_of}
use Rattle.text.specs.Text.{digits_in, number_text, two_text}
use Rattle.pen.specs.Pen.{hex_digit, hex_text}
use Rattle.text_items.specs.Shape.{item_of, bar_before}
use Rattle.text_scan.specs.Scan.{separates, separator_of}
use Rattle.text_parse.specs.Entry.{word_text}
use Rattle.text_write.specs.Line.{date_text, time_text, item_text, gap_text, items_text, line_text}

module _ (P : ℕ → Type 0) (space : P 32) (bar : P 124) (dash : P 45) (colon : P 58) (digit : (d : ℕ) → d < 10 → P (48 + d)) (letter : (b : ℕ) → 97 ≤ b → P b) where
  both : (l m : List ℕ) → All P l → All P m → All P (l ++ m)
  both l m a b = all_append P l m a b

  either : (t : Bool) (l m : List ℕ) → All P l → All P m → All P (cond t l m)
  either true l m a b = a
  either false l m a b = b

  digits_written : (k n : ℕ) → All P (digits_in k n)
  digits_written zero n = tt
  digits_written (suc k) n = go (test (ltb n 10)) (digits_written k (n / 10))
    where
      go : Tested (ltb n 10) → All P (digits_in k (n / 10)) → All P (digits_in (suc k) n)
      go (holds e) a = rw e (digit n (ltb-true n 10 e), tt)
      go (fails e) a = rw e (both (digits_in k (n / 10)) ((48 + n % 10) ∷ []) a (digit (n % 10) (omega arith), tt))

  number_written : (n : ℕ) → All P (number_text n)
  unfolding number_text
  number_written n = digits_written 20 n

  hex_digit_written : (d : ℕ) → P (hex_digit d)
  hex_digit_written d = go (test (ltb d 10))
    where
      go : Tested (ltb d 10) → P (hex_digit d)
      go (holds e) = rw e (digit d (ltb-true d 10 e))
      go (fails e) = rw e (letter (87 + d) (omega (arith, ltb-false d 10 e)))

  hex_written : (n : ℕ) → All P (hex_text n)
  hex_written n = (hex_digit_written (n / 16 % 16), (hex_digit_written (n % 16), tt))

  two_written : (n : ℕ) (l : List ℕ) → All P l → All P (two_text n ++ l)
  two_written n l a = (digit (n / 10 % 10) (omega arith), (digit (n % 10) (omega arith), a))

  date_written : (year t : ℕ) → All P (date_text year t)
  unfolding date_text
  date_written year t =
      let d = date_of year t in
      two_written d.month (45 ∷ (two_text d.day ++ (32 ∷ (two_text d.hour ++ (58 ∷ two_text d.minute))))) (
        dash,
        two_written d.day (32 ∷ (two_text d.hour ++ (58 ∷ two_text d.minute))) (
          space,
          two_written d.hour (58 ∷ two_text d.minute)
              (colon, two_written d.minute [] tt),
        ),
      )

  time_written : (year t : ℕ) → All P (time_text year t)
  unfolding time_text
  time_written year t =
      either (eqb year 0) (number_text t) (cond (leb (minutes_in year) t) (number_text t) (date_text year t)) (number_written t)
      (either (leb (minutes_in year) t) (number_text t) (date_text year t) (number_written t) (date_written year t))

  item_written : (item year v : ℕ) → All P (item_text item year v)
  unfolding item_text
  item_written item year v =
      either (eqb item 4) (time_text year v) (cond (eqb item 5) (hex_text v) (number_text v)) (time_written year v)
      (either (eqb item 5) (hex_text v) (number_text v) (hex_written v) (number_written v))

  gap_written : (kind k : ℕ) → All P (gap_text kind k)
  unfolding gap_text
  gap_written kind k = either (bar_before kind k) (32 ∷ 124 ∷ 32 ∷ []) (32 ∷ []) (space, (bar, (space, tt))) (space, tt)

  items_written : (kind year k : ℕ) (vs : List ℕ) → All P (items_text kind year k vs)
  items_written kind year k [] = tt
  items_written kind year k (v ∷ vs) =
      let item = item_text (item_of kind k) year v in
      let rest = items_text kind year (k + 1) vs in
      both (gap_text kind k) (item ++ rest) (gap_written kind k) (both item rest (item_written (item_of kind k) year v) (items_written kind year (k + 1) vs))

  -- letters, and letters after one
  l : {b : ℕ} → 97 ≤ b → P b
  l {b} h = letter b h

  word_written : (kind : ℕ) → All P (word_text kind)
  word_written kind =
      either (eqb kind 1) _ _ (l (omega arith), (l (omega arith), (l (omega arith), (l (omega arith), (l (omega arith), tt)))))
      (either (eqb kind 2) _ _ (l (omega arith), (l (omega arith), (l (omega arith), (l (omega arith), (l (omega arith), (l (omega arith), tt))))))
      (either (eqb kind 3) _ _ (l (omega arith), (l (omega arith), (l (omega arith), (l (omega arith), (l (omega arith), (l (omega arith), (l (omega arith), tt)))))))
      (either (eqb kind 4) _ _ (l (omega arith), (l (omega arith), (l (omega arith), tt))) tt)))

  -- what holds of a space, a bar, a dash, a colon, each digit and each byte from 97 on holds of every byte of a written line
  pub line_written : (kind year : ℕ) (vs : List ℕ) → All P (line_text kind year vs)
  line_written kind year vs = both (word_text kind) (items_text kind year 0 vs) (word_written kind) (items_written kind year 0 vs)

-- no newline is one of them
pub newline_unwritten : (kind year : ℕ) (vs : List ℕ) → All (λ (b : ℕ). b ≡ 10 → ⊥) (line_text kind year vs)
newline_unwritten kind year vs =
    line_written (λ (b : ℕ). b ≡ 10 → ⊥) (λ e. omega arith) (λ e. omega arith) (λ e. omega arith) (λ e. omega arith) (λ d h e. omega arith) (λ b h e. omega arith) kind year vs

-- nor is a separator
other_byte : (b : ℕ) → (b ≡ 9 → ⊥) → (b ≡ 44 → ⊥) → (b ≡ 59 → ⊥) → separates b ≡ false
unfolding separates
other_byte b h i j = rw (separates, ne_eqb b 9 h, ne_eqb b 44 i, ne_eqb b 59 j)

separator_unwritten : (kind year : ℕ) (vs : List ℕ) → All (λ (b : ℕ). separates b ≡ false) (line_text kind year vs)
unfolding separates
separator_unwritten kind year vs =
    line_written (λ (b : ℕ). separates b ≡ false) refl refl refl refl
    (λ d h. other_byte (48 + d) (λ e. omega arith) (λ e. omega arith) (λ e. omega arith))
    (λ b h. other_byte b (λ e. omega arith) (λ e. omega arith) (λ e. omega arith))
    kind year vs

no_separator : (l : List ℕ) → All (λ (b : ℕ). separates b ≡ false) l → separator_of l ≡ 0
no_separator [] a = refl
no_separator (b ∷ l) a = go (eqb b 35) (no_separator l a.1)
  where
    go : (t : Bool) → separator_of l ≡ 0 → cond t 0 (cond (separates b) b (separator_of l)) ≡ 0
    go true e = refl
    go false e = rw a.0 e

-- so a written line is no line of cells
pub line_celless : (kind year : ℕ) (vs : List ℕ) → separator_of (line_text kind year vs) ≡ 0
line_celless kind year vs = no_separator (line_text kind year vs) (separator_unwritten kind year vs)
