-- How the loops over a ledger's words go, a row at a turn, and that a ledger's words and the ledger that they hold say the same.
-- Assumes nothing.
use Prim.Native.Nat.{ℕ, suc, ◌+◌, ◌*◌, ◌<◌, ◌≤◌}
use mathlib.Core.Path.{◌≡◌, refl, sym, ap, ◌∙◌}
use mathlib.Core.Bool.{Bool, true, false, ◌&&◌}
use mir.Val.{bool_byte}
use mathlib.Core.List.{List, [], ◌∷◌, ◌++◌, append_assoc, append-nil}
use lib.ListN.{length, get_or, set, take, drop, length-set, drop_of_length-le}
use lib.Seq.{take_all, take-suc-set, drop-cons}
use lib.Dec.{leb, eqb}
use native.Mathlib.Omega.{arith}
use borrow.Author.Tests.{eqb-true, leb-true, eq-eqb, le-leb}
use native.Mathlib.Numerals.{add-one}
use Rattle.base.proofs.TestLaws.{and_left, and_right}
use Rattle.ledger.specs.declared.Cell.{Cell}
use Rattle.ledger.specs.declared.TypeRow.{TypeRow}
use Rattle.ledger.specs.Ledger.{no_cell, no_row}
use Rattle.c_words.specs.Words.{words_first, row_words, ledger_words, word, words_fit, Fit, cells_of, cell_words, rows_of, cells_in, flag_of}
use Rattle.c_words.specs.Inside.{put_cell, put_row, row_at}

-- a flag as a byte is the word of it
pub flag_byte : (t : Bool) → bool_byte t ≡ flag_of t
flag_byte true = refl
flag_byte false = refl

-- ---- reading: the rows read so far and those still in the words are all of them

-- one word of those that follow
module _ (ws : List ℕ) (at : ℕ) where
  word_next : (n : ℕ) → at + n < length ws → drop (at + n) ws ≡ get_or ws (at + n) 0 ∷ drop (at + (n + 1)) ws
  word_next n l =
      let on : suc (at + n) ≡ at + (n + 1) = omega arith in
      drop-cons ws (at + n) 0 l ∙ ap (λ k. get_or ws (at + n) 0 ∷ drop k ws) on

  six_words :
      at + 5 < length ws →
      drop at ws ≡ get_or ws at 0 ∷ get_or ws (at + 1) 0 ∷ get_or ws (at + 2) 0 ∷ get_or ws (at + 2 + 1) 0 ∷ get_or ws (at + 4) 0 ∷ get_or ws (at + 4 + 1) 0 ∷ drop (at + row_words) ws
  six_words l =
      let here : at + 0 ≡ at = omega arith in
      let third : at + 3 ≡ at + 2 + 1 = omega arith in
      let fifth : at + 5 ≡ at + 4 + 1 = omega arith in
      ap (λ k. drop k ws) (sym here) ∙
      word_next 0 (omega arith) ∙
      (λ i. get_or ws (here i) 0 ∷ word_next 1 (omega arith) i) ∙
      (λ i. get_or ws at 0 ∷ get_or ws (at + 1) 0 ∷ word_next 2 (omega arith) i) ∙
      (λ i. get_or ws at 0 ∷ get_or ws (at + 1) 0 ∷ get_or ws (at + 2) 0 ∷ word_next 3 (omega arith) i) ∙
      (λ i. get_or ws at 0 ∷ get_or ws (at + 1) 0 ∷ get_or ws (at + 2) 0 ∷ get_or ws (third i) 0 ∷ word_next 4 (omega arith) i) ∙
      (λ i. get_or ws at 0 ∷ get_or ws (at + 1) 0 ∷ get_or ws (at + 2) 0 ∷ get_or ws (at + 2 + 1) 0 ∷ get_or ws (at + 4) 0 ∷ word_next 5 (omega arith) i) ∙
      (λ i. get_or ws at 0 ∷ get_or ws (at + 1) 0 ∷ get_or ws (at + 2) 0 ∷ get_or ws (at + 2 + 1) 0 ∷ get_or ws (at + 4) 0 ∷ get_or ws (fifth i) 0 ∷ drop (at + 6) ws)

  row_next : at + 5 < length ws → rows_of (cells_of (drop at ws)) ≡ row_at ws at ∷ rows_of (cells_of (drop (at + row_words) ws))
  row_next l = ap (λ us. rows_of (cells_of us)) (six_words l)

-- where the row after k others begins
abbrev pub row_start : ℕ → ℕ
row_start k = words_first + row_words * k

start_next : (k : ℕ) → row_start (k + 1) ≡ row_start k + row_words
start_next k = omega arith

-- it stays so with a row more read, and past the last row all of them are read
pub read_more :
    (ws : List ℕ) (rs : List TypeRow) (k : ℕ) →
    k < length rs →
    row_start k + 5 < length ws →
    take (k + 1) (set rs k (row_at ws (row_start k))) ++ rows_of (cells_of (drop (row_start (k + 1)) ws)) ≡ take k rs ++ rows_of (cells_of (drop (row_start k) ws))
read_more ws rs k h g =
    (λ i. take (add-one k i) (set rs k (row_at ws (row_start k))) ++ rows_of (cells_of (drop (start_next k i) ws))) ∙
    ap (λ qs. qs ++ rows_of (cells_of (drop (row_start k + row_words) ws))) (take-suc-set rs k (row_at ws (row_start k)) h) ∙
    append_assoc (take k rs) (row_at ws (row_start k) ∷ []) (rows_of (cells_of (drop (row_start k + row_words) ws))) ∙
    ap (λ qs. take k rs ++ qs) (sym (row_next ws (row_start k) g))

pub read_ends : (ws : List ℕ) (rs : List TypeRow) (k : ℕ) → length rs ≤ k → length ws ≤ row_start k → take k rs ++ rows_of (cells_of (drop (row_start k) ws)) ≡ rs
read_ends ws rs k h g =
    ap (λ us. take k rs ++ rows_of (cells_of us)) (drop_of_length-le ws g) ∙ append-nil (take k rs) ∙ take_all k rs h

-- ---- writing: the words written so far and those still in the rows are all of them

put_cell_lem : (ws : List ℕ) (at : ℕ) (c : Cell) → at + 1 < length ws → take (at + 2) (put_cell ws at c) ≡ take at ws ++ cell_words (c ∷ [])
put_cell_lem ws at c l =
    let x = c.customers.0 in
    let y = c.halves.0 in
    let two : at + 2 ≡ suc (suc at) = omega arith in
    (λ i. take (two i) (set (set ws at x) (add-one at i) y)) ∙
    take-suc-set (set ws at x) (suc at) y (omega (arith, length-set ws at x)) ∙
    ap (λ us. us ++ y ∷ []) (take-suc-set ws at x (omega arith)) ∙
    append_assoc (take at ws) (x ∷ []) (y ∷ [])

-- a store of a cell leaves as many words
pub put_length : (ws : List ℕ) (at : ℕ) (c : Cell) → length (put_cell ws at c) ≡ length ws
put_length ws at c = simp length-set

put_row_lem : (ws : List ℕ) (at : ℕ) (cs : List Cell) → at + 5 < length ws → take (at + row_words) (put_row ws at cs) ≡ take at ws ++ cell_words (get_or cs 0 no_cell ∷ get_or cs 1 no_cell ∷ get_or cs 2 no_cell ∷ [])
put_row_lem ws at cs l =
    let a = get_or cs 0 no_cell in
    let b = get_or cs 1 no_cell in
    let c = get_or cs 2 no_cell in
    let one = put_cell ws at a in
    let two = put_cell one (at + 2) b in
    let l₁ : length one ≡ length ws = put_length ws at a in
    let l₂ : length two ≡ length one = put_length one (at + 2) b in
    let four : at + 2 + 2 ≡ at + 4 = omega arith in
    let six : at + 4 + 2 ≡ at + 6 = omega arith in
    ap (λ k. take k (put_cell two (at + 4) c)) (sym six) ∙
    put_cell_lem two (at + 4) c (omega arith) ∙
    ap (λ k. take k two ++ cell_words (c ∷ [])) (sym four) ∙
    ap (λ us. us ++ cell_words (c ∷ [])) (put_cell_lem one (at + 2) b (omega arith)) ∙
    ap (λ us. (us ++ cell_words (b ∷ [])) ++ cell_words (c ∷ [])) (put_cell_lem ws at a (omega arith)) ∙
    append_assoc (take at ws ++ cell_words (a ∷ [])) (cell_words (b ∷ [])) (cell_words (c ∷ [])) ∙
    append_assoc (take at ws) (cell_words (a ∷ [])) (cell_words (b ∷ c ∷ []))

-- it stays so with a row more written, and past the last row all of them are written
pub write_more :
    (ws : List ℕ) (rs : List TypeRow) (k : ℕ) →
    k < length rs →
    row_start k + 5 < length ws →
    take (row_start (k + 1)) (put_row ws (row_start k) (get_or rs k no_row).levels) ++ cell_words (cells_in (drop (k + 1) rs)) ≡
    take (row_start k) ws ++ cell_words (cells_in (drop k rs))
write_more ws rs k h g =
    let r = get_or rs k no_row in
    let rest = cell_words (cells_in (drop (suc k) rs)) in
    (λ i. take (start_next k i) (put_row ws (row_start k) r.levels) ++ cell_words (cells_in (drop (add-one k i) rs))) ∙
    ap (λ us. us ++ rest) (put_row_lem ws (row_start k) r.levels g) ∙
    append_assoc (take (row_start k) ws) (cell_words (get_or r.levels 0 no_cell ∷ get_or r.levels 1 no_cell ∷ get_or r.levels 2 no_cell ∷ [])) rest ∙
    ap (λ qs. take (row_start k) ws ++ cell_words (cells_in qs)) (sym (drop-cons rs k no_row h))

pub write_ends : (ws : List ℕ) (rs : List TypeRow) (k : ℕ) → length rs ≤ k → length ws ≤ row_start k → take (row_start k) ws ++ cell_words (cells_in (drop k rs)) ≡ ws
write_ends ws rs k h g =
    ap (λ qs. take (row_start k) ws ++ cell_words (cells_in qs)) (drop_of_length-le rs h) ∙ append-nil (take (row_start k) ws) ∙ take_all (row_start k) ws g

-- ---- stores

-- a list of length 0 is empty
pub no_more : (xs : List ℕ) (n : ℕ) → length xs ≡ n → n ≡ 0 → xs ≡ []
no_more [] n e z = refl
no_more (x ∷ xs) n e z = absurd (omega (arith, e, z))

-- two stores to two words
pub pair_set : (out : List ℕ) (x y : ℕ) → length out ≡ 2 → set (set out 0 x) 1 y ≡ x ∷ y ∷ []
pair_set [] x y e = absurd (omega (arith, e))
pair_set (a ∷ []) x y e = absurd (omega (arith, e))
pair_set (a ∷ b ∷ out) x y e = ap (λ us. x ∷ y ∷ us) (no_more out (length out) refl (omega (arith, e)))

-- seven stores to the first seven of a ledger's words
pub seven_set : (ws : List ℕ) (a b c d e f g : ℕ) → length ws ≡ ledger_words → take 7 (set (set (set (set (set (set (set ws 0 a) 1 b) 2 c) 3 d) 4 e) 5 f) 6 g) ≡ a ∷ b ∷ c ∷ d ∷ e ∷ f ∷ g ∷ []
seven_set [] a b c d e f g h = absurd (omega (arith, h))
seven_set (_ ∷ []) a b c d e f g h = absurd (omega (arith, h))
seven_set (_ ∷ _ ∷ []) a b c d e f g h = absurd (omega (arith, h))
seven_set (_ ∷ _ ∷ _ ∷ []) a b c d e f g h = absurd (omega (arith, h))
seven_set (_ ∷ _ ∷ _ ∷ _ ∷ []) a b c d e f g h = absurd (omega (arith, h))
seven_set (_ ∷ _ ∷ _ ∷ _ ∷ _ ∷ []) a b c d e f g h = absurd (omega (arith, h))
seven_set (_ ∷ _ ∷ _ ∷ _ ∷ _ ∷ _ ∷ []) a b c d e f g h = absurd (omega (arith, h))
seven_set (_ ∷ _ ∷ _ ∷ _ ∷ _ ∷ _ ∷ _ ∷ ws) a b c d e f g h = refl

-- ---- words that fit

-- eight tests in a row
each : (a b c d e f g h : Bool) → (a && b && c && d && e && f && g && h) ≡ true →
    (a ≡ true) × (b ≡ true) × (c ≡ true) × (d ≡ true) × (e ≡ true) × (f ≡ true) × (g ≡ true) × (h ≡ true)
each a b c d e f g h t =
    let t₆ = and_left (a && b && c && d && e && f && g) h t in
    let t₅ = and_left (a && b && c && d && e && f) g t₆ in
    let t₄ = and_left (a && b && c && d && e) f t₅ in
    let t₃ = and_left (a && b && c && d) e t₄ in
    let t₂ = and_left (a && b && c) d t₃ in
    let t₁ = and_left (a && b) c t₂ in (
      and_left a b t₁,
      and_right a b t₁,
      and_right (a && b) c t₂,
      and_right (a && b && c) d t₃,
      and_right (a && b && c && d) e t₄,
      and_right (a && b && c && d && e) f t₅,
      and_right (a && b && c && d && e && f) g t₆,
      and_right (a && b && c && d && e && f && g) h t,
    )

-- the test, taken apart
pub fit : (ws : List ℕ) → words_fit ws ≡ true → Fit ws
unfolding words_fit
fit ws e =
    let t = each (eqb (length ws) ledger_words) (leb (word ws 0) 1) (leb (word ws 1) 65535) (leb (word ws 2) 4294967295) (leb (word ws 3) 4294967295) (leb (word ws 4) 4294967295) (leb (word ws 5) 65535) (leb (word ws 6) 65535) e in
    record {
      size = eqb-true (length ws) ledger_words t.0;
      flag = leb-true (word ws 0) 1 t.1;
      year = leb-true (word ws 1) 65535 t.2;
      nn = leb-true (word ws 2) 4294967295 t.3;
      vn = leb-true (word ws 3) 4294967295 t.4;
      vvn = leb-true (word ws 4) 4294967295 t.5;
      events = leb-true (word ws 5) 65535 t.6;
      short = leb-true (word ws 6) 65535 t.7;
    }

-- and put together
pub fits : (ws : List ℕ) → Fit ws → words_fit ws ≡ true
unfolding words_fit
fits ws w =
    rw (eq-eqb (length ws) ledger_words w.size, le-leb (word ws 0) 1 w.flag, le-leb (word ws 1) 65535 w.year, le-leb (word ws 2) 4294967295 w.nn, le-leb (word ws 3) 4294967295 w.vn, le-leb (word ws 4) 4294967295 w.vvn, le-leb (word ws 5) 65535 w.events, le-leb (word ws 6) 65535 w.short)
