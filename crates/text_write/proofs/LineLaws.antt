-- The items of a line from a place on, one at a time, and how long a line is at most. Assumes nothing.
use Prim.Native.Nat.{ℕ, zero, suc, ◌+◌, ◌*◌, ◌/◌, ◌%◌, ◌^◌, ◌<◌, ◌≤◌, min}
use mathlib.Core.Path.{◌≡◌, refl, sym, ap, ◌∙◌}
use mathlib.Core.Bool.{Bool, true, false, cond}
use mathlib.Core.List.{List, [], ◌∷◌, ◌++◌}
use lib.ListN.{length, take, drop, get_or, length-take, length-append, drop_of_length-le}
use lib.Dec.{eqb, ltb, leb}
use lib.Seq.{drop-cons}
use native.Mathlib.Omega.{arith}
use native.Mathlib.Numerals.{add-one}
use borrow.Author.Tests.{ltb-true, ltb-false}
use Rattle.annex.specs.Times.{minutes_in}
use Rattle.base.proofs.TestLaws.{Tested, holds, fails, test}
use Rattle.text.specs.Text.{number_text}
use Rattle.text.proofs.TextLaws.{tenth_below, number_ends, number_unrolls}
use Rattle.pen.specs.declared.Pen.{Pen}
use Rattle.pen.specs.Pen.{inked, hex_text}
use Rattle.pen.proofs.PenLaws.{inked_append}
use Rattle.text_items.specs.Entry.{Entry}
use Rattle.text_items.specs.Shape.{item_of, bar_before}
use Rattle.text_parse.specs.Entry.{word_text}
use Rattle.text_write.specs.Line.{date_text, time_text, item_text, gap_text, items_text, entry_items, line_of}

-- the k-th item with its gap, and those behind it, one written after the other
pub item_on :
    (p : Pen) (kind year k : ℕ) (vs : List ℕ) →
    k < length vs →
    inked p (items_text kind year k (drop k vs)) ≡
    inked (inked (inked p (gap_text kind k)) (item_text (item_of kind k) year (get_or vs k 0))) (items_text kind year (k + 1) (drop (k + 1) vs))
item_on p kind year k vs h =
    let g : List ℕ = gap_text kind k in
    let w : List ℕ = item_text (item_of kind k) year (get_or vs k 0) in
    let rest : List ℕ = items_text kind year (k + 1) (drop (k + 1) vs) in
    let next : items_text kind year k (drop k vs) ≡ g ++ (w ++ rest) = rw (drop-cons vs k 0 h, add-one) refl in
    ap (inked p) next ∙ sym (inked_append p g (w ++ rest)) ∙ sym (inked_append (inked p g) w rest)

-- past the last item nothing is left
pub items_end : (p : Pen) (kind year k : ℕ) (vs : List ℕ) → length vs ≤ k → inked p (items_text kind year k (drop k vs)) ≡ p
items_end p kind year k vs h = ap (λ (l : List ℕ). inked p (items_text kind year k l)) (drop_of_length-le vs h)

-- How long a line is at most.

one_of_two : (b : Bool) (x y : List ℕ) (n : ℕ) → length x ≤ n → length y ≤ n → length (cond b x y) ≤ n
one_of_two true x y n h l = h
one_of_two false x y n h l = l

-- a number below ten to the (k + 1)-th has at most k + 1 digits
number_within : (k n : ℕ) → n < 10 ^ suc k → n < 10 ^ 20 → length (number_text n) ≤ suc k
number_within zero n h l = rw (number_ends n h) (omega arith)
number_within (suc k) n h l = go (number_within k (n / 10) (tenth_below n (suc k) h) (omega arith)) (test (ltb n 10))
  where
    go : length (number_text (n / 10)) ≤ suc k → Tested (ltb n 10) → length (number_text n) ≤ suc (suc k)
    go fewer (holds e) = rw (number_ends n (ltb-true n 10 e)) (omega arith)
    go fewer (fails e) = rw (number_unrolls n (ltb-false n 10 e) l, length-append (number_text (n / 10)) ((48 + n % 10) ∷ [])) (omega arith)

-- a number of 32 bits has at most 10 bytes, a date exactly 11, any item of 32 bits at most 11, a gap at most 3, a word at most 7
pub number_short : (n : ℕ) → n < 4294967296 → length (number_text n) ≤ 10
number_short n h = number_within 9 n (omega arith) (omega arith)

pub date_short : (year t : ℕ) → length (date_text year t) ≡ 11
unfolding date_text
date_short year t = refl

pub time_short : (year t : ℕ) → t < 4294967296 → length (time_text year t) ≤ 11
unfolding time_text
time_short year t h =
    let number : length (number_text t) ≤ 11 = omega (arith, number_short t h) in
    let date : length (date_text year t) ≤ 11 = omega (arith, date_short year t) in
    one_of_two (eqb year 0) (number_text t) (cond (leb (minutes_in year) t) (number_text t) (date_text year t)) 11 number (one_of_two (leb (minutes_in year) t) (number_text t) (date_text year t) 11 number date)

pub item_short : (item year v : ℕ) → v < 4294967296 → length (item_text item year v) ≤ 11
unfolding item_text
item_short item year v h =
    let number : length (number_text v) ≤ 11 = omega (arith, number_short v h) in
    one_of_two (eqb item 4) (time_text year v) (cond (eqb item 5) (hex_text v) (number_text v)) 11 (time_short year v h) (one_of_two (eqb item 5) (hex_text v) (number_text v) 11 (omega arith) number)

pub gap_short : (kind k : ℕ) → length (gap_text kind k) ≤ 3
unfolding gap_text
gap_short kind k = one_of_two (bar_before kind k) (32 ∷ 124 ∷ 32 ∷ []) (32 ∷ []) 3 (omega arith) (omega arith)

pub word_short : (kind : ℕ) → length (word_text kind) ≤ 7
word_short kind =
    one_of_two (eqb kind 1) _ _ 7 (omega arith)
    (one_of_two (eqb kind 2) _ _ 7 (omega arith)
    (one_of_two (eqb kind 3) _ _ 7 (omega arith)
    (one_of_two (eqb kind 4) _ _ 7 (omega arith) (omega arith))))

-- so items of 32 bits have at most 14 bytes each, their gaps included
pub items_short : (kind year k : ℕ) (vs : List ℕ) → ((i : ℕ) → get_or vs i 0 < 4294967296) → length (items_text kind year k vs) ≤ 14 * length vs
items_short kind year k [] h = omega arith
items_short kind year k (v ∷ vs) h =
    let w : List ℕ = item_text (item_of kind k) year v in
    let rest : List ℕ = items_text kind year (k + 1) vs in
    let others : length rest ≤ 14 * length vs = items_short kind year (k + 1) vs (λ i. h (suc i)) in
    rw (length-append (gap_text kind k) (w ++ rest), length-append w rest) (omega (arith, gap_short kind k, item_short (item_of kind k) year v (h 0)))

taken_below : (n : ℕ) (l : List ℕ) → ((i : ℕ) → get_or l i 0 < 4294967296) → (i : ℕ) → get_or (take n l) i 0 < 4294967296
taken_below zero l h i = omega arith
taken_below (suc n) [] h i = omega arith
taken_below (suc n) (x ∷ l) h zero = h 0
taken_below (suc n) (x ∷ l) h (suc i) = taken_below n l (λ j. h (suc j)) i

-- 4,096 bytes are room for every line, as an entry has 261 numbers of 32 bits each
pub line_short : (e : Entry) (year : ℕ) → length e.values ≡ 261 → ((i : ℕ) → get_or e.values i 0 < 4294967296) → length (line_of e year) ≤ 4096
line_short e year all below =
    let vs : List ℕ = take e.count e.values in
    let long : length vs ≡ min e.count (length e.values) = length-take e.count e.values in
    let items : length (entry_items e year) ≤ 14 * length vs = items_short e.kind year 0 vs (taken_below e.count e.values below) in
    rw (length-append (word_text e.kind) (entry_items e year)) (omega (arith, word_short e.kind))
