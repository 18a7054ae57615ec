-- The line of an entry whose kind is any number is that of the sort that the number is taken for (`Sort::from`). Assumes nothing.
use Prim.Native.Nat.{ℕ, ◌+◌}
use mathlib.Core.Path.{◌≡◌, refl}
use mathlib.Core.List.{List, [], ◌∷◌, ◌++◌}
use lib.ListN.{take}
use Rattle.text_items.specs.Sorts.{sort_number, sort_of}
use Rattle.text_items.proofs.SortLaws.{by_sort, item_of_any, bar_before_any}
use Rattle.text_parse.specs.Entry.{word_text}
use Rattle.text_write.specs.Line.{item_text, gap_text, items_text, line_of}

pub word_text_any : (n : ℕ) → word_text (sort_number (sort_of n)) ≡ word_text n
word_text_any = by_sort (λ m n. word_text m ≡ word_text n) refl refl refl refl (λ n a b c d. rw a (rw b (rw c (rw d refl))))

pub gap_text_any : (k n : ℕ) → gap_text (sort_number (sort_of n)) k ≡ gap_text n k
unfolding gap_text
gap_text_any k n = rw (bar_before_any k n) refl

pub items_text_any : (year n k : ℕ) (vs : List ℕ) → items_text (sort_number (sort_of n)) year k vs ≡ items_text n year k vs
items_text_any year n k [] = refl
items_text_any year n k (v ∷ vs) = λ i. gap_text_any k n i ++ (item_text (item_of_any k n i) year v ++ items_text_any year n (k + 1) vs i)

pub line_of_any : (count : ℕ) (values : List ℕ) (year n : ℕ) →
    line_of record { kind = sort_number (sort_of n); count = count; values = values } year ≡ line_of record { kind = n; count = count; values = values } year
line_of_any count values year n = λ i. word_text_any n i ++ items_text_any year n 0 (take count values) i
