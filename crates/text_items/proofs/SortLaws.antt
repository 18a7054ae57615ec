-- A sort of line or of item is told by its number, and an entry by what it says in numbers. Assumes nothing.
use Rattle.std.specs.Prelude.{ℕ, ◌≡◌, false, cond, eqb}
use mathlib.Core.Path.{refl, ap, sym, ◌∙◌, subst⁻¹}
use borrow.Author.Tests.{eqb-true}
use Rattle.base.proofs.TestLaws.{Tested, holds, fails, test}
use Rattle.text_items.specs.Shape.{event_item, item_of, most_of, whole_of, bar_before}
use Rattle.text_items.specs.Entry.{Entry}
use Rattle.text_items.specs.Sorts.{sort_number, item_number, entry_in, sort_of, item_named}
use Rattle.text_items.specs.declared.Entry.{Entry as CodeEntry}
use Rattle.text_items.specs.declared.Sort.{Sort}
use Rattle.text_items.specs.declared.Sort.TheVariants.{Blank, Sheet, Simple, Stepped, Hex}
use Rattle.text_items.specs.declared.Item.{Item}
use Rattle.text_items.specs.declared.Item.TheVariants.{Byte, Pair, Count, Time, Digits}

sort_back : (s : Sort) → sort_of (sort_number s) ≡ s
sort_back Blank = refl
sort_back Sheet = refl
sort_back Simple = refl
sort_back Stepped = refl
sort_back Hex = refl

pub same_sort : (s t : Sort) → sort_number s ≡ sort_number t → s ≡ t
same_sort s t same = sym (sort_back s) ∙ ap sort_of same ∙ sort_back t

item_back : (i : Item) → item_named (item_number i) ≡ i
item_back Byte = refl
item_back Pair = refl
item_back Count = refl
item_back Time = refl
item_back Digits = refl

pub same_item : (i j : Item) → item_number i ≡ item_number j → i ≡ j
same_item i j same = sym (item_back i) ∙ ap item_named same ∙ item_back j

pub same_entry : (e f : CodeEntry) → entry_in e ≡ entry_in f → e ≡ f
same_entry e f same =
    let kind : e.kind ≡ f.kind = same_sort e.kind f.kind (ap (λ (t : Entry). t.kind) same) in
    λ i. record { kind = kind i; count = (same i).count; values = (same i).values }

-- ---- numbers that name no sort: what is asked of the sort that they are taken for is what is asked of them

pub by_sort :
    (P : ℕ → ℕ → Type 0) → P 1 1 → P 2 2 → P 3 3 → P 4 4 →
    ((n : ℕ) → eqb n 1 ≡ false → eqb n 2 ≡ false → eqb n 3 ≡ false → eqb n 4 ≡ false → P 0 n) →
    (n : ℕ) → P (sort_number (sort_of n)) n
by_sort P p1 p2 p3 p4 other n = one (test (eqb n 1))
  where
    P' : Sort → Type 0
    P' s = P (sort_number s) n

    four : eqb n 1 ≡ false → eqb n 2 ≡ false → eqb n 3 ≡ false → Tested (eqb n 4) → P' (cond (eqb n 4) Hex Blank)
    four a b c (holds d) = rw d (subst⁻¹ (λ m. P 4 m) (eqb-true n 4 d) p4)
    four a b c (fails d) = rw d (other n a b c d)

    three : eqb n 1 ≡ false → eqb n 2 ≡ false → Tested (eqb n 3) → P' (cond (eqb n 3) Stepped (cond (eqb n 4) Hex Blank))
    three a b (holds c) = rw c (subst⁻¹ (λ m. P 3 m) (eqb-true n 3 c) p3)
    three a b (fails c) = rw c (four a b c (test (eqb n 4)))

    two : eqb n 1 ≡ false → Tested (eqb n 2) → P' (cond (eqb n 2) Simple (cond (eqb n 3) Stepped (cond (eqb n 4) Hex Blank)))
    two a (holds b) = rw b (subst⁻¹ (λ m. P 2 m) (eqb-true n 2 b) p2)
    two a (fails b) = rw b (three a b (test (eqb n 3)))

    one : Tested (eqb n 1) → P' (sort_of n)
    one (holds a) = rw a (subst⁻¹ (λ m. P 1 m) (eqb-true n 1 a) p1)
    one (fails a) = rw a (two a (test (eqb n 2)))

pub item_of_any : (k n : ℕ) → item_of (sort_number (sort_of n)) k ≡ item_of n k
unfolding item_of event_item
item_of_any k = by_sort (λ m n. item_of m k ≡ item_of n k) refl refl refl refl (λ n a b c d. rw d (rw a (rw b refl)))

pub most_of_any : (n : ℕ) → most_of (sort_number (sort_of n)) ≡ most_of n
unfolding most_of
most_of_any = by_sort (λ m n. most_of m ≡ most_of n) refl refl refl refl (λ n a b c d. rw a (rw b (rw c (rw d refl))))

pub whole_of_any : (count n : ℕ) → whole_of (sort_number (sort_of n)) count ≡ whole_of n count
unfolding whole_of most_of
whole_of_any count = by_sort (λ m n. whole_of m count ≡ whole_of n count) refl refl refl refl (λ n a b c d. rw c (rw d (rw a (rw b refl))))

pub bar_before_any : (k n : ℕ) → bar_before (sort_number (sort_of n)) k ≡ bar_before n k
unfolding bar_before
bar_before_any k = by_sort (λ m n. bar_before m k ≡ bar_before n k) refl refl refl refl (λ n a b c d. rw a (rw d (rw b refl)))
