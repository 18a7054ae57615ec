-- What an entry whose kind is any number stands for is what one of the sort stands for that the number is taken for (`Sort::from`). Assumes nothing.
use Rattle.std.specs.Prelude.{ℕ, not, cond}
use mathlib.Core.Path.{◌≡◌, refl}
use mathlib.Core.List.{List, []}
use lib.ListN.{take}
use Rattle.text_items.specs.Sorts.{sort_number, sort_of}
use Rattle.text_items.proofs.SortLaws.{by_sort, whole_of_any}
use Rattle.pack.specs.Pack.{packed_as, packed_of}

pub packed_as_any : (vs : List ℕ) (n : ℕ) → packed_as (sort_number (sort_of n)) vs ≡ packed_as n vs
unfolding packed_as
packed_as_any vs = by_sort (λ m n. packed_as m vs ≡ packed_as n vs) refl refl refl refl (λ n a b c d. rw a (rw b (rw c refl)))

pub packed_of_any : (count : ℕ) (values : List ℕ) (n : ℕ) →
    packed_of record { kind = sort_number (sort_of n); count = count; values = values } ≡ packed_of record { kind = n; count = count; values = values }
unfolding packed_of
packed_of_any count values n = λ i. cond (not (whole_of_any count n i)) [] (packed_as_any (take count values) n i)
