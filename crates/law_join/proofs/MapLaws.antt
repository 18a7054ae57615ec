-- Which numbers a map marks once events are taken: those it marked before, and the numbers of the events that it has a bit for. So two lists of events,
-- one after the other, mark what either marks. Assumes nothing.
use Prim.Native.Nat.{ℕ, ◌≤◌}
use mathlib.Core.Path.{◌≡◌, sym, ap, ◌∙◌}
use mathlib.Core.List.{List, [], ◌∷◌, ◌++◌}
use mathlib.Core.Bool.{Bool, ◌&&◌, ◌||◌, not, or-false, or-true, or_assoc}
use lib.ListN.{length, length-replicate}
use lib.Dec.{eqb, ltb}
use native.Mathlib.Omega.{arith}
use borrow.Author.Tests.{eqb-true, eqb-false, ltb-true, ltb-false}
use Rattle.base.specs.Lists.{any}
use Rattle.base.proofs.TestLaws.{Tested, holds, fails, test}
use Rattle.base.proofs.ListLaws.{any_append}
use Rattle.used_numbers.specs.Marks.{marked, marked_with, map_size}
use Rattle.used_numbers.proofs.MarkLaws.{marked_with_zero, marked_with_same, marked_with_other, marked_with_past, marked_with_size}
use Rattle.law_sums.specs.Accepted.{zero_map, number_in, all_marked}
use Rattle.law_sums.proofs.StateLaws.{zero_unmarked}

-- marking the number n marks v
abbrev hits : ℕ → ℕ → Bool
hits v n = eqb n v && (not (eqb n 0) && ltb n 65536)

mark_one : (m : List ℕ) (v n : ℕ) → length m ≡ map_size → marked (marked_with m n) v ≡ (marked m v || hits v n)
mark_one m v n size = go (test (eqb n v)) (test (eqb n 0)) (test (ltb n 65536))
  where
    go : Tested (eqb n v) → Tested (eqb n 0) → Tested (ltb n 65536) → marked (marked_with m n) v ≡ (marked m v || hits v n)
    go (fails e) z l = rw e (marked_with_other m n v (eqb-false n v e) ∙ sym (or-false (marked m v)))
    go (holds e) (holds z) l =
        rw (e, z) (ap (λ (k : ℕ). marked (marked_with m k) v) (eqb-true n 0 z) ∙ ap (λ (t : List ℕ). marked t v) (marked_with_zero m) ∙ sym (or-false (marked m v)))
    go (holds e) (fails z) (holds l) =
        rw (e, z, l) (
        ap (λ (k : ℕ). marked (marked_with m n) k) (sym (eqb-true n v e)) ∙
        marked_with_same m n size (ltb-true n 65536 l) (eqb-false n 0 z) ∙
        sym (or-true (marked m v))
        )
    go (holds e) (fails z) (fails l) =
        let past : 65536 ≤ n = ltb-false n 65536 l in
        rw (e, z, l) (ap (λ (t : List ℕ). marked t v) (marked_with_past m n (omega arith)) ∙ sym (or-false (marked m v)))

mark_all :
    (m : List ℕ) (v : ℕ) (ss : List (List ℕ)) →
    length m ≡ map_size →
    marked (all_marked m ss) v ≡ (marked m v || any (λ (s : List ℕ). hits v (number_in s)) ss)
mark_all m v [] size = sym (or-false (marked m v))
mark_all m v (s ∷ ss) size =
    let rest : Bool = any (λ (s : List ℕ). hits v (number_in s)) ss in
    mark_all (marked_with m (number_in s)) v ss (marked_with_size m (number_in s) ∙ size) ∙
    ap (λ (t : Bool). t || rest) (mark_one m v (number_in s) size) ∙
    or_assoc (marked m v) (hits v (number_in s)) rest

-- from the all-zero map, which marks nothing
from_zero : (v : ℕ) (ss : List (List ℕ)) → marked (all_marked zero_map ss) v ≡ any (λ (s : List ℕ). hits v (number_in s)) ss
from_zero v ss = mark_all zero_map v ss (length-replicate {A = ℕ} map_size 0) ∙ ap (λ (t : Bool). t || any (λ (s : List ℕ). hits v (number_in s)) ss) (zero_unmarked v)

-- from the all-zero map, two lists of events one after the other mark just the numbers that either marks
pub marks_append :
    (v : ℕ) (xs ys : List (List ℕ)) →
    marked (all_marked zero_map (xs ++ ys)) v ≡ (marked (all_marked zero_map xs) v || marked (all_marked zero_map ys) v)
marks_append v xs ys =
    from_zero v (xs ++ ys) ∙ any_append (λ (s : List ℕ). hits v (number_in s)) xs ys ∙ (λ i. sym (from_zero v xs) i || sym (from_zero v ys) i)
