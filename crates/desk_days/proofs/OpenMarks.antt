-- A map in which the numbers of a desk are marked, and what becomes of it where one number comes or goes. Marking does not depend on the order, and
-- 0 marks nothing. Assumes nothing.
use Prim.Native.Nat.{ℕ, zero, suc, ◌<◌}
use mathlib.Core.Path.{◌≡◌, refl, ap, ◌∙◌, sym}
use mathlib.Core.Logic.{◌≢◌}
use mathlib.Core.List.{List, [], ◌∷◌}
use mathlib.Core.Bool.{true, false, true≢false}
use lib.ListN.{length, get_or, set}
use native.Mathlib.Decide.{ℕ_discrete}
use native.Mathlib.Nat.{not-suc-le-zero, le_of_suc-le-suc}
use Rattle.base.specs.Lists.{All}
use Rattle.base.proofs.TestLaws.{Tested, holds, fails, test}
use Rattle.used_numbers.specs.Marks.{marked, marked_with}
use Rattle.used_numbers.proofs.MarkLaws.{marked_with_zero, marked_with_again, marked_with_size, marked_with_other, marked_with_comm}
use Rattle.desk_days.specs.Story.{marked_all}

-- a map keeps its size where numbers are marked
pub all_size : (m vs : List ℕ) → length (marked_all m vs) ≡ length m
all_size m [] = refl
all_size m (v ∷ vs) = marked_with_size (marked_all m vs) v ∙ all_size m vs

-- a number that is not among them
pub all_other : (m vs : List ℕ) (w : ℕ) → ((i : ℕ) → get_or vs i 0 ≢ w) → marked (marked_all m vs) w ≡ marked m w
all_other m [] w n = refl
all_other m (v ∷ vs) w n = marked_with_other (marked_all m vs) v w (n 0) ∙ all_other m vs w (λ i. n (suc i))

-- one that was marked before stays so
pub still_marked : (m : List ℕ) (v w : ℕ) → marked m w ≡ true → marked (marked_with m v) w ≡ true
still_marked m v w e = go (ℕ_discrete v w)
  where
    go : Dec (v ≡ w) → marked (marked_with m v) w ≡ true
    go (yes q) = ap (λ (n : List ℕ). marked n w) (marked_with_again m v (ap (marked m) q ∙ e)) ∙ e
    go (no n) = marked_with_other m v w n ∙ e

pub still_all : (m vs : List ℕ) (w : ℕ) → marked m w ≡ true → marked (marked_all m vs) w ≡ true
still_all m [] w e = e
still_all m (v ∷ vs) w e = still_marked (marked_all m vs) v w (still_all m vs w e)

-- one that is not marked with them was not marked without
pub not_before : (m vs : List ℕ) (w : ℕ) → marked (marked_all m vs) w ≡ false → marked m w ≡ false
not_before m vs w e = go (test (marked m w))
  where
    go : Tested (marked m w) → marked m w ≡ false
    go (holds t) = absurd (true≢false (sym (still_all m vs w t) ∙ e))
    go (fails t) = t

-- a further number may be marked first or last
pub all_through : (m vs : List ℕ) (w : ℕ) → marked_all (marked_with m w) vs ≡ marked_with (marked_all m vs) w
all_through m [] w = refl
all_through m (v ∷ vs) w = ap (λ n. marked_with n v) (all_through m vs w) ∙ marked_with_comm (marked_all m vs) w v

-- a number comes to a place that had none
pub all_in : (m vs : List ℕ) (i w : ℕ) → i < length vs → get_or vs i 0 ≡ 0 → marked_all m (set vs i w) ≡ marked_with (marked_all m vs) w
all_in m [] i w l e = absurd (not-suc-le-zero l)
all_in m (v ∷ vs) zero w l e = ap (λ n. marked_with n w) (sym (ap (marked_with (marked_all m vs)) e ∙ marked_with_zero (marked_all m vs)))
all_in m (v ∷ vs) (suc i) w l e = ap (λ n. marked_with n v) (all_in m vs i w (le_of_suc-le-suc l) e) ∙ marked_with_comm (marked_all m vs) w v

-- a number leaves its place, and is marked before the others
pub all_out : (m vs : List ℕ) (i w : ℕ) → i < length vs → get_or vs i 0 ≡ w → marked_all (marked_with m w) (set vs i 0) ≡ marked_all m vs
all_out m [] i w l e = absurd (not-suc-le-zero l)
all_out m (v ∷ vs) zero w l e = marked_with_zero (marked_all (marked_with m w) vs) ∙ all_through m vs w ∙ ap (marked_with (marked_all m vs)) (sym e)
all_out m (v ∷ vs) (suc i) w l e = ap (λ n. marked_with n v) (all_out m vs i w (le_of_suc-le-suc l) e)

-- zeros alone leave the map as it is
pub all_none : (m vs : List ℕ) → All (λ v. v ≡ 0) vs → marked_all m vs ≡ m
all_none m [] a = refl
all_none m (v ∷ vs) a = ap (marked_with (marked_all m vs)) a.0 ∙ marked_with_zero (marked_all m vs) ∙ all_none m vs a.1
