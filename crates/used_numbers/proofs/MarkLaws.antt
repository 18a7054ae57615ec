-- What marking a number does to the map: to this number, to the others, and in either order. Assumes nothing.
use Prim.Native.Nat.{ℕ, zero, suc, ◌+◌, ◌/◌, ◌%◌, ◌^◌, ◌<◌, ◌≤◌}
use mathlib.Core.Path.{◌≡◌, refl, ap, ◌∙◌, sym}
use mathlib.Core.List.{List, [], ◌∷◌}
use mathlib.Core.Bool.{Bool, true, false, cond}
use mathlib.Core.Logic.{◌≢◌}
use lib.ListN.{length, get_or, set, length-set}
use lib.Seq.{get_or-set_same, get_or-set_other, set-get_or, set_comm, set_out}
use lib.Dec.{eqb}
use native.Mathlib.Omega.{arith}
use native.Mathlib.Decide.{ℕ_discrete}
use borrow.Author.Tests.{ne_eqb}
use Rattle.used_numbers.specs.Marks.{bit_of, with_bit, marked, marking, marked_with, map_size}
use Rattle.used_numbers.proofs.BitLaws.{unset_bit_fits, bit_same, bit_other, bit_comm}

pub marking_size : (m : List ℕ) (v : ℕ) → length (marking m v) ≡ length m
unfolding marking
marking_size m v = length-set m (v / 8) _

-- a number whose byte lies past the map marks nothing
pub marking_past : (m : List ℕ) (v : ℕ) → length m ≤ v / 8 → marking m v ≡ m
unfolding marking
marking_past m v l = set_out m (v / 8) _ l

-- what code does: on an unmarked number it adds the bit, on a marked one nothing
marking_by_test : (m : List ℕ) (v : ℕ) (t : Bool) → marked m v ≡ t → marking m v ≡ set m (v / 8) (cond t (get_or m (v / 8) 0) (get_or m (v / 8) 0 + 2 ^ (v % 8)))
unfolding marking marked
marking_by_test m v t e = ap (λ t. set m (v / 8) (cond t (get_or m (v / 8) 0) (get_or m (v / 8) 0 + 2 ^ (v % 8)))) e

pub marking_adds : (m : List ℕ) (v : ℕ) → marked m v ≡ false → marking m v ≡ set m (v / 8) (get_or m (v / 8) 0 + 2 ^ (v % 8))
marking_adds m v e = marking_by_test m v false e

pub marking_again : (m : List ℕ) (v : ℕ) → marked m v ≡ true → marking m v ≡ m
marking_again m v e = marking_by_test m v true e ∙ set-get_or m (v / 8) 0

-- the sum is a byte, where the map has bytes
pub marking_fits : (m : List ℕ) (v : ℕ) → get_or m (v / 8) 0 < 256 → marked m v ≡ false → get_or m (v / 8) 0 + 2 ^ (v % 8) < 256
unfolding marked
marking_fits m v l e = unset_bit_fits (get_or m (v / 8) 0) (v % 8) l (omega arith) e

-- in a map of 8,192 bytes a number below 65,536 is marked once it was marked
pub marking_same : (m : List ℕ) (v : ℕ) → length m ≡ map_size → v < 65536 → marked (marking m v) v ≡ true
unfolding marking marked
marking_same m v l f =
    ap (λ b. bit_of b (v % 8)) (get_or-set_same m (v / 8) (with_bit (get_or m (v / 8) 0) (v % 8)) 0 (omega arith)) ∙
    bit_same (get_or m (v / 8) 0) (v % 8)

-- two numbers in one byte are two bits
two_bits : (v w : ℕ) → v ≢ w → v / 8 ≡ w / 8 → w % 8 ≢ v % 8
two_bits v w d e f = d (omega arith)

-- whether another number is marked stays as it was
pub marking_other : (m : List ℕ) (v w : ℕ) → v ≢ w → marked (marking m v) w ≡ marked m w
unfolding marking marked
marking_other m v w d = go (ℕ_discrete (w / 8) (v / 8))
  where
    here : (i j k : ℕ) → j ≢ k → (l : List ℕ) → bit_of (get_or (set l i (with_bit (get_or l i 0) k)) i 0) j ≡ bit_of (get_or l i 0) j
    here i j k r [] = refl
    here zero j k r (b ∷ l) = bit_other b k j r
    here (suc i) j k r (b ∷ l) = here i j k r l

    go : Dec (w / 8 ≡ v / 8) → bit_of (get_or (set m (v / 8) (with_bit (get_or m (v / 8) 0) (v % 8))) (w / 8) 0) (w % 8) ≡ bit_of (get_or m (w / 8) 0) (w % 8)
    go (yes e) = rw e (here (v / 8) (w % 8) (v % 8) (two_bits v w d (sym e)) m)
    go (no n) = ap (λ b. bit_of b (w % 8)) (get_or-set_other m (v / 8) (w / 8) _ 0 n)

-- two numbers marked in either order give the same map
pub marking_comm : (m : List ℕ) (v w : ℕ) → marking (marking m v) w ≡ marking (marking m w) v
unfolding marking
marking_comm m v w = go (ℕ_discrete v w)
  where
    put : ℕ → ℕ → List ℕ → List ℕ
    put i k l = set l i (with_bit (get_or l i 0) k)

    here : (i k j : ℕ) → j ≢ k → (l : List ℕ) → put i j (put i k l) ≡ put i k (put i j l)
    here i k j r [] = refl
    here zero k j r (b ∷ l) = ap (λ x. x ∷ l) (bit_comm b k j r)
    here (suc i) k j r (b ∷ l) = ap (λ x. b ∷ x) (here i k j r l)

    apart : (i k g j : ℕ) → g ≢ i → (l : List ℕ) → put g j (put i k l) ≡ put i k (put g j l)
    apart i k g j d l =
        ap (λ x. set (put i k l) g (with_bit x j)) (get_or-set_other l i g _ 0 d) ∙
        set_comm l i g _ _ (λ e. d (sym e)) ∙
        sym (ap (λ x. set (put g j l) i (with_bit x k)) (get_or-set_other l g i _ 0 (λ e. d (sym e))))

    two : v ≢ w → Dec (w / 8 ≡ v / 8) → put (w / 8) (w % 8) (put (v / 8) (v % 8) m) ≡ put (v / 8) (v % 8) (put (w / 8) (w % 8) m)
    two d (yes e) = rw e (here (v / 8) (v % 8) (w % 8) (two_bits v w d (sym e)) m)
    two d (no n) = apart (v / 8) (v % 8) (w / 8) (w % 8) n m

    go : Dec (v ≡ w) → put (w / 8) (w % 8) (put (v / 8) (v % 8) m) ≡ put (v / 8) (v % 8) (put (w / 8) (w % 8) m)
    go (yes e) = rw e
    go (no n) = two n (ℕ_discrete (w / 8) (v / 8))

-- number 0 marks nothing, and any other number is marked as above
pub marked_with_zero : (m : List ℕ) → marked_with m 0 ≡ m
unfolding marked_with
marked_with_zero m = refl

pub marked_with_number : (m : List ℕ) (v : ℕ) → v ≢ 0 → marked_with m v ≡ marking m v
unfolding marked_with
marked_with_number m v z = ap (λ t. cond t m (marking m v)) (ne_eqb v 0 z)

-- what holds of the map, and of the map with the number marked
marked_with_either : (P : List ℕ → Type 0) (m : List ℕ) (v : ℕ) → P m → P (marking m v) → P (marked_with m v)
unfolding marked_with
marked_with_either P m v p q = go (eqb v 0)
  where
    go : (t : Bool) → P (cond t m (marking m v))
    go true = p
    go false = q

-- the laws of `marking` hold of it too; that a bit is added, and that the number is then marked, of numbers other than 0
pub marked_with_past : (m : List ℕ) (v : ℕ) → length m ≤ v / 8 → marked_with m v ≡ m
marked_with_past m v l = marked_with_either (λ n. n ≡ m) m v refl (marking_past m v l)

pub marked_with_again : (m : List ℕ) (v : ℕ) → marked m v ≡ true → marked_with m v ≡ m
marked_with_again m v e = marked_with_either (λ n. n ≡ m) m v refl (marking_again m v e)

pub marked_with_adds : (m : List ℕ) (v : ℕ) → v ≢ 0 → marked m v ≡ false → marked_with m v ≡ set m (v / 8) (get_or m (v / 8) 0 + 2 ^ (v % 8))
marked_with_adds m v z e = marked_with_number m v z ∙ marking_adds m v e

pub marked_with_size : (m : List ℕ) (v : ℕ) → length (marked_with m v) ≡ length m
marked_with_size m v = marked_with_either (λ n. length n ≡ length m) m v refl (marking_size m v)

pub marked_with_same : (m : List ℕ) (v : ℕ) → length m ≡ map_size → v < 65536 → v ≢ 0 → marked (marked_with m v) v ≡ true
marked_with_same m v l f z = ap (λ n. marked n v) (marked_with_number m v z) ∙ marking_same m v l f

pub marked_with_other : (m : List ℕ) (v w : ℕ) → v ≢ w → marked (marked_with m v) w ≡ marked m w
marked_with_other m v w d = marked_with_either (λ n. marked n w ≡ marked m w) m v refl (marking_other m v w d)

pub marked_with_comm : (m : List ℕ) (v w : ℕ) → marked_with (marked_with m v) w ≡ marked_with (marked_with m w) v
marked_with_comm m zero w = ap (λ n. marked_with n w) (marked_with_zero m) ∙ sym (marked_with_zero (marked_with m w))
marked_with_comm m (suc v) zero = marked_with_zero (marked_with m (suc v)) ∙ ap (λ n. marked_with n (suc v)) (sym (marked_with_zero m))
marked_with_comm m (suc v) (suc w) = both (suc v) (suc w) (suc_ne v) (suc_ne w) ∙ marking_comm m (suc v) (suc w) ∙ sym (both (suc w) (suc v) (suc_ne w) (suc_ne v))
  where
    suc_ne : (a : ℕ) → suc a ≢ 0
    suc_ne a e = omega arith

    both : (a b : ℕ) → a ≢ 0 → b ≢ 0 → marked_with (marked_with m a) b ≡ marking (marking m a) b
    both a b y z = marked_with_number (marked_with m a) b z ∙ ap (λ n. marking n b) (marked_with_number m a y)
