-- A line of bytes put together one byte after the other: those taken, and zeros past them. Assumes nothing.
use Prim.Native.Nat.{ℕ, suc, ◌+◌, ◌-◌, ◌<◌, ◌≤◌, min}
use mathlib.Core.Path.{◌≡◌, sym, ap, ◌∙◌}
use mathlib.Core.List.{List, [], ◌∷◌, ◌++◌}
use lib.ListN.{length, take, get_or, set, replicate}
use lib.Seq.{set-append_seam, append_snoc, take-suc, take_all, length-take-le}
use lib.Dec.{leb}
use native.Mathlib.Omega.{arith}
use borrow.Author.Tests.{leb-true, leb-false}
use Rattle.base.proofs.TestLaws.{Tested, holds, fails, test}
use Rattle.text_items.specs.Shape.{entry_of}
use Rattle.unpack.specs.Unpack.{bytes_entry}

module _ (s : List ℕ) where
  -- the numbers after k bytes
  abbrev pub begun : ℕ → List ℕ
  begun k = take k s ++ replicate (261 - k) 0

  -- a number stands where the zeros began
  stands : (l : List ℕ) (k m b : ℕ) → length l ≡ k → set (l ++ replicate (suc m) 0) k b ≡ (l ++ (b ∷ [])) ++ replicate m 0
  stands l k m b e = ap (λ (i : ℕ). set (l ++ replicate (suc m) 0) i b) (sym e) ∙ set-append_seam l 0 (replicate m 0) b ∙ sym (append_snoc l b (replicate m 0))

  -- with the k-th byte (from 0) set at its place there are k + 1 bytes
  pub one_more : (k : ℕ) → k < length s → k < 32 → set (begun k) k (get_or s k 0) ≡ begun (k + 1)
  one_more k h few =
      let m : ℕ = 261 - (k + 1) in
      let zeros : 261 - k ≡ suc m = omega arith in
      let next : suc k ≡ k + 1 = omega arith in
      ap (λ (z : ℕ). set (take k s ++ replicate z 0) k (get_or s k 0)) zeros ∙ stands (take k s) k m (get_or s k 0) (length-take-le k s (omega arith)) ∙
      ap (λ (l : List ℕ). l ++ replicate m 0) (sym (take-suc s k 0 h)) ∙
      ap (λ (j : ℕ). take j s ++ replicate m 0) next

  -- the bytes of a line that k bytes fill
  entry_with : (l : List ℕ) (k : ℕ) → length l ≡ k → record { kind = 4; count = k; values = l ++ replicate (261 - k) 0 } ≡ entry_of 4 l
  entry_with l k e = λ i. record { kind = 4; count = sym e i; values = l ++ replicate (261 - sym e i) 0 }

-- of 32 bytes or more the first 32 are the line, and of at most 32 all of them
first_taken : (s : List ℕ) (count : ℕ) → count ≡ min (length s) 32 → take count s ≡ take 32 s
first_taken s count e = go (test (leb (length s) 32))
  where
    go : Tested (leb (length s) 32) → take count s ≡ take 32 s
    go (holds h) =
        let few : length s ≤ 32 = leb-true (length s) 32 h in
        take_all count s (omega arith) ∙ sym (take_all 32 s few)
    go (fails h) =
        let many : 32 < length s = leb-false (length s) 32 h in
        let all : count ≡ 32 = omega arith in
        ap (λ (n : ℕ). take n s) all

pub one_taken :
    (s : List ℕ) (count k : ℕ) →
    count ≡ min (length s) 32 →
    k < length (take count s) →
    set (begun (take count s) k) k (get_or (take count s) k 0) ≡ begun (take count s) (k + 1)
one_taken s count k e h =
    let long : length (take count s) ≡ count = length-take-le count s (omega arith) in
    one_more (take count s) k h (omega arith)

pub line_taken :
    (s : List ℕ) (count k : ℕ) →
    count ≡ min (length s) 32 →
    length (take count s) ≤ k →
    k ≤ length (take count s) →
    record { kind = 4; count = count; values = begun (take count s) k } ≡ bytes_entry s
unfolding bytes_entry
line_taken s count k e least most =
    let long : length (take count s) ≡ count = length-take-le count s (omega arith) in
    let all : k ≡ count = omega arith in
    (λ i. record { kind = 4; count = count; values = (ap (begun (take count s)) all ∙ ap (λ (l : List ℕ). l ++ replicate (261 - count) 0) (take_all count (take count s) (omega arith))) i })
    ∙ entry_with s (take count s) count long
    ∙ ap (entry_of 4) (first_taken s count e)
