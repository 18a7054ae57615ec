-- A word in whichever letters and letters behind gaps, one byte at a time; and numbers that name nothing. Assumes nothing.
use Prim.Native.Nat.{ℕ, ◌+◌, ◌<◌, ◌≤◌}
use mathlib.Core.Path.{◌≡◌, refl, sym, ap, ◌∙◌}
use mathlib.Core.Bool.{Bool, true, false, ◌&&◌, and-false}
use mathlib.Core.List.{List, [], ◌∷◌}
use lib.Dec.{eqb, ltb, leb}
use lib.ListN.{length, drop, get_or}
use lib.Seq.{drop-cons}
use native.Mathlib.Omega.{arith}
use native.Mathlib.Numerals.{add-one}
use borrow.Author.Tests.{ne_eqb, lt-ltb, le-ltb, ltb-true, leb-true, leb-false}
use Rattle.std.specs.Char.{to_ascii_lowercase}
use Rattle.std.specs.List.{list_all, zip}
use Rattle.base.proofs.TestLaws.{Tested, holds, fails, test}
use Rattle.text_scan.specs.Scan.{is_gap, parted_here}
use Rattle.text_scan.specs.Outcomes.{number_named}
use Rattle.likeness.specs.Likeness.{is_letter, lowered, begins_alike, is_alike, letters_in, likeness_of}

-- the library's small letter is that of the definition
lowered_is : (b : ℕ) → to_ascii_lowercase b ≡ lowered b
unfolding lowered
lowered_is b = go (test (ltb b 65)) (test (leb b 90))
  where
    go : Tested (ltb b 65) → Tested (leb b 90) → to_ascii_lowercase b ≡ lowered b
    go (holds e) t = rw e refl
    go (fails e) (holds f) = let g : ltb b 91 ≡ true = lt-ltb b 91 (omega (arith, leb-true b 90 f)) in rw (e, f, g) refl
    go (fails e) (fails f) = let g : ltb b 91 ≡ false = le-ltb b 91 (omega (arith, leb-false b 90 f)) in rw (e, f, g) refl

-- a byte of a line and one of a word: the same, in whichever letters
abbrev pub same_letters : ℕ × ℕ → Bool
same_letters p = eqb (to_ascii_lowercase p.0) p.1

-- a line begins with a word where it is as long, and each byte is the same in whichever letters
pub alike_short : (s w : List ℕ) → length s < length w → begins_alike s w ≡ false
alike_short s [] h = let no : ⊥ = omega arith in absurd no
alike_short [] (w ∷ ws) h = refl
alike_short (b ∷ s) (w ∷ ws) h = let g : length s < length ws = omega arith in ap (λ t. eqb (lowered b) w && t) (alike_short s ws g) ∙ and-false (eqb (lowered b) w)

pub alike_all : (s w : List ℕ) → length w ≤ length s → list_all same_letters (zip s w) ≡ begins_alike s w
alike_all [] [] h = refl
alike_all (b ∷ s) [] h = refl
alike_all [] (w ∷ ws) h = absurd (omega arith)
alike_all (b ∷ s) (w ∷ ws) h = let g : length ws ≤ length s = omega arith in λ i. eqb (lowered_is b i) w && alike_all s ws g i

-- a word in front, by its two tests
module _ (s w : List ℕ) where
  -- a line that does not begin with the word, in whichever letters, does not have it in front
  pub not_alike : begins_alike s w ≡ false → false ≡ is_alike s w
  unfolding is_alike
  not_alike e = sym (ap (λ (t : Bool). t && parted_here (drop (length w) s)) e)

  -- one that does has it in front exactly where it is parted from what follows
  pub alike_parted : begins_alike s w ≡ true → parted_here (drop (length w) s) ≡ is_alike s w
  unfolding is_alike
  alike_parted e = sym (ap (λ (t : Bool). t && parted_here (drop (length w) s)) e)

-- past a byte that is no letter behind a gap, and begins no comment, letters are looked for behind it
module _ (s : List ℕ) (i : ℕ) (behind : Bool) where
  pub letters_later : i < length s → eqb (get_or s i 0) 35 ≡ false → (behind && is_letter (get_or s i 0)) ≡ false → letters_in behind (drop i s) ≡ letters_in (is_gap (get_or s i 0)) (drop (i + 1) s)
  letters_later h n e = rw (add-one, drop-cons s i 0, n, e)

-- a number that names nothing of what is expected is taken as 0, and any other as it is: the definition says the same of both
module _ (line : List ℕ) (at n year : ℕ) where
  pub named_alike : likeness_of line at n year ≡ likeness_of line at (number_named n) year
  unfolding likeness_of
  named_alike = go (test (ltb 15 n))
    where
      past : (k : ℕ) → 15 < n → k ≤ 15 → eqb n k ≡ false
      past k h l = ne_eqb n k (λ z. omega (arith, h, l, z))

      go : Tested (ltb 15 n) → likeness_of line at n year ≡ likeness_of line at (number_named n) year
      go (holds e) =
          let h : 15 < n = ltb-true 15 n e in
          rw (past 1 h (omega arith), past 10 h (omega arith), past 2 h (omega arith), past 6 h (omega arith), past 9 h (omega arith), e) refl
      go (fails e) = rw e refl
