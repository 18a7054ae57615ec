-- The five cases of `place_at` and the three in which `part_of` is no plain part of the book, one law each. Assumes nothing.
use mathlib.Core.Path.{◌≡◌, sym, ap, subst, ◌∙◌}
use Prim.Native.Nat.{ℕ, ◌+◌, ◌-◌, ◌<◌, ◌≤◌}
use mathlib.Core.List.{List, []}
use lib.ListN.{length, take, drop, length-drop, drop_of_length-le}
use lib.Seq.{take-nil, take_all}
use native.Mathlib.Omega.{arith}
use borrow.Author.Tests.{le-ltb, lt-ltb, le-leb, lt-leb}
use Rattle.wire.specs.Numbers.{le16}
use Rattle.wire.specs.Book.{place_at, part_of}
use Rattle.wire.specs.declared.Place.TheVariants.{Record, End, Broken}

-- the end: at the length of the book, or past it
pub at_end : (book : List ℕ) (at : ℕ) → length book ≤ at → place_at book at ≡ End
unfolding place_at
at_end book at h = simp (le-leb _ _ h)

module _ (book : List ℕ) (at : ℕ) (in-book : at < length book) where
  -- a broken length: only 1 to 3 bytes left
  pub at_short : length book - at < 4 → place_at book at ≡ Broken
  unfolding place_at
  at_short h = simp (lt-leb _ _ in-book, lt-ltb _ _ h)

  -- a stated length, by whatever name it is known
  module _ (four : 4 ≤ length book - at) (n : ℕ) (is : n ≡ le16 book at) where
    -- a broken length: stated below 4
    pub at_small : n < 4 → place_at book at ≡ Broken
    unfolding place_at
    at_small h = simp (lt-leb _ _ in-book, le-ltb _ _ four, lt-ltb _ _ (subst (λ (k : ℕ). k < 4) is h))

    module _ (size : 4 ≤ n) where
      -- a broken length: stated past the end of the book
      pub at_long : length book - at < n → place_at book at ≡ Broken
      unfolding place_at
      at_long h = simp (lt-leb _ _ in-book, le-ltb _ _ four, le-ltb _ _ (subst (λ (k : ℕ). 4 ≤ k) is size), lt-ltb _ _ (subst (λ (k : ℕ). length book - at < k) is h))

      -- a record: its stated length is there
      pub at_record : n ≤ length book - at → place_at book at ≡ Record at (at + n)
      unfolding place_at
      at_record h =
          simp (lt-leb _ _ in-book, le-ltb _ _ four, le-ltb _ _ (subst (λ (k : ℕ). 4 ≤ k) is size), le-ltb _ _ (subst (λ (k : ℕ). k ≤ length book - at) is h))
          (ap (λ (k : ℕ). Record at (at + k)) (sym is))

module _ (book : List ℕ) (start end : ℕ) where
  -- there are no bytes up to an end that is not past the start, and none from a start past the book
  pub part_none : end ≤ start → [] ≡ part_of book start end
  part_none h = let z : end - start ≡ 0 = omega arith in rw z

  pub part_past : length book < start → [] ≡ part_of book start end
  part_past h = sym (ap (take (end - start)) (drop_of_length-le book {i = start} (omega arith)) ∙ take-nil (end - start))

  -- up to an end past the book there are the bytes from the start to the end of the book
  pub part_rest : length book < end → take (length book - start) (drop start book) ≡ part_of book start end
  part_rest h =
      take_all (length book - start) (drop start book) (omega (arith, length-drop start book))
      ∙ sym (take_all (end - start) (drop start book) (omega (arith, length-drop start book)))
