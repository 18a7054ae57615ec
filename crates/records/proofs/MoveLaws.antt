-- What `copy_within` to a buffer's front leaves there is `moved`. Assumes nothing.
use mathlib.Core.Path.{◌≡◌, refl, sym, ap, ◌∙◌}
use Prim.Native.Nat.{ℕ, ◌+◌, ◌-◌, ◌<◌, ◌≤◌}
use native.Mathlib.Omega.{arith}
use mathlib.Core.List.{List, ◌++◌}
use lib.Dec.{leb}
use lib.ListN.{length, take, drop, length-take, drop_of_length-le, take-append-drop}
use lib.Seq.{take-add, drop_at, length-take-le, paste}
use borrow.Author.Tests.{le-ltb, lt-ltb, leb-true, leb-false}
use Rattle.base.proofs.TestLaws.{Tested, holds, fails, test}
use Rattle.records.specs.Pieces.{moved}

-- a buffer whose first n bytes are those from start on
abbrev pub front : List ℕ → ℕ → ℕ → List ℕ
front b start n = take n (drop start b) ++ drop n b

module _ (b : List ℕ) (start end : ℕ) where
  -- no bytes stand up to an end that is not past the start
  part_none : end ≤ start → take (end - start) (drop start b) ≡ drop start (take end b)
  part_none o =
      let none : end - start ≡ 0 = omega arith in
      ap (λ (k : ℕ). take k (drop start b)) none ∙ sym (drop_of_length-le (take end b) {i = start} (omega (arith, length-take end b)))

  part_either : Tested (leb start end) → end ≤ length b → take (end - start) (drop start b) ≡ drop start (take end b)
  part_either (holds e) l =
      let o : start ≤ end = leb-true start end e in
      let sum : end ≡ start + (end - start) = omega arith in
      sym (ap (λ (k : ℕ). drop start (take k b)) sum ∙ ap (drop start) (take-add start (end - start) b) ∙
      drop_at (take start b) (take (end - start) (drop start b)) start (length-take-le start b (omega arith)))
  part_either (fails e) l = let o : end < start = leb-false start end e in part_none (omega arith)

  -- where the buffer has the bytes up to end, the move puts those from start on at its front
  pub moved_front : end ≤ length b → front b start (end - start) ≡ moved b start end
  unfolding moved
  moved_front l = rw (le-ltb (length b) end l) (ap (λ (xs : List ℕ). xs ++ drop (end - start) b) (part_either (test (leb start end)) l))

  pub copied_front : end ≤ length b → paste b 0 (drop start b) (end - start) ≡ moved b start end
  copied_front l = let here : 0 + (end - start) ≡ end - start = omega arith in
      ap (λ (n : ℕ). take (end - start) (drop start b) ++ drop n b) here ∙ moved_front l

  -- an end past the buffer moves nothing, and no more does one before the start
  pub moved_short : length b < end → b ≡ moved b start end
  unfolding moved
  moved_short h = rw (lt-ltb (length b) end h) refl

  none_either : end < start → Tested (leb end (length b)) → b ≡ moved b start end
  none_either h (holds e) =
      let none : end - start ≡ 0 = omega arith in
      ap (front b start) (sym none) ∙ moved_front (leb-true end (length b) e)
  none_either h (fails e) = moved_short (leb-false end (length b) e)

  pub moved_none : end < start → b ≡ moved b start end
  moved_none h = none_either h (test (leb end (length b)))

-- what begins at the front stays
still_either : (b : List ℕ) (end : ℕ) → Tested (leb end (length b)) → b ≡ moved b 0 end
still_either b end (holds e) = sym (take-append-drop (end - 0) b) ∙ moved_front b 0 end (leb-true end (length b) e)
still_either b end (fails e) = moved_short b 0 end (leb-false end (length b) e)

pub moved_still : (b : List ℕ) (end : ℕ) → b ≡ moved b 0 end
moved_still b end = still_either b end (test (leb end (length b)))
