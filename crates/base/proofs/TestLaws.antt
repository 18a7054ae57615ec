-- Tests joined by `&&` and `||`, taken apart. Assumes nothing.
use Prim.Native.Nat.{ℕ}
use mathlib.Core.Path.{◌≡◌, refl, sym, ◌∙◌}
use mathlib.Core.Logic.{◌⊎◌, inl, inr}
use mathlib.Core.Bool.{Bool, true, false, ◌&&◌, ◌||◌, cond, false≢true, true≢false}
use lib.Dec.{eqb}
use borrow.Author.Tests.{eqb-true}

-- `&&` is true exactly where both are
pub and_left : (a b : Bool) → (a && b) ≡ true → a ≡ true
and_left true b e = refl
and_left false b e = e

pub and_right : (a b : Bool) → (a && b) ≡ true → b ≡ true
and_right true b e = e
and_right false b e = absurd (false≢true e)

pub and_both : (a b : Bool) → a ≡ true → b ≡ true → (a && b) ≡ true
and_both true b e f = f
and_both false b e f = absurd (false≢true e)

-- `||` is false exactly where both are
pub or_left : (a b : Bool) → (a || b) ≡ false → a ≡ false
or_left true b e = e
or_left false b e = refl

pub or_right : (a b : Bool) → (a || b) ≡ false → b ≡ false
or_right true b e = absurd (false≢true (sym e))
or_right false b e = e

pub or_both : (a b : Bool) → a ≡ false → b ≡ false → (a || b) ≡ false
or_both true b e f = absurd (true≢false e)
or_both false b e f = f

-- one of two, where the other fails
pub or_other : (a b : Bool) → a ≡ false → (a || b) ≡ true → b ≡ true
or_other true b f e = absurd (true≢false f)
or_other false b f e = e

-- a test is one or the other
pub data Tested (t : Bool) : Type 0 where
  holds : t ≡ true → Tested t
  fails : t ≡ false → Tested t

pub test : (t : Bool) → Tested t
test true = holds refl
test false = fails refl

-- a number that one of three tests finds is one of the three
pub one_of_three : (n a b c : ℕ) → cond (eqb n a) true (cond (eqb n b) true (cond (eqb n c) true false)) ≡ true → (n ≡ a) ⊎ ((n ≡ b) ⊎ (n ≡ c))
one_of_three n a b c e = go (test (eqb n a)) (test (eqb n b)) (test (eqb n c))
  where
    go : Tested (eqb n a) → Tested (eqb n b) → Tested (eqb n c) → (n ≡ a) ⊎ ((n ≡ b) ⊎ (n ≡ c))
    go (holds p) q r = inl (eqb-true n a p)
    go (fails p) (holds q) r = inr (inl (eqb-true n b q))
    go (fails p) (fails q) (holds r) = inr (inr (eqb-true n c r))
    go (fails p) (fails q) (fails r) =
        let none : cond (eqb n a) true (cond (eqb n b) true (cond (eqb n c) true false)) ≡ false = rw (p, q, r) in
        absurd (true≢false (sym e ∙ none))
