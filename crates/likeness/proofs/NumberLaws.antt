-- What stands in a refused line is told by its number. Assumes nothing.
use Rattle.std.specs.Prelude.{ℕ, ◌≡◌, cond, eqb, Option, Some, None}
use mathlib.Core.Path.{refl, ap, sym, ◌∙◌}
use Rattle.likeness.specs.declared.Likeness.{Likeness}
use Rattle.likeness.specs.declared.Likeness.TheVariants.{ByteOrderMark, Quoted, Capitals, Header, OtherTime}
use Rattle.likeness.specs.Numbers.{like_number}

like_with : ℕ → Option Likeness
like_with n =
    cond (eqb n 1) (Some ByteOrderMark) (cond (eqb n 2) (Some Quoted) (cond (eqb n 3) (Some Capitals) (cond (eqb n 4) (Some Header) (cond (eqb n 5) (Some OtherTime) None))))

like_back : (x : Option Likeness) → like_with (like_number x) ≡ x
unfolding like_with
like_back None = refl
like_back (Some ByteOrderMark) = refl
like_back (Some Quoted) = refl
like_back (Some Capitals) = refl
like_back (Some Header) = refl
like_back (Some OtherTime) = refl

pub same_like : (x y : Option Likeness) → like_number x ≡ like_number y → x ≡ y
same_like x y same = sym (like_back x) ∙ ap like_with same ∙ like_back y
