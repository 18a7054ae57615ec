-- A refusal's number tells it from every other, and is not 0. Assumes nothing.
use Rattle.std.specs.Prelude.{ℕ, ◌≡◌, ◌≢◌, ◌≤◌, cond, eqb, Result, Ok}
use mathlib.Core.Path.{refl, ap, sym, ◌∙◌}
use native.Mathlib.Omega.{arith}
use Rattle.refusals.specs.declared.Refusal.{Refusal}
use Rattle.refusals.specs.declared.Refusal.TheVariants.{Unsound, Frame, Kind, Length, Sheet, Range, Code, NotOpen, Ordinal, Time, Count, Level, NoneThenSome, Used, Full, DeskFull, Nobody, Digits, Period, ManyRefused, MoreTold}
use Rattle.refusals.specs.Refusals.{number_of, answer_in}

-- the refusal with a number
refusal_of : ℕ → Refusal
refusal_of n =
    cond (eqb n 1) Unsound (cond (eqb n 2) Frame (cond (eqb n 3) Kind (cond (eqb n 4) Length (cond (eqb n 5) Sheet
    (cond (eqb n 6) Range (cond (eqb n 7) Code (cond (eqb n 8) NotOpen (cond (eqb n 9) Ordinal (cond (eqb n 10) Time
    (cond (eqb n 11) Count (cond (eqb n 12) Level (cond (eqb n 13) NoneThenSome (cond (eqb n 14) Used (cond (eqb n 15) Full
    (cond (eqb n 16) DeskFull (cond (eqb n 17) Nobody (cond (eqb n 18) Digits (cond (eqb n 24) Period
    (cond (eqb n 252) ManyRefused MoreTold)))))))))))))))))))

back : (r : Refusal) → refusal_of (number_of r) ≡ r
unfolding refusal_of
back Unsound = refl
back Frame = refl
back Kind = refl
back Length = refl
back Sheet = refl
back Range = refl
back Code = refl
back NotOpen = refl
back Ordinal = refl
back Time = refl
back Count = refl
back Level = refl
back NoneThenSome = refl
back Used = refl
back Full = refl
back DeskFull = refl
back Nobody = refl
back Digits = refl
back Period = refl
back ManyRefused = refl
back MoreTold = refl

pub same_refusal : (r s : Refusal) → number_of r ≡ number_of s → r ≡ s
same_refusal r s same = sym (back r) ∙ ap refusal_of same ∙ back s

pub number_above_0 : (r : Refusal) → 1 ≤ number_of r
number_above_0 Unsound = omega arith
number_above_0 Frame = omega arith
number_above_0 Kind = omega arith
number_above_0 Length = omega arith
number_above_0 Sheet = omega arith
number_above_0 Range = omega arith
number_above_0 Code = omega arith
number_above_0 NotOpen = omega arith
number_above_0 Ordinal = omega arith
number_above_0 Time = omega arith
number_above_0 Count = omega arith
number_above_0 Level = omega arith
number_above_0 NoneThenSome = omega arith
number_above_0 Used = omega arith
number_above_0 Full = omega arith
number_above_0 DeskFull = omega arith
number_above_0 Nobody = omega arith
number_above_0 Digits = omega arith
number_above_0 Period = omega arith
number_above_0 ManyRefused = omega arith
number_above_0 MoreTold = omega arith

-- no refusal has the number 0
pub no_refusal_0 : (r : Refusal) → number_of r ≢ 0
no_refusal_0 r none = omega (arith, number_above_0 r, none)

-- an outcome that is answered 0 is no refusal
pub ok_is_0 : {A : Type 0} (x : Result A Refusal) → (a : A) → x ≡ Ok a → answer_in x ≡ 0
ok_is_0 x a is = ap answer_in is
