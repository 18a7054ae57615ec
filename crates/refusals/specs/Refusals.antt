-- The numbers of the refusals (01, "Refusal numbers"; 02, K1), and those that stand beyond the papers' rows (252 and 253, of a reading in pieces).
use Rattle.std.specs.Prelude.{ℕ, Result, Ok, Err}
use Rattle.refusals.specs.declared.Refusal.{Refusal}
use Rattle.refusals.specs.declared.Refusal.TheVariants.{Unsound, Frame, Kind, Length, Sheet, Range, Code, NotOpen, Ordinal, Time, Count, Level, NoneThenSome, Used, Full, DeskFull, Nobody, Digits, Period, ManyRefused, MoreTold}

abbrev pub number_of : Refusal → ℕ
number_of Unsound = 1
number_of Frame = 2
number_of Kind = 3
number_of Length = 4
number_of Sheet = 5
number_of Range = 6
number_of Code = 7
number_of NotOpen = 8
number_of Ordinal = 9
number_of Time = 10
number_of Count = 11
number_of Level = 12
number_of NoneThenSome = 13
number_of Used = 14
number_of Full = 15
number_of DeskFull = 16
number_of Nobody = 17
number_of Digits = 18
number_of Period = 24
number_of ManyRefused = 252
number_of MoreTold = 253

-- the number that an outcome is answered with: 0 where nothing is refused
abbrev pub answer_in : {A : Type 0} → Result A Refusal → ℕ
answer_in (Ok a) = 0
answer_in (Err r) = number_of r
