-- "Times are minutes from 1 January 00:00 of the reporting year" (01, "Bytes on the wire"), as people write them: month, day, hour and minute.
use Rattle.std.specs.Prelude.{ℕ, zero, suc, ◌+◌, ◌-◌, ◌*◌, ◌/◌, ◌%◌, List, [], ◌∷◌, true, false, cond, eqb, ltb, leb, get_or, Bool, Option, Some, None}
use Rattle.calendar.specs.declared.Date.{Date}

-- whether a year has a date, and its minute; 0 where it has not
pub record Minute : Type 0 where
  pub there : Bool
  pub value : ℕ

-- the days of the months of a year from 2000 to 2099: "a year divisible by 4 has 527,040 minutes, others 525,600"
abbrev pub months : ℕ → List ℕ
months year = 31 ∷ cond (eqb (year % 4) 0) 29 28 ∷ 31 ∷ 30 ∷ 31 ∷ 30 ∷ 31 ∷ 31 ∷ 30 ∷ 31 ∷ 30 ∷ 31 ∷ []

-- the days of a month, from 1 for January
unfoldable pub days_in : ℕ → ℕ → ℕ
days_in year zero = 0
days_in year (suc m) = get_or (months year) m 0

-- the month that the d-th day (from 0) of some months falls in, and its day there, each from 1
abbrev pub month_in : List ℕ → ℕ → ℕ
month_in [] d = 1
month_in (n ∷ ns) d = cond (ltb d n) 1 (suc (month_in ns (d - n)))

abbrev pub day_in : List ℕ → ℕ → ℕ
day_in [] d = d + 1
day_in (n ∷ ns) d = cond (ltb d n) (d + 1) (day_in ns (d - n))

unfoldable pub date_of : ℕ → ℕ → Date
date_of year t =
    record {
      month = month_in (months year) (t / 1440);
      day = day_in (months year) (t / 1440);
      hour = t % 1440 / 60;
      minute = t % 60;
    }

-- the days of some months before the m-th, from 1
abbrev pub days_up_to : List ℕ → ℕ → ℕ
days_up_to [] m = 0
days_up_to (n ∷ ns) m = cond (leb m 1) 0 (n + days_up_to ns (m - 1))

unfoldable pub days_before : ℕ → ℕ → ℕ
days_before year month = days_up_to (months year) month

-- a year has a date whose month has the day, and whose hour and minute a day has
abbrev pub no_minute : Minute
no_minute = record { there = false; value = 0 }

unfoldable pub minute_of : ℕ → Date → Minute
minute_of year d =
    cond (eqb d.day 0) no_minute
    (cond (ltb (days_in year d.month) d.day) no_minute
    (cond (ltb 23 d.hour) no_minute
    (cond (ltb 59 d.minute) no_minute
    (record { there = true; value = (days_before year d.month + (d.day - 1)) * 1440 + d.hour * 60 + d.minute }))))

-- what the code answers, as the definition says it
abbrev pub minute_in : Option ℕ → Minute
minute_in None = no_minute
minute_in (Some t) = record { there = true; value = t }
