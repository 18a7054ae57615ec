-- The calendar there and back: the date of a minute has that minute, no date has a minute past the year's, and a date that the year has is the date of
-- its minute. Assumes nothing.
use Prim.Native.Nat.{ℕ, zero, suc, ◌+◌, ◌-◌, ◌*◌, ◌/◌, ◌%◌, ◌<◌, ◌≤◌}
use Rattle.std.specs.Prelude.{Option, Some, None}
use mathlib.Core.Path.{◌≡◌, refl, sym, ◌∙◌, ap}
use mathlib.Core.Bool.{Bool, true, false, cond, false≢true}
use mathlib.Core.List.{List, [], ◌∷◌}
use lib.ListN.{length, get_or}
use lib.Dec.{eqb, ltb}
use native.Mathlib.Nat.{zero-add}
use native.Mathlib.Omega.{arith}
use borrow.Author.Tests.{ltb-true, ltb-false, lt-ltb, le-ltb, lt-leb, eqb-false}
use Rattle.base.proofs.TestLaws.{Tested, holds, fails, test}
use Rattle.annex.specs.Times.{minutes_in}
use Rattle.calendar.specs.Calendar.{months, days_in, month_in, day_in, date_of, days_up_to, days_before, no_minute, minute_of, minute_in}
use Rattle.calendar.specs.declared.Date.{Date}
use Rattle.calendar.specs.Calendar.{Minute}
use Rattle.calendar.proofs.MonthLaws.{days_listed, days_at_most, days_of, up_to_with, year_days, minute_there}

-- the m-th month (from 1) of some has the x-th day (from 1), which is their d-th (from 0)
record Found (ns : List ℕ) (d m x : ℕ) : Type 0 where
  month_from : 1 ≤ m
  month_to : m ≤ length ns
  day_from : 1 ≤ x
  day_to : x ≤ get_or ns (m - 1) 0
  back : days_up_to ns m + (x - 1) ≡ d

-- a day of the first month, and of a later one
found_here : (n : ℕ) (ns : List ℕ) (d : ℕ) → d < n → Found (n ∷ ns) d 1 (d + 1)
found_here n ns d l = record { month_from = omega arith; month_to = omega arith; day_from = omega arith; day_to = omega arith; back = omega arith }

found_past : (n : ℕ) (ns : List ℕ) (d m x : ℕ) → n ≤ d → Found ns (d - n) m x → Found (n ∷ ns) d (suc m) x
found_past n ns d m x l f =
    let h : 1 ≤ m = f.month_from in
    let e : suc m - 1 ≡ suc (m - 1) = omega arith in
    let g : suc m - 1 ≡ m = omega arith in
    record {
      month_from = omega arith;
      month_to = omega (arith, f.month_to);
      day_from = f.day_from;
      day_to = rw e f.day_to;
      back = rw (lt-leb (suc m) 1 (omega arith), g) (omega (arith, f.back));
    }

-- each day of some months is found
found : (ns : List ℕ) (d : ℕ) → d < days_of ns → Found ns d (month_in ns d) (day_in ns d)
found [] d h = absurd (omega arith)
found (n ∷ ns) d h = go (test (ltb d n)) (found ns (d - n))
  where
    go : Tested (ltb d n) → (d - n < days_of ns → Found ns (d - n) (month_in ns (d - n)) (day_in ns (d - n))) → Found (n ∷ ns) d (month_in (n ∷ ns) d) (day_in (n ∷ ns) d)
    go (holds e) r = rw e (found_here n ns d (ltb-true d n e))
    go (fails e) r =
        let l : n ≤ d = ltb-false d n e in
        rw e (found_past n ns d (month_in ns (d - n)) (day_in ns (d - n)) l (r (omega arith)))

-- a year's minutes are those of its months' days
year_minutes : (year : ℕ) → minutes_in year ≡ days_of (months year) * 1440
unfolding minutes_in
year_minutes year = rw year_days (go (eqb (year % 4) 0))
  where
    go : (t : Bool) → cond t 527040 525600 ≡ cond t 366 365 * 1440
    go true = refl
    go false = refl

module _ (year t : ℕ) (h : t < minutes_in year) where
  found_date : Found (months year) (t / 1440) (date_of year t).month (date_of year t).day
  unfolding date_of
  found_date = found (months year) (t / 1440) (omega (arith, year_minutes year))

  day_in_month : (date_of year t).day ≤ days_in year (date_of year t).month
  day_in_month = rw (days_listed year (date_of year t).month found_date.month_from) found_date.day_to

-- the date of a minute of a year has that minute
pub date_minute_lem : (year t : ℕ) → t < minutes_in year → minute_of year (date_of year t) ≡ record { there = true; value = t }
unfolding date_of days_before
date_minute_lem year t h =
    let f = found_date year t h in
    let n : (date_of year t).day ≡ 0 → ⊥ = λ e. omega (arith, f.day_from, e) in
    let b : (date_of year t).hour ≤ 23 = omega arith in
    let l : (date_of year t).minute ≤ 59 = omega arith in
    let v : (days_before year (date_of year t).month + ((date_of year t).day - 1)) * 1440 + (date_of year t).hour * 60 + (date_of year t).minute ≡ t =
    omega (arith, f.back) in
    minute_there year (date_of year t) n (day_in_month year t h) b l ∙ λ i. record { there = true; value = v i }

-- each part of it has two digits
pub date_small : (year t : ℕ) → t < minutes_in year → ((date_of year t).month < 100) × ((date_of year t).day < 100) × ((date_of year t).hour < 100) × ((date_of year t).minute < 100)
unfolding date_of
date_small year t h =
    let f = found_date year t h in (
      omega (arith, f.month_to),
      omega (arith, day_in_month year t h, days_at_most year (date_of year t).month),
      omega arith,
      omega arith,
    )

-- a date that has a minute passes each test
record Passed (a b c d : Bool) : Type 0 where
  first : a ≡ false
  second : b ≡ false
  third : c ≡ false
  fourth : d ≡ false

passed : (a b c d : Bool) (m : Minute) → (cond a no_minute (cond b no_minute (cond c no_minute (cond d no_minute m)))).there ≡ true → Passed a b c d
passed true b c d m e = absurd (false≢true e)
passed false true c d m e = absurd (false≢true e)
passed false false true d m e = absurd (false≢true e)
passed false false false true m e = absurd (false≢true e)
passed false false false false m e = record { first = refl; second = refl; third = refl; fourth = refl }

-- a month that has a day is not month 0
month_numbered : (year month day : ℕ) → (day ≡ 0 → ⊥) → day ≤ days_in year month → month ≡ 0 → ⊥
unfolding days_in
month_numbered year zero day n l e = n (omega arith)
month_numbered year (suc m) day n l e = omega arith

-- a day of a month is a day of the year
day_within : (year month day : ℕ) → (day ≡ 0 → ⊥) → day ≤ days_in year month → days_before year month + (day - 1) < days_of (months year)
unfolding days_in days_before
day_within year zero day n l = absurd (month_numbered year zero day n l refl)
day_within year (suc m) zero n l = absurd (n refl)
day_within year (suc m) (suc k) n l = omega (arith, up_to_with (months year) m, l)

-- what is known of a date that a year has
record InYear (year : ℕ) (d : Date) : Type 0 where
  day_from : d.day ≡ 0 → ⊥
  day_to : d.day ≤ days_in year d.month
  hour_to : d.hour ≤ 23
  minute_to : d.minute ≤ 59

in_year : (year : ℕ) (d : Date) → (minute_of year d).there ≡ true → InYear year d
unfolding minute_of
in_year year d e =
    let p = passed _ _ _ _ _ e in
    record {
      day_from = eqb-false d.day 0 p.first;
      day_to = ltb-false (days_in year d.month) d.day p.second;
      hour_to = ltb-false 23 d.hour p.third;
      minute_to = ltb-false 59 d.minute p.fourth;
    }

abbrev value_of : ℕ → Date → ℕ
value_of year d = (days_before year d.month + (d.day - 1)) * 1440 + d.hour * 60 + d.minute

in_year_minute : (year : ℕ) (d : Date) → InYear year d → minute_of year d ≡ record { there = true; value = value_of year d }
in_year_minute year d h = minute_there year d h.day_from h.day_to h.hour_to h.minute_to

-- what a date has is a minute of the year
pub minute_within : (year : ℕ) (d : Date) → (minute_of year d).there ≡ true → (minute_of year d).value < minutes_in year
minute_within year d e =
    let h = in_year year d e in
    rw (in_year_minute year d h) (
    omega (arith, year_minutes year, day_within year d.month d.day h.day_from h.day_to, h.hour_to, h.minute_to)
    )

-- ---- the way back

-- the k-th day (from 0) of the m-th month (from 0) of some is found in that month, as its day k + 1
month_back : (ns : List ℕ) (m k : ℕ) → k < get_or ns m 0 → month_in ns (days_up_to ns (suc m) + k) ≡ suc m
month_back [] m k l = absurd (omega arith)
month_back (n ∷ ns) zero k l = rw (zero-add k, lt-ltb k n l)
month_back (n ∷ ns) (suc m) k l =
    let e : suc (suc m) - 1 ≡ suc m = omega arith in
    let p : n ≤ n + days_up_to ns (suc m) + k = omega arith in
    let d : n + days_up_to ns (suc m) + k - n ≡ days_up_to ns (suc m) + k = omega arith in
    rw (lt-leb (suc (suc m)) 1 (omega arith), e, le-ltb (n + days_up_to ns (suc m) + k) n p, d) (ap suc (month_back ns m k l))

day_back : (ns : List ℕ) (m k : ℕ) → k < get_or ns m 0 → day_in ns (days_up_to ns (suc m) + k) ≡ k + 1
day_back [] m k l = absurd (omega arith)
day_back (n ∷ ns) zero k l = rw (zero-add k, lt-ltb k n l)
day_back (n ∷ ns) (suc m) k l =
    let e : suc (suc m) - 1 ≡ suc m = omega arith in
    let p : n ≤ n + days_up_to ns (suc m) + k = omega arith in
    let d : n + days_up_to ns (suc m) + k - n ≡ days_up_to ns (suc m) + k = omega arith in
    rw (lt-leb (suc (suc m)) 1 (omega arith), e, le-ltb (n + days_up_to ns (suc m) + k) n p, d) (day_back ns m k l)

-- the same of a month and a day that a year has
module _ (year : ℕ) where
  month_of_day : (month day : ℕ) → (day ≡ 0 → ⊥) → day ≤ days_in year month → month_in (months year) (days_before year month + (day - 1)) ≡ month
  unfolding days_in days_before
  month_of_day zero day n l = absurd (month_numbered year zero day n l refl)
  month_of_day (suc m) day n l = month_back (months year) m (day - 1) (omega (arith, n, l))

  day_of_day : (month day : ℕ) → (day ≡ 0 → ⊥) → day ≤ days_in year month → day_in (months year) (days_before year month + (day - 1)) ≡ day
  unfolding days_in days_before
  day_of_day zero day n l = absurd (month_numbered year zero day n l refl)
  day_of_day (suc m) day n l = day_back (months year) m (day - 1) (omega (arith, n, l)) ∙ omega (arith, n)

-- a date that a year has is the date of its minute
pub minute_date : (year : ℕ) (d : Date) → (minute_of year d).there ≡ true → date_of year (minute_of year d).value ≡ d
unfolding date_of
minute_date year d e =
    let h = in_year year d e in
    let b = h.hour_to in
    let l = h.minute_to in
    let days : value_of year d / 1440 ≡ days_before year d.month + (d.day - 1) = omega arith in
    let hour : value_of year d % 1440 / 60 ≡ d.hour = omega arith in
    let minute : value_of year d % 60 ≡ d.minute = omega arith in
    let month : month_in (months year) (value_of year d / 1440) ≡ d.month = rw days (month_of_day year d.month d.day h.day_from h.day_to) in
    let day : day_in (months year) (value_of year d / 1440) ≡ d.day = rw days (day_of_day year d.month d.day h.day_from h.day_to) in
    ap (λ (m : Minute). date_of year m.value) (in_year_minute year d h) ∙
    λ i. record { month = month i; day = day i; hour = hour i; minute = minute i }

-- what the code answers is told by what the definition says
pub same_minute : (s t : Option ℕ) → minute_in s ≡ minute_in t → s ≡ t
same_minute None None e = refl
same_minute None (Some t) e = absurd (false≢true (ap (λ (m : Minute). m.there) e))
same_minute (Some s) None e = absurd (false≢true (sym (ap (λ (m : Minute). m.there) e)))
same_minute (Some s) (Some t) e = ap (λ (m : Minute). Some m.value) e
