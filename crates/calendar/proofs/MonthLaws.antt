-- A month's days by its number, and the months of a year walked one by one, as the loops walk them. Assumes nothing.
use Prim.Native.Nat.{ℕ, zero, suc, ◌+◌, ◌-◌, ◌*◌, ◌/◌, ◌%◌, ◌<◌, ◌≤◌, min}
use mathlib.Core.Path.{◌≡◌, refl, sym, ◌∙◌}
use mathlib.Core.Bool.{Bool, true, false, cond}
use mathlib.Core.List.{List, [], ◌∷◌}
use lib.ListN.{length, get_or, drop, drop_of_length-le, get_or-eq_default}
use lib.Seq.{drop-cons}
use lib.Dec.{eqb, leb}
use native.Mathlib.Omega.{arith}
use native.Mathlib.Nat.{le_of_suc-le-suc, not-suc-le-zero}
use borrow.Author.Tests.{leb-true, leb-false, lt-ltb, le-ltb, le-leb, lt-leb, eq-eqb, ne_eqb}
use Rattle.base.proofs.TestLaws.{Tested, holds, fails, test}
use Rattle.calendar.specs.Calendar.{months, days_in, month_in, day_in, days_up_to, date_of, days_before, minute_of}
use Rattle.calendar.specs.declared.Date.{Date}

-- February of a year divisible by 4, and of another
pub february_leap : (year : ℕ) → year % 4 ≡ 0 → days_in year 2 ≡ 29
unfolding days_in
february_leap year e = rw (eq-eqb (year % 4) 0 e)

pub february : (year : ℕ) → (year % 4 ≡ 0 → ⊥) → days_in year 2 ≡ 28
unfolding days_in
february year n = rw (ne_eqb (year % 4) 0 n)

-- past December there is no day
pub past_december : (year month : ℕ) → 12 < month → days_in year month ≡ 0
unfolding days_in
past_december year zero h = absurd (not-suc-le-zero h)
past_december year (suc m) h = get_or-eq_default (months year) 0 (le_of_suc-le-suc h)

-- the months that are none of the shorter ones
pub long_month :
    (year month : ℕ) → (month ≡ 0 → ⊥) → month ≤ 12 → (month ≡ 2 → ⊥) → (month ≡ 4 → ⊥) → (month ≡ 6 → ⊥) → (month ≡ 9 → ⊥) → (month ≡ 11 → ⊥)
    → days_in year month ≡ 31
unfolding days_in
long_month year zero n0 h n2 n4 n6 n9 n11 = absurd (n0 refl)
long_month year (suc zero) n0 h n2 n4 n6 n9 n11 = refl
long_month year (suc (suc zero)) n0 h n2 n4 n6 n9 n11 = absurd (n2 refl)
long_month year (suc (suc (suc zero))) n0 h n2 n4 n6 n9 n11 = refl
long_month year (suc (suc (suc (suc zero)))) n0 h n2 n4 n6 n9 n11 = absurd (n4 refl)
long_month year (suc (suc (suc (suc (suc zero))))) n0 h n2 n4 n6 n9 n11 = refl
long_month year (suc (suc (suc (suc (suc (suc zero)))))) n0 h n2 n4 n6 n9 n11 = absurd (n6 refl)
long_month year (suc (suc (suc (suc (suc (suc (suc zero))))))) n0 h n2 n4 n6 n9 n11 = refl
long_month year (suc (suc (suc (suc (suc (suc (suc (suc zero)))))))) n0 h n2 n4 n6 n9 n11 = refl
long_month year (suc (suc (suc (suc (suc (suc (suc (suc (suc zero))))))))) n0 h n2 n4 n6 n9 n11 = absurd (n9 refl)
long_month year (suc (suc (suc (suc (suc (suc (suc (suc (suc (suc zero)))))))))) n0 h n2 n4 n6 n9 n11 = refl
long_month year (suc (suc (suc (suc (suc (suc (suc (suc (suc (suc (suc zero))))))))))) n0 h n2 n4 n6 n9 n11 = absurd (n11 refl)
long_month year (suc (suc (suc (suc (suc (suc (suc (suc (suc (suc (suc (suc zero)))))))))))) n0 h n2 n4 n6 n9 n11 = refl
long_month year (suc (suc (suc (suc (suc (suc (suc (suc (suc (suc (suc (suc (suc m))))))))))))) n0 h n2 n4 n6 n9 n11 = absurd (omega arith)

pub ruleset days_known = (february_leap, february, past_december, long_month)

-- the days of a month stand in the year's list, at the month's number less 1
pub days_listed : (year month : ℕ) → 1 ≤ month → days_in year month ≡ get_or (months year) (month - 1) 0
unfolding days_in
days_listed year zero h = absurd (not-suc-le-zero h)
days_listed year (suc m) h =
    let e : suc m - 1 ≡ m = omega arith in
    rw e

-- no month has more than 31 days
pub days_at_most : (year month : ℕ) → days_in year month ≤ 31
unfolding days_in
days_at_most year zero = omega arith
days_at_most year (suc m) = go (eqb (year % 4) 0) m
  where
    go : (t : Bool) (m : ℕ) → get_or (31 ∷ cond t 29 28 ∷ 31 ∷ 30 ∷ 31 ∷ 30 ∷ 31 ∷ 31 ∷ 30 ∷ 31 ∷ 30 ∷ 31 ∷ []) m 0 ≤ 31
    go t zero = omega arith
    go true (suc zero) = omega arith
    go false (suc zero) = omega arith
    go t (suc (suc zero)) = omega arith
    go t (suc (suc (suc zero))) = omega arith
    go t (suc (suc (suc (suc zero)))) = omega arith
    go t (suc (suc (suc (suc (suc zero))))) = omega arith
    go t (suc (suc (suc (suc (suc (suc zero)))))) = omega arith
    go t (suc (suc (suc (suc (suc (suc (suc zero))))))) = omega arith
    go t (suc (suc (suc (suc (suc (suc (suc (suc zero)))))))) = omega arith
    go t (suc (suc (suc (suc (suc (suc (suc (suc (suc zero))))))))) = omega arith
    go t (suc (suc (suc (suc (suc (suc (suc (suc (suc (suc zero)))))))))) = omega arith
    go t (suc (suc (suc (suc (suc (suc (suc (suc (suc (suc (suc zero))))))))))) = omega arith
    go t (suc (suc (suc (suc (suc (suc (suc (suc (suc (suc (suc (suc m)))))))))))) = omega arith

-- the search for a day's month, at the m-th month (from 0): it stops there, goes on, or has no month left
module _ (ns : List ℕ) (m d : ℕ) where
  pub month_here : m < length ns → d < get_or ns m 0 → month_in (drop m ns) d ≡ 1
  month_here h l = rw (drop-cons ns m 0 h, lt-ltb d (get_or ns m 0) l)

  pub day_here : m < length ns → d < get_or ns m 0 → day_in (drop m ns) d ≡ d + 1
  day_here h l = rw (drop-cons ns m 0 h, lt-ltb d (get_or ns m 0) l)

  pub month_past : m < length ns → get_or ns m 0 ≤ d → month_in (drop m ns) d ≡ suc (month_in (drop (suc m) ns) (d - get_or ns m 0))
  month_past h l = rw (drop-cons ns m 0 h, le-ltb d (get_or ns m 0) l)

  pub day_past : m < length ns → get_or ns m 0 ≤ d → day_in (drop m ns) d ≡ day_in (drop (suc m) ns) (d - get_or ns m 0)
  day_past h l = rw (drop-cons ns m 0 h, le-ltb d (get_or ns m 0) l)

  pub month_none : length ns ≤ m → month_in (drop m ns) d ≡ 1
  month_none h = rw (drop_of_length-le ns h)

  pub day_none : length ns ≤ m → day_in (drop m ns) d ≡ d + 1
  day_none h = rw (drop_of_length-le ns h)

-- the sum of the days before a month, of which k are left at the m-th (from 0)
module _ (ns : List ℕ) (m k : ℕ) where
  -- 0 where no month is left to add, the m-th month's days and the rest where one is, and 0 past the last month
  pub up_to_here : k ≤ 1 → days_up_to (drop m ns) k ≡ 0
  up_to_here h = go (drop m ns)
    where
      go : (l : List ℕ) → days_up_to l k ≡ 0
      go [] = refl
      go (n ∷ l) = rw (le-leb k 1 h)

  pub up_to_past : m < length ns → 1 < k → days_up_to (drop m ns) k ≡ get_or ns m 0 + days_up_to (drop (suc m) ns) (k - 1)
  up_to_past h l = rw (drop-cons ns m 0 h, lt-leb k 1 l)

  pub up_to_none : length ns ≤ m → days_up_to (drop m ns) k ≡ 0
  up_to_none h = rw (drop_of_length-le ns h)

-- where the search for a day's month stands: the month that it has come to, and the days left there
pub record Dated (year d₀ month d : ℕ) : Type 0 where
  pub from : 1 ≤ month
  pub to : month ≤ 13
  pub less : d ≤ d₀
  pub month_left : month_in (months year) d₀ + 1 ≡ month + month_in (drop (month - 1) (months year)) d
  pub day_left : day_in (months year) d₀ ≡ day_in (drop (month - 1) (months year)) d

-- the search begins at January with all the days
pub dated_begins : (year d₀ : ℕ) → Dated year d₀ 1 d₀
dated_begins year d₀ = record { from = omega arith; to = omega arith; less = omega arith; month_left = omega arith; day_left = refl }

module _ (year d₀ month d : ℕ) (h : Dated year d₀ month d) where
  -- past a month that has no more days than are left it goes on to the next one, with those days fewer
  pub dated_on : month ≤ 12 → days_in year month ≤ d → Dated year d₀ (month + 1) (d - days_in year month)
  dated_on k l =
      let f : 1 ≤ month = h.from in
      let e : month + 1 - 1 ≡ suc (month - 1) = omega arith in
      let n : days_in year month ≡ get_or (months year) (month - 1) 0 = days_listed year month f in
      let m : get_or (months year) (month - 1) 0 ≤ d = rw n at l in
      record {
        from = omega arith;
        to = omega arith;
        less = omega (arith, h.less);
        month_left = rw (e, n) (omega (arith, h.month_left, month_past (months year) (month - 1) d (omega arith) m));
        day_left = rw (e, n) (h.day_left ∙ day_past (months year) (month - 1) d (omega arith) m);
      }

  -- the day is in the month come to, or past the year's end
  pub month_found : month ≤ 12 → d < days_in year month → month ≡ month_in (months year) d₀
  month_found k l =
      let f : 1 ≤ month = h.from in
      let m : d < get_or (months year) (month - 1) 0 = rw (days_listed year month f) at l in
      omega (arith, h.month_left, month_here (months year) (month - 1) d (omega arith) m)

  pub day_found : month ≤ 12 → d < days_in year month → d + 1 ≡ day_in (months year) d₀
  day_found k l =
      let f : 1 ≤ month = h.from in
      let m : d < get_or (months year) (month - 1) 0 = rw (days_listed year month f) at l in
      sym (h.day_left ∙ day_here (months year) (month - 1) d (omega arith) m)

  pub month_passed : 12 < month → month ≡ month_in (months year) d₀
  month_passed k = omega (arith, h.month_left, month_none (months year) (month - 1) d (omega arith))

  pub day_passed : 12 < month → d + 1 ≡ day_in (months year) d₀
  day_passed k = sym (h.day_left ∙ day_none (months year) (month - 1) d (omega arith))

pub ruleset months_searched = (dated_begins, dated_on, month_found, day_found, month_passed, day_passed)

-- a date by its month and day
pub date_is :
    (year t month day : ℕ)
    → month ≡ month_in (months year) (t / 1440)
    → day ≡ day_in (months year) (t / 1440)
    → record { month = month; day = day; hour = t % 1440 / 60; minute = t % 60 } ≡ date_of year t
unfolding date_of
date_is year t month day m d = λ i. record { month = m i; day = d i; hour = t % 1440 / 60; minute = t % 60 }

-- where the sum of the days before a month stands: the month that it has come to, and the days so far
pub record Summed (year month m days : ℕ) : Type 0 where
  pub from : 1 ≤ m
  pub to : m ≤ 13
  pub few : days + 31 ≤ 31 * m
  pub left : days_before year month ≡ days + days_up_to (drop (m - 1) (months year)) (month - (m - 1))

-- the sum begins at January with no day
pub summed_begins : (year month : ℕ) → Summed year month 1 0
unfolding days_before
summed_begins year month =
    let e : month - (1 - 1) ≡ month = omega arith in
    record { from = omega arith; to = omega arith; few = omega arith; left = rw e (omega arith) }

module _ (year month m days : ℕ) (h : Summed year month m days) where
  -- past a month before the one asked for it goes on to the next one, with the days of that month more
  pub summed_on : m ≤ 12 → m < month → Summed year month (m + 1) (days + days_in year m)
  summed_on k l =
      let g : 1 ≤ m = h.from in
      let e : m + 1 - 1 ≡ suc (m - 1) = omega arith in
      let f : month - suc (m - 1) ≡ month - (m - 1) - 1 = omega arith in
      let n : days_in year m ≡ get_or (months year) (m - 1) 0 = days_listed year m g in
      record {
        from = omega arith;
        to = omega arith;
        few = omega (arith, h.few, days_at_most year m);
        left = rw (e, f, n) (omega (arith, h.left, up_to_past (months year) (m - 1) (month - (m - 1)) (omega arith) (omega arith)));
      }

  -- at the month asked for or past it, and past December, it is the days before that month
  pub summed_here : month ≤ m → days ≡ days_before year month
  summed_here k = omega (arith, h.left, up_to_here (months year) (m - 1) (month - (m - 1)) (omega arith))

  pub summed_all : 12 < m → days ≡ days_before year month
  summed_all k = omega (arith, h.left, up_to_none (months year) (m - 1) (month - (m - 1)) (omega arith))

  pub summed_end : min month 13 ≤ m → days ≡ days_before year month
  summed_end k = go (test (leb month m))
    where
      go : Tested (leb month m) → days ≡ days_before year month
      go (holds e) = summed_here (leb-true month m e)
      go (fails e) = let past : m < month = leb-false month m e in summed_all (omega arith)

-- the days of some months together; before a month and in it are no more
abbrev pub days_of : List ℕ → ℕ
days_of [] = 0
days_of (n ∷ ns) = n + days_of ns

-- the days before the m-th month (from 0) and in it are no more than those of all months
pub up_to_with : (ns : List ℕ) (m : ℕ) → days_up_to ns (suc m) + get_or ns m 0 ≤ days_of ns
up_to_with [] m = omega arith
up_to_with (n ∷ ns) zero = omega arith
up_to_with (n ∷ ns) (suc m) =
    let e : suc (suc m) - 1 ≡ suc m = omega arith in
    rw (lt-leb (suc (suc m)) 1 (omega arith), e) (omega (arith, up_to_with ns m))

up_to_few : (ns : List ℕ) (m : ℕ) → days_up_to ns m ≤ days_of ns
up_to_few ns zero = omega (arith, up_to_here ns 0 0 (omega arith))
up_to_few ns (suc m) = omega (arith, up_to_with ns m)

-- a year's months have its days
pub year_days : (year : ℕ) → days_of (months year) ≡ cond (eqb (year % 4) 0) 366 365
year_days year = go (eqb (year % 4) 0)
  where
    go : (t : Bool) → days_of (31 ∷ cond t 29 28 ∷ 31 ∷ 30 ∷ 31 ∷ 30 ∷ 31 ∷ 31 ∷ 30 ∷ 31 ∷ 30 ∷ 31 ∷ []) ≡ cond t 366 365
    go true = refl
    go false = refl

year_few : (t : Bool) → cond t 366 365 ≤ 366
year_few true = omega arith
year_few false = omega arith

-- no month has more than 366 days of its year before it
pub before_at_most : (year month : ℕ) → days_before year month ≤ 366
unfolding days_before
before_at_most year month = omega (arith, up_to_few (months year) month, year_days year, year_few (eqb (year % 4) 0))

-- the minute of a date that the year has
pub minute_there :
    (year : ℕ) (d : Date)
    → (d.day ≡ 0 → ⊥)
    → d.day ≤ days_in year d.month
    → d.hour ≤ 23
    → d.minute ≤ 59
    → minute_of year d ≡ record { there = true; value = (days_before year d.month + (d.day - 1)) * 1440 + d.hour * 60 + d.minute }
unfolding minute_of
minute_there year d n a b l =
    rw (ne_eqb d.day 0 n, le-ltb (days_in year d.month) d.day a, le-ltb 23 d.hour b, le-ltb 59 d.minute l)
