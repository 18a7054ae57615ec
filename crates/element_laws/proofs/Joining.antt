-- *Joined*: the files of two tables, fed one after the other, are accepted and come to the sums. What is asked of all their records is asked of each
-- table's records, but that no stock is told in both and that the outages of both stay within 65,535. Assumes nothing.
use Prim.Native.Nat.{ℕ, ◌+◌, ◌<◌, ◌≤◌}
use mathlib.Core.Path.{◌≡◌, refl, sym, ap, ◌∙◌, subst}
use mathlib.Core.Logic.{◌⊎◌, inl, inr}
use mathlib.Core.List.{List, [], ◌∷◌, ◌++◌, append_assoc}
use mathlib.Core.Bool.{true}
use lib.ListN.{get_or-replicate}
use lib.Dec.{ltb}
use native.Mathlib.Omega.{arith}
use Rattle.base.specs.Lists.{All}
use Rattle.base.proofs.ListLaws.{all_append}
use Rattle.base.proofs.SumLaws.{sum_append}
use Rattle.wire.specs.Cut.{records_of}
use Rattle.element_row.specs.declared.Row.{Row}
use Rattle.element_table.specs.declared.Table.{Table}
use Rattle.element_row.specs.Row.{no_row, most_outages}
use Rattle.element_table.specs.Table.{begun, period_within, seen_as}
use Rattle.element_table.proofs.RefusedLaws.{begun_rows}
use Rattle.element_table.proofs.SoundLaws.{begun_sound}
use Rattle.element_file.specs.Yearly.{AcceptedFiles}
use Rattle.element_laws.specs.Tally.{outages_of, minutes_of, stocks_of, stock_of, amount_of, total, tallied, Fitting, Each, Tells}
use Rattle.element_laws.specs.Join.{plus_row, table_of, row_in, Joinable, Joined}
use Rattle.element_laws.proofs.SumLaws.{same_row, when, told}
use Rattle.element_laws.proofs.TallyLaws.{told_then, outages_then}
use Rattle.element_laws.proofs.FileLaws.{Held, Begins, others, behind_all, mark_after, files_accepted, files_tell}

-- a table that is begun takes files, and nothing is told in it
pub begun_held : (period : ℕ) → period_within period ≡ true → Held (begun period)
begun_held period within = record { sound = begun_sound period ∙ within; size = begun_rows period }

begun_row : (period row : ℕ) → row < 62 → row_in (begun period) row ≡ no_row
begun_row period row l = get_or-replicate 62 row no_row no_row l

-- the other records of files one after the other
behind_append : (fs gs : List (List ℕ)) → behind_all (fs ++ gs) ≡ behind_all fs ++ behind_all gs
behind_append [] gs = refl
behind_append (f ∷ fs) gs = ap (λ rest. others (records_of f) ++ rest) (behind_append fs gs) ∙ sym (append_assoc (others (records_of f)) (behind_all fs) (behind_all gs))

module _ (period : ℕ) (fs gs : List (List ℕ)) (within : period_within period ≡ true) (both : Joinable period fs gs) where
  abbrev start : Table
  start = begun period

  abbrev ss : List (List ℕ)
  ss = behind_all fs

  abbrev ts : List (List ℕ)
  ts = behind_all gs

  held : Held start
  held = begun_held period within

  abbrev Asked : List (List ℕ) → Type 0
  Asked hs = All Begins hs × Each start (behind_all hs)

  of_first : Asked fs
  of_first = (files_accepted start held fs).0 both.first

  of_second : Asked gs
  of_second = (files_accepted start held gs).0 both.second

  first_tells : Tells (seen_as (mark_after start.seen fs) start) ss (table_of period fs)
  first_tells = files_tell start held fs both.first

  second_tells : Tells (seen_as (mark_after start.seen gs) start) ts (table_of period gs)
  second_tells = files_tell start held gs both.second

  module _ (row : ℕ) (l : row < 62) where
    nothing : row_in start row ≡ no_row
    nothing = begun_row period row l

    none_out : (row_in start row).outages ≡ 0
    none_out = ap (λ (r : Row). r.outages) nothing

    first_told_lem : told (row_in (table_of period fs) row) ≡ told (row_in start row) + total (stocks_of row) ss
    first_told_lem = told_then (seen_as (mark_after start.seen fs) start) (table_of period fs) ss ts first_tells row l (of_first.1.once row l)

    second_told : told (row_in (table_of period gs) row) ≡ told (row_in start row) + total (stocks_of row) ts
    second_told = told_then (seen_as (mark_after start.seen gs) start) (table_of period gs) ts ss second_tells row l (of_second.1.once row l)

    once : ((row_in (table_of period fs) row).stock ≡ 0) ⊎ ((row_in (table_of period gs) row).stock ≡ 0) → told (row_in start row) + total (stocks_of row) (ss ++ ts) ≤ 1
    once (inl e) =
        let none : told (row_in (table_of period fs) row) ≡ 0 = ap (λ n. when (ltb 0 n)) e in
        omega (arith, none, first_told_lem, of_second.1.once row l, sum_append (stocks_of row) ss ts)
    once (inr e) =
        let none : told (row_in (table_of period gs) row) ≡ 0 = ap (λ n. when (ltb 0 n)) e in
        omega (arith, none, second_told, of_first.1.once row l, sum_append (stocks_of row) ss ts)

    room : (row_in start row).outages + total (outages_of row) (ss ++ ts) ≤ most_outages
    room =
        omega (
          arith,
          none_out,
          both.room row l,
          outages_then (seen_as (mark_after start.seen fs) start) (table_of period fs) ss ts first_tells row l,
          outages_then (seen_as (mark_after start.seen gs) start) (table_of period gs) ts ss second_tells row l,
          sum_append (outages_of row) ss ts,
        )

    -- a row of nothing with all that both tell is the sum of the two
    summed : tallied (row_in start row) row (ss ++ ts) ≡ plus_row (tallied (row_in start row) row ss) (tallied (row_in start row) row ts)
    summed =
        same_row _ _
        (omega (arith, none_out, sum_append (outages_of row) ss ts))
        (omega (arith, ap (λ (r : Row). r.minutes) nothing, sum_append (minutes_of row) ss ts))
        (omega (arith, ap (λ (r : Row). r.stock) nothing, sum_append (stock_of row) ss ts))
        (omega (arith, ap (λ (r : Row). r.amount) nothing, sum_append (amount_of row) ss ts))

  all_asked : Asked (fs ++ gs)
  all_asked = (
    all_append Begins fs gs of_first.0 of_second.0,
    subst (Each start) (sym (behind_append fs gs))
        (record {
          fitting = all_append Fitting ss ts of_first.1.fitting of_second.1.fitting;
          once = λ row l. once row l (both.apart row l);
          room = room;
        }),
  )

  both_accepted : AcceptedFiles start (fs ++ gs)
  both_accepted = (files_accepted start held (fs ++ gs)).1 all_asked

  both_tell : Tells (seen_as (mark_after start.seen (fs ++ gs)) start) (behind_all (fs ++ gs)) (table_of period (fs ++ gs))
  both_tell = files_tell start held (fs ++ gs) both_accepted

  -- the theorem: under a period of 1 to 50, files that are joinable are accepted one after the other and come to the sums
  pub joined : Joined period fs gs
  joined =
      record {
        accepted = both_accepted;
        years = both_tell.period;
        rows =
            λ row l.
            both_tell.rows row l ∙ ap (tallied (row_in start row) row) (behind_append fs gs) ∙ summed row l ∙
            (λ i. plus_row (sym (first_tells.rows row l) i) (sym (second_tells.rows row l) i));
      }
