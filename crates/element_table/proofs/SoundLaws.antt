-- *Sound stays sound* (02, K1): an accepted outage adds one outage, where there were fewer than 65,535, and at most 600,000 minutes; a stock is marked 1
-- or 2. So a sound table stays sound whatever record it is given, and as files are begun. Assumes nothing.
use Prim.Native.Nat.{ℕ, ◌-◌}
use mathlib.Core.Path.{◌≡◌, refl, sym, ap, ◌∙◌}
use mathlib.Core.List.{List}
use mathlib.Core.Bool.{Bool, true, false, and-true}
use lib.ListN.{set}
use native.Mathlib.Omega.{arith}
use Rattle.base.specs.Lists.{every}
use Rattle.base.proofs.TestLaws.{Tested, holds, fails, test, and_left, and_right, and_both}
use Rattle.base.proofs.ListLaws.{every_set}
use Rattle.wire.specs.Frame.{kind_of}
use Rattle.element_codes.specs.Elements.{row_of}
use Rattle.element_row.specs.declared.Row.{Row}
use Rattle.element_table.specs.declared.Table.{Table}
use Rattle.element_table.specs.Table.{Filed}
use Rattle.element_row.specs.Row.{row_within, RowSound}
use Rattle.element_table.specs.Table.{begun, period_within, begin_of, sound_table, seen_as, file_begun}
use Rattle.element_rules.specs.Fields.{code_in, start_in, end_in, unit_in, amount_in}
use Rattle.element_table.specs.Rules.{row_named, answer_of}
use Rattle.element_row.specs.Row.{with_outage, with_stock}
use Rattle.element_table.specs.Take.{with_row, table_after}
use Rattle.element_row.proofs.RowLaws.{row_exactly}
use Rattle.element_table.proofs.BoundLaws.{period_within_lem, period_outside, sound_row}
use Rattle.element_table.proofs.AnswerLaws.{begins, begins_none, file_begins, file_refused}
use Rattle.element_table.proofs.ExactlyThen.{exactly_outage, exactly_stock, begin_exactly_0, begin_exactly_24}
use Rattle.element_table.proofs.RefusedLaws.{by_outcome, unsound_hands_back}

module _ (t : Table) where
  -- the mark has no part in it
  pub marked_sound : (seen : Bool) → sound_table (seen_as seen t) ≡ sound_table t
  unfolding sound_table
  marked_sound seen = refl

  -- a row within its bounds in the place of another
  row_kept : (at : ℕ) (r : Row) → sound_table t ≡ true → RowSound r → sound_table (with_row t at r) ≡ true
  unfolding sound_table
  row_kept at r e sound =
      and_both (period_within t.period) (every row_within (set t.rows at r))
      (and_left (period_within t.period) (every row_within t.rows) e)
      (every_set row_within t.rows at r (and_right (period_within t.period) (every row_within t.rows) e) ((row_exactly r).1 sound))

module _ (t : Table) (s : List ℕ) where
  -- an accepted outage: there is room for one more, of at most 600,000 minutes
  outage_sound : RowSound (row_named t s) → kind_of s ≡ 4 → answer_of t s ≡ 0 → RowSound (with_outage (row_named t s) (end_in s - start_in s))
  outage_sound r k a =
      let right = (exactly_outage t s k).0 a in
      record {
        outages = omega (arith, right.room);
        minutes = omega (arith, right.timely, r.minutes);
        stock = r.stock;
        amount = r.amount;
      }

  -- an accepted stock is marked 1 or 2
  stock_sound : RowSound (row_named t s) → kind_of s ≡ 5 → answer_of t s ≡ 0 → RowSound (with_stock (row_named t s) (unit_in s) (amount_in s))
  stock_sound r k a =
      record {
        outages = r.outages;
        minutes = r.minutes;
        stock = omega (arith, ((exactly_stock t s k).0 a).unit);
        amount = λ z. absurd (omega arith);
      }

  -- a sound table is sound after any record, accepted or refused
  pub sound_stays_sound : sound_table t ≡ true → sound_table (table_after t s) ≡ true
  sound_stays_sound e =
      let named = sound_row t e (row_of (code_in s)) in
      by_outcome t s (λ u. sound_table u ≡ true)
      (λ z. e)
      (λ k a. marked_sound t true ∙ e)
      (λ k a. row_kept t (row_of (code_in s)) _ e (outage_sound named k a))
      (λ k a. row_kept t (row_of (code_in s)) _ e (stock_sound named k a))

-- an unsound table stays as it is, so a table is sound after a record exactly where it was before
pub sound_same : (t : Table) (s : List ℕ) → sound_table (table_after t s) ≡ sound_table t
sound_same t s = go (test (sound_table t))
  where
    go : Tested (sound_table t) → sound_table (table_after t s) ≡ sound_table t
    go (holds e) = sound_stays_sound t s e ∙ sym e
    go (fails e) = ap sound_table (unsound_hands_back t s e).1

-- a table begun is sound, and one whose period is refused is not
pub begun_sound : (period : ℕ) → sound_table (begun period) ≡ period_within period
unfolding sound_table
begun_sound period = and-true (period_within period)

pub begin_sound : (period : ℕ) → (begin_of period).answer ≡ 0 → sound_table (begin_of period).table ≡ true
begin_sound period a =
    let w = (period_within_lem period).1 ((begin_exactly_0 period).0 a) in
    ap (λ (f : Filed). sound_table f.table) (begins period w) ∙ begun_sound period ∙ w

pub begin_refused_unsound : (period : ℕ) → (begin_of period).answer ≡ 24 → sound_table (begin_of period).table ≡ false
begin_refused_unsound period a =
    ap (λ (f : Filed). sound_table f.table) (begins_none period ((period_outside period).1 ((begin_exactly_24 period).0 a))) ∙ begun_sound 0

-- a file begun keeps a sound table sound, and hands an unsound one back
pub file_sound : (t : Table) → sound_table (file_begun t).table ≡ sound_table t
file_sound t = go (test (sound_table t))
  where
    go : Tested (sound_table t) → sound_table (file_begun t).table ≡ sound_table t
    go (holds e) = ap (λ (f : Filed). sound_table f.table) (file_begins t e) ∙ marked_sound t false
    go (fails e) = ap (λ (f : Filed). sound_table f.table) (file_refused t e)
