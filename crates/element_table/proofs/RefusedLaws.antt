-- What taking a record does to a table, by its answer and kind: "a refusal hands the table back as it was" (02, K1), an accepted sheet sets the mark
-- alone, an accepted outage or stock changes the row of its element alone. Assumes nothing.
use Prim.Native.Nat.{ℕ, ◌+◌, ◌-◌, ◌<◌}
use mathlib.Core.Path.{◌≡◌, refl, sym, ap, ◌∙◌, subst}
use mathlib.Core.Logic.{◌≢◌, ◌⊎◌, inl, inr}
use mathlib.Core.List.{List}
use mathlib.Core.Bool.{true, false, cond, not}
use lib.ListN.{length, set, length-set, length-replicate}
use lib.Seq.{get_or-set_same, get_or-set_other}
use lib.Dec.{eqb}
use native.Mathlib.Omega.{arith}
use borrow.Author.Tests.{eq-eqb, ne_eqb, eqb-true, eqb-false}
use Rattle.base.proofs.TestLaws.{Tested, holds, fails, test}
use Rattle.wire.specs.Frame.{kind_of}
use Rattle.element_codes.specs.Elements.{element_listed, row_of}
use Rattle.element_codes.proofs.CodeLaws.{listed_row}
use Rattle.element_row.specs.declared.Row.{Row}
use Rattle.element_table.specs.declared.Table.{Table}
use Rattle.element_table.specs.Table.{Filed}
use Rattle.element_row.specs.Row.{no_row}
use Rattle.element_table.specs.Table.{begun, row_or, period_within, begin_of, sound_table, seen_as, file_begun}
use Rattle.element_rules.specs.Fields.{code_in, start_in, end_in, unit_in, amount_in}
use Rattle.element_table.specs.Rules.{row_named, answer_of}
use Rattle.element_row.specs.Row.{with_outage, with_stock}
use Rattle.element_table.specs.Take.{with_row, accepted_at, table_after}
use Rattle.element_table.proofs.AnswerLaws.{accepted_kind, begins, begins_none, file_begins, file_refused}
use Rattle.element_table.proofs.ExactlyThen.{exactly, exactly_sheet, exactly_outage, exactly_stock}

-- another row in its place: no other row is changed
module _ (rows : List Row) (at : ℕ) (r : Row) where
  set_same : at < length rows → row_or (set rows at r) at ≡ r
  set_same l = get_or-set_same rows at r no_row l

  set_other : (row : ℕ) → row ≢ at → row_or (set rows at r) row ≡ row_or rows row
  set_other row n = get_or-set_other rows at row r no_row n

module _ (t : Table) (s : List ℕ) where
  -- a refused record: the period, the mark and every row are as they were
  pub refused_hands_back : (answer_of t s ≡ 0 → ⊥) → table_after t s ≡ t
  unfolding table_after
  refused_hands_back z = ap (λ b. cond b (accepted_at (kind_of s) t s) t) (ne_eqb _ _ z)

  -- a table past its bounds takes no record
  pub unsound_hands_back : sound_table t ≡ false → (answer_of t s ≡ 1) × (table_after t s ≡ t)
  unsound_hands_back u =
      let a : answer_of t s ≡ 1 = (exactly t s 1).1 (ap not u) in
      (a, refused_hands_back (λ z. omega arith))

  -- an accepted record, of each kind
  pub accepted_after : answer_of t s ≡ 0 → table_after t s ≡ accepted_at (kind_of s) t s
  unfolding table_after
  accepted_after a = ap (λ b. cond b (accepted_at (kind_of s) t s) t) (eq-eqb _ _ a)

  pub accepted_sheet : kind_of s ≡ 1 → answer_of t s ≡ 0 → table_after t s ≡ seen_as true t
  accepted_sheet k a = accepted_after a ∙ ap (λ kind. accepted_at kind t s) k

  pub accepted_outage :
      kind_of s ≡ 4 → answer_of t s ≡ 0 → table_after t s ≡ with_row t (row_of (code_in s)) (with_outage (row_named t s) (end_in s - start_in s))
  accepted_outage k a = accepted_after a ∙ ap (λ kind. accepted_at kind t s) k

  pub accepted_stock :
      kind_of s ≡ 5 → answer_of t s ≡ 0 → table_after t s ≡ with_row t (row_of (code_in s)) (with_stock (row_named t s) (unit_in s) (amount_in s))
  accepted_stock k a = accepted_after a ∙ ap (λ kind. accepted_at kind t s) k

  -- so what holds of the table in each case holds of the table after the record
  pub by_outcome :
      (P : Table → Type 0) →
      ((answer_of t s ≡ 0 → ⊥) → P t) →
      (kind_of s ≡ 1 → answer_of t s ≡ 0 → P (seen_as true t)) →
      (kind_of s ≡ 4 → answer_of t s ≡ 0 → P (with_row t (row_of (code_in s)) (with_outage (row_named t s) (end_in s - start_in s)))) →
      (kind_of s ≡ 5 → answer_of t s ≡ 0 → P (with_row t (row_of (code_in s)) (with_stock (row_named t s) (unit_in s) (amount_in s)))) →
      P (table_after t s)
  by_outcome P refused sheet outage stock = go (test (eqb (answer_of t s) 0))
    where
      of : answer_of t s ≡ 0 → (kind_of s ≡ 1) ⊎ ((kind_of s ≡ 4) ⊎ (kind_of s ≡ 5)) → P (table_after t s)
      of a (inl k) = subst P (sym (accepted_sheet k a)) (sheet k a)
      of a (inr (inl k)) = subst P (sym (accepted_outage k a)) (outage k a)
      of a (inr (inr k)) = subst P (sym (accepted_stock k a)) (stock k a)

      go : Tested (eqb (answer_of t s) 0) → P (table_after t s)
      go (holds e) = let a = eqb-true (answer_of t s) 0 e in of a (accepted_kind t s a)
      go (fails e) = let z = eqb-false (answer_of t s) 0 e in subst P (sym (refused_hands_back z)) (refused z)

  -- no record changes the period, the number of rows, or the row of an element that it does not name
  pub period_kept : (table_after t s).period ≡ t.period
  period_kept = by_outcome (λ u. u.period ≡ t.period) (λ z. refl) (λ k a. refl) (λ k a. refl) (λ k a. refl)

  pub rows_kept : length (table_after t s).rows ≡ length t.rows
  rows_kept =
      by_outcome (λ u. length u.rows ≡ length t.rows) (λ z. refl) (λ k a. refl)
      (λ k a. simp length-set)
      (λ k a. simp length-set)

  pub other_rows : (row : ℕ) → row ≢ row_of (code_in s) → row_or (table_after t s).rows row ≡ row_or t.rows row
  other_rows row n =
      by_outcome (λ u. row_or u.rows row ≡ row_or t.rows row) (λ z. refl) (λ k a. refl)
      (λ k a. set_other t.rows (row_of (code_in s)) _ row n)
      (λ k a. set_other t.rows (row_of (code_in s)) _ row n)

  -- a sheet changes no row, and only a sheet changes the mark
  pub sheet_leaves_rows : kind_of s ≡ 1 → (table_after t s).rows ≡ t.rows
  sheet_leaves_rows k =
      by_outcome (λ u. u.rows ≡ t.rows) (λ z. refl) (λ k a. refl)
      (λ k' a. absurd (omega arith))
      (λ k' a. absurd (omega arith))

  pub mark_kept : kind_of s ≢ 1 → (table_after t s).seen ≡ t.seen
  mark_kept n = by_outcome (λ u. u.seen ≡ t.seen) (λ z. refl) (λ k a. absurd (n k)) (λ k a. refl) (λ k a. refl)

  -- what an accepted record changes: a sheet sets the mark, which was not set
  pub sheet_marks : kind_of s ≡ 1 → answer_of t s ≡ 0 → (t.seen ≡ false) × ((table_after t s).seen ≡ true)
  sheet_marks k a = (((exactly_sheet t s k).0 a).first, ap (λ (u : Table). u.seen) (accepted_sheet k a))

  module _ (all : length t.rows ≡ 62) where
    row_there : element_listed (code_in s) ≡ true → row_of (code_in s) < length t.rows
    row_there e = let l = listed_row (code_in s) e in omega arith

    -- an outage counts one more in the row of its element, and adds its minutes
    pub outage_row : kind_of s ≡ 4 → answer_of t s ≡ 0 → row_named (table_after t s) s ≡ with_outage (row_named t s) (end_in s - start_in s)
    outage_row k a =
        let known = ((exactly_outage t s k).0 a).listed in
        ap (λ (u : Table). row_named u s) (accepted_outage k a) ∙ set_same t.rows (row_of (code_in s)) _ (row_there known)

    pub outage_adds :
        kind_of s ≡ 4 →
        answer_of t s ≡ 0 →
        ((row_named (table_after t s) s).outages ≡ (row_named t s).outages + 1) ×
        ((row_named (table_after t s) s).minutes ≡ (row_named t s).minutes + (end_in s - start_in s)) ×
        ((row_named (table_after t s) s).stock ≡ (row_named t s).stock) ×
        ((row_named (table_after t s) s).amount ≡ (row_named t s).amount)
    outage_adds k a =
        let e = outage_row k a in
        (ap (λ (r : Row). r.outages) e, ap (λ (r : Row). r.minutes) e, ap (λ (r : Row). r.stock) e, ap (λ (r : Row). r.amount) e)

    -- a stock is told in the row of its element, where none was: pieces are marked 1, a line 2
    pub stock_row : kind_of s ≡ 5 → answer_of t s ≡ 0 → row_named (table_after t s) s ≡ with_stock (row_named t s) (unit_in s) (amount_in s)
    stock_row k a =
        let known = ((exactly_stock t s k).0 a).listed in
        ap (λ (u : Table). row_named u s) (accepted_stock k a) ∙ set_same t.rows (row_of (code_in s)) _ (row_there known)

    pub stock_tells :
        kind_of s ≡ 5 →
        answer_of t s ≡ 0 →
        ((row_named t s).stock ≡ 0) ×
        ((row_named (table_after t s) s).stock ≡ unit_in s + 1) ×
        ((row_named (table_after t s) s).amount ≡ amount_in s) ×
        ((row_named (table_after t s) s).outages ≡ (row_named t s).outages) ×
        ((row_named (table_after t s) s).minutes ≡ (row_named t s).minutes)
    stock_tells k a =
        let e = stock_row k a in (
          ((exactly_stock t s k).0 a).new,
          ap (λ (r : Row). r.stock) e,
          ap (λ (r : Row). r.amount) e,
          ap (λ (r : Row). r.outages) e,
          ap (λ (r : Row). r.minutes) e,
        )

-- every table that is begun has a row for each element, and keeps them as files are begun
pub begun_rows : (period : ℕ) → length (begun period).rows ≡ 62
begun_rows period = length-replicate 62 no_row

pub begin_rows : (period : ℕ) → length (begin_of period).table.rows ≡ 62
begin_rows period = go (test (period_within period))
  where
    go : Tested (period_within period) → length (begin_of period).table.rows ≡ 62
    go (holds e) = ap (λ (f : Filed). length f.table.rows) (begins period e) ∙ begun_rows period
    go (fails e) = ap (λ (f : Filed). length f.table.rows) (begins_none period e) ∙ begun_rows 0

module _ (t : Table) where
  -- a file that is begun leaves period and rows, and a refused one the mark too
  pub file_leaves : ((file_begun t).table.period ≡ t.period) × ((file_begun t).table.rows ≡ t.rows)
  file_leaves = go (test (sound_table t))
    where
      go : Tested (sound_table t) → ((file_begun t).table.period ≡ t.period) × ((file_begun t).table.rows ≡ t.rows)
      go (holds e) = (ap (λ (f : Filed). f.table.period) (file_begins t e), ap (λ (f : Filed). f.table.rows) (file_begins t e))
      go (fails e) = (ap (λ (f : Filed). f.table.period) (file_refused t e), ap (λ (f : Filed). f.table.rows) (file_refused t e))

  pub file_hands_back : sound_table t ≡ false → (file_begun t).table ≡ t
  file_hands_back u = ap (λ (f : Filed). f.table) (file_refused t u)
