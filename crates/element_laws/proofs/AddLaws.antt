-- *Accepted records add exactly*: an accepted sheet leaves the rows, an accepted outage or stock tells its own element's row, and a refused record leaves
-- the table. Assumes nothing.
use Prim.Native.Nat.{ℕ, ◌+◌}
use mathlib.Core.Path.{◌≡◌, sym, ap, ◌∙◌}
use mathlib.Core.Logic.{◌⊎◌, inl, inr}
use mathlib.Core.List.{List, [], ◌∷◌}
use mathlib.Core.Bool.{Bool, true, false, cond}
use lib.ListN.{length}
use lib.Dec.{eqb}
use native.Mathlib.Nat.{add-zero}
use native.Mathlib.Omega.{arith}
use borrow.Author.Tests.{eqb-true, eqb-false}
use Rattle.base.proofs.TestLaws.{Tested, holds, fails, test}
use Rattle.wire.specs.Frame.{kind_of}
use Rattle.element_row.specs.declared.Row.{Row}
use Rattle.element_table.specs.declared.Table.{Table}
use Rattle.element_table.specs.Table.{row_or, sound_table}
use Rattle.element_table.specs.Rules.{answer_of}
use Rattle.element_table.specs.Take.{table_after}
use Rattle.element_table.proofs.AnswerLaws.{accepted_kind}
use Rattle.element_table.proofs.ExactlyThen.{exactly_outage, exactly_stock}
use Rattle.element_table.proofs.RefusedLaws.{refused_hands_back, rows_kept, sheet_leaves_rows}
use Rattle.element_table.proofs.SoundLaws.{sound_stays_sound}
use Rattle.element_file.specs.Yearly.{FileState, take_record, take_all}
use Rattle.element_laws.specs.Tally.{is_outage, is_stock, tallied}
use Rattle.element_laws.specs.Adds.{accepted_ones, refused_ones, Adds}
use Rattle.element_laws.proofs.SumLaws.{same_row}
use Rattle.element_laws.proofs.TallyLaws.{Ready, one, one_more, accepted_fitting, grown}

-- nothing told leaves a row
nothing_told : (r : Row) (row : ℕ) → r ≡ tallied r row []
nothing_told r row = same_row r _ (sym (add-zero _)) (sym (add-zero _)) (sym (add-zero _)) (sym (add-zero _))

module _ (t : Table) (s : List ℕ) (sound : sound_table t ≡ true) (size : length t.rows ≡ 62) where
  -- one accepted record
  accepted_tells : answer_of t s ≡ 0 → (row : ℕ) → row_or (table_after t s).rows row ≡ one (row_or t.rows row) row s
  accepted_tells a row = go (accepted_kind t s a)
    where
      ready : t.seen ≡ true → Ready t
      ready seen = record { sound = sound; size = size; seen = seen }

      tells : Ready t → row_or (table_after t s).rows row ≡ one (row_or t.rows row) row s
      tells r = grown t s r (accepted_fitting t s r a) a row

      no_outage : kind_of s ≡ 1 → is_outage row s ≡ false
      no_outage k = rw k

      no_stock : kind_of s ≡ 1 → is_stock row s ≡ false
      no_stock k = rw k

      go : (kind_of s ≡ 1) ⊎ ((kind_of s ≡ 4) ⊎ (kind_of s ≡ 5)) → row_or (table_after t s).rows row ≡ one (row_or t.rows row) row s
      go (inl k) =
          ap (λ rows. row_or rows row) (sheet_leaves_rows t s k) ∙
          rw (no_outage k, no_stock k) (same_row (row_or t.rows row) _ (sym (add-zero _)) (sym (add-zero _)) (sym (add-zero _)) (sym (add-zero _)))
      go (inr (inl k)) = tells (ready ((exactly_outage t s k).0 a).seen)
      go (inr (inr k)) = tells (ready ((exactly_stock t s k).0 a).seen)

-- all records, the refused ones passed over
module _ (row : ℕ) where
  -- from a sound table of 62 rows on, a row grows by what the accepted records tell of it
  pub rows_add :
      (st : FileState) (ss : List (List ℕ)) →
      sound_table st.table ≡ true →
      length st.table.rows ≡ 62 →
      row_or (take_all st ss).table.rows row ≡ tallied (row_or st.table.rows row) row (accepted_ones st ss)
  unfolding take_record
  rows_add st [] sound size = nothing_told (row_or st.table.rows row) row
  rows_add st (s ∷ ss) sound size =
      go (test (eqb (answer_of st.table s) 0))
      (rows_add (take_record st s) ss (sound_stays_sound st.table s sound) (rows_kept st.table s ∙ size))
    where
      others : List (List ℕ)
      others = accepted_ones (take_record st s) ss

      here : Row
      here = row_or st.table.rows row

      go :
          Tested (eqb (answer_of st.table s) 0) →
          row_or (take_all st (s ∷ ss)).table.rows row ≡ tallied (row_or (table_after st.table s).rows row) row others →
          row_or (take_all st (s ∷ ss)).table.rows row ≡ tallied here row (cond (eqb (answer_of st.table s) 0) (s ∷ others) others)
      go (holds e) later =
          later ∙
          ap (λ (r : Row). tallied r row others) (accepted_tells st.table s sound size (eqb-true _ _ e) row) ∙
          one_more here row s others ∙
          ap (λ (b : Bool). tallied here row (cond b (s ∷ others) others)) (sym e)
      go (fails e) later =
          later ∙
          ap (λ (t : Table). tallied (row_or t.rows row) row others) (refused_hands_back st.table s (eqb-false _ _ e)) ∙
          ap (λ (b : Bool). tallied here row (cond b (s ∷ others) others)) (sym e)

refused_add : (st : FileState) (ss : List (List ℕ)) → (take_all st ss).refused ≡ st.refused + length (refused_ones st ss)
unfolding take_record
refused_add st [] = sym (add-zero st.refused)
refused_add st (s ∷ ss) = refused_add (take_record st s) ss ∙ go (eqb (answer_of st.table s) 0)
  where
    others : List (List ℕ)
    others = refused_ones (take_record st s) ss

    go : (t : Bool) → st.refused + cond t 0 1 + length others ≡ st.refused + length (cond t others (s ∷ others))
    go true = omega arith
    go false = omega arith

-- the theorem: from a sound table of 62 rows on, each row grows by what the accepted records tell, and every refused one is counted
pub accepted_records_add : (st : FileState) (ss : List (List ℕ)) → sound_table st.table ≡ true → length st.table.rows ≡ 62 → Adds st ss
accepted_records_add st ss sound size = record { rows = λ row l. rows_add row st ss sound size; refused = refused_add st ss }
