-- *Accepted records add exactly* (02, K1), of any records taken from any sound table on, refused ones passed over: each element's row grows by what the
-- accepted ones tell of it, and by nothing else.
use Rattle.std.specs.Prelude.{ℕ, ◌+◌, ◌<◌, ◌≡◌, List, [], ◌∷◌, cond, length, eqb}
use Rattle.element_table.specs.Table.{row_or}
use Rattle.element_table.specs.Rules.{answer_of}
use Rattle.element_file.specs.Yearly.{FileState, take_record, take_all}
use Rattle.element_laws.specs.Tally.{tallied}

-- the records that are accepted, and those that are refused, among those taken from a state on
abbrev pub accepted_ones : FileState → List (List ℕ) → List (List ℕ)
accepted_ones st [] = []
accepted_ones st (s ∷ ss) =
    cond (eqb (answer_of st.table s) 0) (s ∷ accepted_ones (take_record st s) ss) (accepted_ones (take_record st s) ss)

abbrev pub refused_ones : FileState → List (List ℕ) → List (List ℕ)
refused_ones st [] = []
refused_ones st (s ∷ ss) =
    cond (eqb (answer_of st.table s) 0) (refused_ones (take_record st s) ss) (s ∷ refused_ones (take_record st s) ss)

pub record Adds (st : FileState) (ss : List (List ℕ)) : Type 0 where
  pub rows : (row : ℕ) → row < 62 → row_or (take_all st ss).table.rows row ≡ tallied (row_or st.table.rows row) row (accepted_ones st ss)
  pub refused : (take_all st ss).refused ≡ st.refused + length (refused_ones st ss)
