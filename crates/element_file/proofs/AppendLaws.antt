-- The records refused before a run only add to its own. Assumes nothing.
use Prim.Native.Nat.{ℕ, ◌+◌}
use mathlib.Core.Path.{◌≡◌, sym}
use mathlib.Core.List.{List}
use native.Mathlib.Omega.{arith}
use Rattle.records.specs.Records.{one_if_refused}
use Rattle.records.proofs.TakeLaws.{all_forget}
use Rattle.element_table.specs.Rules.{answer_of}
use Rattle.element_file.specs.Yearly.{FileState, take_record, take_all}

-- the same state, with so many refused before it
abbrev pub refused_before : ℕ → FileState → FileState
refused_before n st = record { table = st.table; refused = n + st.refused }

before_record : (n : ℕ) (st : FileState) (s : List ℕ) → refused_before n (take_record st s) ≡ take_record (refused_before n st) s
unfolding take_record
before_record n st s =
    let one : ℕ = one_if_refused (answer_of st.table s) in
    let e : n + (st.refused + one) ≡ n + st.refused + one = omega arith in
    λ i. record { table = (take_record st s).table; refused = e i }

-- with so many refused before, records come to the same table and so many refused more
pub before_all : (n : ℕ) (st : FileState) (ss : List (List ℕ)) → take_all (refused_before n st) ss ≡ refused_before n (take_all st ss)
before_all n st ss = sym (all_forget take_record take_record (refused_before n) (before_record n) st ss)
