-- The records refused before a run only add to its own. Assumes nothing.
use Prim.Native.Nat.{ℕ, ◌+◌}
use mathlib.Core.Path.{◌≡◌, sym}
use mathlib.Core.List.{List}
use native.Mathlib.Omega.{arith}
use Rattle.records.specs.Records.{one_if_refused}
use Rattle.records.proofs.TakeLaws.{all_forget}
use Rattle.ledger.specs.Take.{answer_of}
use Rattle.book.specs.Book.{BookState, take_record, take_all}

-- the same state, with so many refused before it
abbrev pub refused_before : ℕ → BookState → BookState
refused_before n st = record { ledger = st.ledger; map = st.map; refused = n + st.refused }

before_record : (n : ℕ) (st : BookState) (s : List ℕ) → refused_before n (take_record st s) ≡ take_record (refused_before n st) s
unfolding take_record
before_record n st s =
    let one : ℕ = one_if_refused (answer_of st.ledger st.map s) in
    let e : n + (st.refused + one) ≡ n + st.refused + one = omega arith in
    λ i. record { ledger = (take_record st s).ledger; map = (take_record st s).map; refused = e i }

pub before_all : (n : ℕ) (st : BookState) (ss : List (List ℕ)) → take_all (refused_before n st) ss ≡ refused_before n (take_all st ss)
before_all n st ss = sym (all_forget take_record take_record (refused_before n) (before_record n) st ss)
