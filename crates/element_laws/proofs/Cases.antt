-- *Turned* and *joined* of the two yearly files whose tables are computed: they meet the conditions of both theorems. Assumes nothing.
use Prim.Native.Nat.{ℕ, zero, suc, ◌+◌, ◌<◌, ◌≤◌}
use mathlib.Core.Path.{◌≡◌, refl, sym, ap, subst}
use mathlib.Core.Logic.{◌⊎◌, inl, inr}
use mathlib.Core.List.{List, [], ◌∷◌}
use lib.ListN.{replicate, get_or-replicate}
use native.Mathlib.Omega.{arith}
use Rattle.wire.specs.Cut.{cut_in, records_of, joined}
use Rattle.element_codes.specs.Elements.{codes, element_listed, row_of}
use Rattle.element_row.specs.declared.Row.{Row}
use Rattle.element_row.specs.Row.{no_row}
use Rattle.element_table.specs.Table.{row_or, begun, sound_table}
use Rattle.element_table.specs.Rules.{answer_of}
use Rattle.element_table.specs.Take.{table_after}
use Rattle.element_file.specs.Yearly.{take_record}
use Rattle.element_laws.specs.Turned.{Turned, SameTable}
use Rattle.element_laws.specs.Join.{table_of, row_in, Joinable, Joined}
use Rattle.element_laws.specs.Needed.{year1, year2, turned1, turned2, as_fed, as_turned}
use Rattle.element_laws.proofs.Needed.{fed_turned, fed_records, fed_accepted, first_alone, second_alone}
use Rattle.element_laws.proofs.FileLaws.{Held}
use Rattle.element_laws.proofs.Turning.{turned}
use Rattle.element_laws.proofs.Joining as joining
use Rattle.element_laws.proofs.Joining.{begun_held}

start : Held (begun 2)
start = begun_held 2 refl

-- fed for 2 years, the two files turned are accepted and come to the same table
pub fed_same : SameTable (begun 2) as_fed as_turned
fed_same =
    turned (begun 2) as_fed (turned2 ∷ turned1 ∷ []) start.sound start.size fed_accepted
    (subst (λ (rs : List (List (List ℕ))). Turned rs (turned2 ∷ turned1 ∷ [])) (λ i. sym fed_records.0 i ∷ sym fed_records.1 i ∷ []) fed_turned)

-- the two tables by their rows: code 1 is stocked in the first alone, code 2 in the second alone, and there is nothing in the rows of other codes
abbrev one : List (List ℕ)
one = joined year1 ∷ []

abbrev other : List (List ℕ)
other = joined year2 ∷ []

abbrev Few : ℕ → Type 0
Few row =
    (((row_in (table_of 2 one) row).stock ≡ 0) ⊎ ((row_in (table_of 2 other) row).stock ≡ 0)) ×
    ((row_in (table_of 2 one) row).outages + (row_in (table_of 2 other) row).outages ≤ 65535)

few : (row : ℕ) → row < 62 → Few row
unfolding cut_in records_of codes element_listed row_of sound_table answer_of table_after take_record
few zero l = (inr refl, omega arith)
few (suc zero) l = (inl refl, omega arith)
few (suc (suc row)) l =
    let none : row_or (replicate 60 no_row) row ≡ no_row = get_or-replicate 60 row no_row no_row (omega (arith, l)) in
    (inl (ap (λ (r : Row). r.stock) none), omega (arith, ap (λ (r : Row). r.outages) none))

fed_joinable : Joinable 2 one other
fed_joinable = record { first = first_alone; second = second_alone; apart = λ row l. (few row l).0; room = λ row l. (few row l).1 }

-- fed one after the other for 2 years, the two files are accepted and come to the sums of their tables
pub fed_joined : Joined 2 one other
fed_joined = joining.joined 2 one other refl fed_joinable
