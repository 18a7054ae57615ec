-- P7 meets what the theorem asks: its bytes, taken after the sheet, are a stepped event that counts, and its customers agree with them. So the
-- theorem speaks of it, and of 68696 halves and not of 0. Assumes nothing.
use Prim.Native.Nat.{ℕ, zero, suc, ◌+◌, ◌<◌}
use mathlib.Core.Path.{◌≡◌, refl, ap, ◌∙◌}
use mathlib.Core.List.{List}
use mathlib.Core.Bool.{Bool}
use lib.ListN.{length, get_or, replicate}
use native.Mathlib.Omega.{arith}
use Rattle.base.proofs.ListLaws.{all_append, all_alike}
use Rattle.codes.specs.Codes.{row_of, level_of, cause_listed}
use Rattle.annex.specs.Times.{minutes_in, is_short}
use Rattle.annex.specs.Annex.{counts_of}
use Rattle.annex.specs.Figure.{Halves}
use Rattle.used_numbers.specs.Marks.{marked, marked_with}
use Rattle.fields.specs.Fields.{head_in, steps_in}
use Rattle.record.specs.Verdict.{record_answer, verdict_of}
use Rattle.ledger.specs.Ledger.{empty_ledger, held_in, added}
use Rattle.ledger.specs.Sound.{sound_ledger}
use Rattle.ledger.specs.Take.{answer_of, ledger_after, map_after}
use Rattle.ledger.proofs.CellLaws.{empty_shaped}
use Rattle.ledger.proofs.TakeLaws.{shape_kept}
use Rattle.book.specs.Book.{take_record}
use Rattle.law_sums.specs.Accepted.{zero_map, row_in}
use Rattle.worked.specs.Worked.{sheet105, example105}
use Rattle.law_people.specs.People.{halves_of_all, off_in, Agrees, Counted, AddsByCustomer}
use Rattle.law_people.specs.Example.{in_all, in_two, customers105, before105}
use Rattle.law_people.proofs.CellLaws.{cell_by_customer}

each_of_four : (P : ℕ → Type 0) → P 0 → P 1 → P 2 → P 3 → (k : ℕ) → k < 4 → P k
each_of_four P a b c d zero l = a
each_of_four P a b c d (suc zero) l = b
each_of_four P a b c d (suc (suc zero)) l = c
each_of_four P a b c d (suc (suc (suc zero))) l = d
each_of_four P a b c d (suc (suc (suc (suc k)))) l = absurd (omega (arith, l))

-- "68696 halves", computed customer by customer
pub halves105 : halves_of_all (head_in example105).t0 (steps_in example105) customers105 ≡ 68696
halves105 = refl

-- P7's customers agree with its counts on NN, taken after its sheet it counts, and so it adds customer by customer
pub agrees105 : Agrees 0 (steps_in example105) customers105
agrees105 =
    record {
      entries =
          all_append Four (replicate 62 in_all) (replicate 2356 in_two) (all_alike Four 62 in_all refl) (all_alike Four 2356 in_two refl);
      counts = each_of_four (λ k. off_in k customers105 ≡ get_or (counts_of 0 (steps_in example105)) k 0) refl refl refl refl;
    }
  where
    Four : List Bool → Type 0
    Four c = length c ≡ 4

pub counted105 : Counted before105.ledger before105.map example105
unfolding row_of level_of cause_listed minutes_in is_short marked marked_with record_answer verdict_of added sound_ledger answer_of ledger_after map_after take_record
counted105 = record { kind = refl; accepted = refl; not_short = refl }

pub adds105 : AddsByCustomer before105.ledger before105.map example105 0 customers105
unfolding take_record
adds105 =
    cell_by_customer before105.ledger before105.map example105
    (shape_kept empty_ledger zero_map sheet105 empty_shaped)
    counted105
    0 (omega arith) customers105 agrees105

-- NN's half minutes in its row grow by 68696
pub cell105 :
    held_in Halves (ledger_after before105.ledger before105.map example105) (row_in example105) 0 ≡
    held_in Halves before105.ledger (row_in example105) 0 + 68696
cell105 = adds105.halves ∙ ap (λ x. held_in Halves before105.ledger (row_in example105) 0 + x) halves105
