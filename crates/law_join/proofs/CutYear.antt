-- *Joining* of the worked year's parts: joined they are the year's book, their figures are computed and not zero, and the year's are the sums (P1 to P3).
-- A part joined with itself, and one joined to a book under another sheet, are not accepted. Assumes nothing.
use Prim.Native.Nat.{ℕ}
use mathlib.Core.Path.{◌≡◌, refl, ap}
use mathlib.Core.List.{List, [], ◌∷◌}
use mathlib.Core.Bool.{true≢false}
use lib.ListN.{get_or}
use native.Mathlib.Omega.{arith}
use Rattle.base.proofs.ListLaws.{bytes_by_test}
use Rattle.wire.specs.Book.{place_at}
use Rattle.wire.specs.Cut.{cut_in, records_of, stop_in, stop_from}
use Rattle.codes.specs.Codes.{row_of, level_of, causes, cause_listed, row_held}
use Rattle.annex.specs.Times.{minutes_in, is_short}
use Rattle.annex.specs.Figures.{with_step}
use Rattle.annex.specs.Simple.{simple_figures}
use Rattle.used_numbers.specs.Marks.{marked, marking, marked_with}
use Rattle.verdict.specs.Verdict.{event_verdict}
use Rattle.record.specs.Inside.{answer_at, verdict_at}
use Rattle.record.specs.Verdict.{record_answer, verdict_of}
use Rattle.ledger.specs.Ledger.{empty_ledger, added}
use Rattle.ledger.specs.Sound.{sound_ledger}
use Rattle.ledger.specs.Take.{answer_of, ledger_after, map_after}
use Rattle.book.specs.Book.{take_record, after_book}
use Rattle.law_sums.specs.Accepted.{zero_map, Accepted}
use Rattle.law_sums.specs.Theorem.{book_ledger, book_map}
use Rattle.index.specs.Sums.{level_sum}
use Rattle.worked.specs.Worked.{year}
use Rattle.law_order.specs.Turned.{first}
use Rattle.law_order.proofs.ShapeLaws.{no_bytes_accepted}
use Rattle.law_join.specs.Join.{SharesNone, SameSheet, joined_book, JoinAdds}
use Rattle.law_join.specs.Parts.{with1, with23, with12, with3, fewer, figures}
use Rattle.law_join.proofs.Joining.{join_adds}

-- each is accepted
parts_accepted : Accepted with1 × Accepted with23 × Accepted with12 × Accepted with3
unfolding place_at cut_in records_of stop_in stop_from row_of level_of causes cause_listed minutes_in is_short with_step simple_figures marked marking marked_with event_verdict answer_at verdict_at record_answer verdict_of added sound_ledger answer_of ledger_after map_after take_record
parts_accepted = (
  record { whole = refl; all = refl },
  record { whole = refl; all = refl },
  record { whole = refl; all = refl },
  record { whole = refl; all = refl },
)

-- joined they are the year's book
pub joined_year : (joined_book with1 with23 ≡ year) × (joined_book with12 with3 ≡ year)
unfolding cut_in records_of
joined_year = (refl, refl)

-- and its figures are the sums
pub cut_after_1 : JoinAdds with1 with23
unfolding cut_in records_of
cut_after_1 =
    join_adds with1 with23 (bytes_by_test with1 refl) (bytes_by_test with23 refl) parts_accepted.0 parts_accepted.1 refl (refl, (refl, tt))

pub cut_after_2 : JoinAdds with12 with3
unfolding cut_in records_of
cut_after_2 =
    join_adds with12 with3 (bytes_by_test with12 refl) (bytes_by_test with3 refl) parts_accepted.2 parts_accepted.3 refl (refl, tt)

-- which are, computed
pub cut_figures :
    (figures with1 ≡ 1 ∷ 0 ∷ 1000 ∷ 8000 ∷ 10 ∷ 80 ∷ 1 ∷ 8 ∷ []) ×
    (figures with23 ≡ 2 ∷ 0 ∷ 2000 ∷ 150000 ∷ 10 ∷ 500 ∷ 0 ∷ 0 ∷ []) ×
    (figures (joined_book with1 with23) ≡ 3 ∷ 0 ∷ 3000 ∷ 158000 ∷ 20 ∷ 580 ∷ 1 ∷ 8 ∷ []) ×
    (figures with12 ≡ 2 ∷ 0 ∷ 2000 ∷ 58000 ∷ 20 ∷ 580 ∷ 1 ∷ 8 ∷ []) ×
    (figures with3 ≡ 1 ∷ 0 ∷ 1000 ∷ 100000 ∷ 0 ∷ 0 ∷ 0 ∷ 0 ∷ []) ×
    (figures (joined_book with12 with3) ≡ 3 ∷ 0 ∷ 3000 ∷ 158000 ∷ 20 ∷ 580 ∷ 1 ∷ 8 ∷ [])
unfolding cut_in records_of row_of level_of causes cause_listed row_held minutes_in is_short with_step simple_figures marked marking marked_with event_verdict answer_at verdict_at record_answer verdict_of added sound_ledger answer_of ledger_after map_after take_record level_sum
cut_figures = (refl, refl, refl, refl, refl, refl)

-- two books of no bytes join too
pub nothing_joined : JoinAdds [] []
unfolding cut_in records_of
nothing_joined = join_adds [] [] tt tt no_bytes_accepted no_bytes_accepted refl tt

-- a number that is shared: fault 1, after fault 1, is answered 14, and the part joined with itself has a refused record
pub shared_refused :
    (SharesNone with1 with1 → ⊥) ×
    (answer_of (book_ledger with1) (book_map with1) first ≡ 14) ×
    ((after_book empty_ledger zero_map (joined_book with1 with1)).refused ≡ 1)
unfolding cut_in records_of row_of level_of causes cause_listed minutes_in is_short with_step simple_figures marked marking marked_with event_verdict answer_at verdict_at record_answer verdict_of added sound_ledger answer_of ledger_after map_after take_record
shared_refused = (λ s. true≢false s.0, refl, refl)

-- another sheet: under it, joined to its book, faults 2 and 3 have more customers than there are
pub other_sheet_refused :
    Accepted fewer ×
    (SameSheet fewer with23 → ⊥) ×
    ((after_book empty_ledger zero_map (joined_book fewer with23)).refused ≡ 2)
unfolding place_at cut_in records_of stop_in stop_from row_of level_of causes cause_listed minutes_in is_short with_step simple_figures marked marking marked_with event_verdict answer_at verdict_at record_answer verdict_of added sound_ledger answer_of ledger_after map_after take_record
other_sheet_refused = (
  record { whole = refl; all = refl },
  (λ same. let nn : ◌≡◌ {A = ℕ} 100 232 = ap (λ (ss : List (List ℕ)). get_or (get_or ss 0 []) 6 0) same in omega arith),
  refl,
)
