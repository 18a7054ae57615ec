-- The year of 003, 10.2, with its events turned round: accepted, with the same ledger, map and totals. By computing. Assumes nothing.
use mathlib.Core.Path.{◌≡◌, refl}
use mathlib.Core.List.{[], ◌∷◌}
use lib.ListN.{get_or}
use Rattle.wire.specs.Book.{place_at}
use Rattle.wire.specs.Cut.{cut_in, records_of, stop_in, stop_from}
use Rattle.codes.specs.Codes.{row_of, level_of, causes, cause_listed, row_held}
use Rattle.annex.specs.Times.{minutes_in, is_short}
use Rattle.annex.specs.Figures.{with_step}
use Rattle.annex.specs.Simple.{simple_figures}
use Rattle.used_numbers.specs.Marks.{marked, marking, marked_with}
use Rattle.verdict.specs.Verdict.{event_verdict}
use Rattle.record.specs.Inside.{answer_at, verdict_at}
use Rattle.record.specs.Verdict.{record_answer, verdict_of}
use Rattle.ledger.specs.Ledger.{added}
use Rattle.ledger.specs.Sound.{sound_ledger}
use Rattle.ledger.specs.Take.{answer_of, ledger_after, map_after}
use Rattle.book.specs.Book.{take_record}
use Rattle.law_sums.specs.Accepted.{Accepted, number_in}
use Rattle.index.specs.declared.Level.TheVariants as level
use Rattle.index.specs.Sums.{level_sum}
use Rattle.worked.specs.Worked.{year, ledger_of, totals}
use Rattle.law_order.specs.Reorder.{end, SameEnd}
use Rattle.law_order.specs.Turned.{year_sheet, as_worked, turned_year}

pub year_records : records_of year ≡ year_sheet ∷ as_worked
unfolding cut_in records_of
year_records = refl

pub year_accepted : Accepted year
unfolding cut_in records_of stop_in stop_from place_at row_of level_of causes cause_listed minutes_in is_short with_step simple_figures marked marking marked_with event_verdict answer_at verdict_at record_answer verdict_of added sound_ledger answer_of ledger_after map_after take_record
year_accepted = record { whole = refl; all = refl }

-- accepted, with the same ledger and the same map at its end
pub turned_ends : SameEnd year turned_year
unfolding cut_in records_of stop_in stop_from place_at row_of level_of causes cause_listed minutes_in is_short with_step simple_figures marked marking marked_with event_verdict answer_at verdict_at record_answer verdict_of added sound_ledger answer_of ledger_after map_after take_record
turned_ends = record { accepted = record { whole = refl; all = refl }; ledger = refl; map = refl }

-- the numbers of the first events, which differ; the totals of NN, VN and VVN, which are the same; and the byte of the map that has the numbers 1, 2, 3
pub turned_figures :
    (number_in (get_or (records_of year) 1 []) ≡ 1) ×
    (number_in (get_or (records_of turned_year) 1 []) ≡ 3) ×
    (totals (ledger_of turned_year) level.NN ≡ 3000 ∷ 158000 ∷ []) ×
    (totals (ledger_of turned_year) level.VN ≡ 20 ∷ 580 ∷ []) ×
    (totals (ledger_of turned_year) level.VVN ≡ 1 ∷ 8 ∷ []) ×
    ((ledger_of turned_year).events ≡ 3) ×
    (get_or (end turned_year).map 0 0 ≡ 14)
unfolding cut_in records_of row_of level_of causes cause_listed row_held minutes_in is_short with_step simple_figures marked marking marked_with event_verdict answer_at verdict_at record_answer verdict_of added sound_ledger answer_of ledger_after map_after take_record level_sum
turned_figures = (refl, refl, refl, refl, refl, refl, refl)
