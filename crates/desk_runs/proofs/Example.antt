-- 003, 10.5, told as messages: the bytes of each message, and the same end as that of the book. By computing. Assumes nothing.
use mathlib.Core.Path.{◌≡◌, refl}
use mathlib.Core.List.{[], ◌∷◌}
use mathlib.Core.Bool.{true}
use lib.ListN.{replicate}
use Rattle.wire.specs.Book.{place_at}
use Rattle.wire.specs.Cut.{cut_in, records_of, stop_in, stop_from}
use Rattle.codes.specs.Codes.{row_of, level_of, causes, cause_listed}
use Rattle.annex.specs.Times.{minutes_in, is_short}
use Rattle.annex.specs.Figures.{with_step}
use Rattle.annex.specs.Simple.{simple_figures}
use Rattle.used_numbers.specs.Marks.{marked, marking, marked_with}
use Rattle.verdict.specs.Verdict.{event_verdict}
use Rattle.record.specs.Inside.{answer_at, verdict_at}
use Rattle.record.specs.Verdict.{record_answer, verdict_of}
use Rattle.ledger.specs.Ledger.{empty_ledger, added}
use Rattle.ledger.specs.Sound.{sound_ledger}
use Rattle.ledger.specs.Take.{answer_of, ledger_after, map_after}
use Rattle.book.specs.Book.{take_record}
use Rattle.law_sums.specs.Accepted.{zero_map, Accepted}
use Rattle.slot.specs.Sound.{is_free, open_sound, slot_sound}
use Rattle.desk_scan.specs.Desk.{desk_sound}
use Rattle.desk_rules.specs.Plan.{look_answer, plan_of}
use Rattle.desk_rules.specs.Serve.{message_answer, ledger_served, map_served, desk_served}
use Rattle.desk_days.specs.Story.{empty_day}
use Rattle.desk_days.specs.Late.{answers_to}
use Rattle.worked.specs.Worked.{sheet105, example105}
use Rattle.desk_runs.specs.Messages.{messages_of}
use Rattle.desk_runs.specs.Runs.{SameEnd, day_of}
use Rattle.desk_runs.specs.Example.{book105, day105, evening105, cell}

pub book105_accepted : Accepted book105
unfolding cut_in records_of stop_in stop_from place_at row_of level_of causes cause_listed minutes_in is_short with_step simple_figures marked marking marked_with event_verdict answer_at verdict_at record_answer verdict_of added sound_ledger answer_of ledger_after map_after take_record
book105_accepted = record { whole = refl; all = refl }

pub book105_records : records_of book105 ≡ sheet105 ∷ example105 ∷ []
unfolding cut_in records_of
book105_records = refl

-- where the sheet is chosen too it is entered all the same
pub sheet_chosen : day_of (true ∷ true ∷ []) (sheet105 ∷ example105 ∷ []) ≡ day105
sheet_chosen = refl

-- its messages byte by byte: the open, "times 84, 87, 167, 174, NN counts 62, 2418, 62, 2418", VN counts 0, 14, 0, 14, and the close
pub messages105 :
    messages_of example105 ≡
    (13 ∷ 0 ∷ 16 ∷ 0 ∷ 1 ∷ 0 ∷ 11 ∷ 5 ∷ 0 ∷ 0 ∷ 0 ∷ 0 ∷ 0 ∷ []) ∷
    (23 ∷ 0 ∷ 17 ∷ 0 ∷ 1 ∷ 0 ∷ 1 ∷ 84 ∷ 0 ∷ 0 ∷ 0 ∷ 62 ∷ 0 ∷ 0 ∷ 0 ∷ 0 ∷ 0 ∷ 0 ∷ 0 ∷ 0 ∷ 0 ∷ 0 ∷ 0 ∷ []) ∷
    (23 ∷ 0 ∷ 17 ∷ 0 ∷ 1 ∷ 0 ∷ 2 ∷ 87 ∷ 0 ∷ 0 ∷ 0 ∷ 114 ∷ 9 ∷ 0 ∷ 0 ∷ 14 ∷ 0 ∷ 0 ∷ 0 ∷ 0 ∷ 0 ∷ 0 ∷ 0 ∷ []) ∷
    (23 ∷ 0 ∷ 17 ∷ 0 ∷ 1 ∷ 0 ∷ 3 ∷ 167 ∷ 0 ∷ 0 ∷ 0 ∷ 62 ∷ 0 ∷ 0 ∷ 0 ∷ 0 ∷ 0 ∷ 0 ∷ 0 ∷ 0 ∷ 0 ∷ 0 ∷ 0 ∷ []) ∷
    (23 ∷ 0 ∷ 17 ∷ 0 ∷ 1 ∷ 0 ∷ 4 ∷ 174 ∷ 0 ∷ 0 ∷ 0 ∷ 114 ∷ 9 ∷ 0 ∷ 0 ∷ 14 ∷ 0 ∷ 0 ∷ 0 ∷ 0 ∷ 0 ∷ 0 ∷ 0 ∷ []) ∷
    (7 ∷ 0 ∷ 18 ∷ 0 ∷ 1 ∷ 0 ∷ 4 ∷ []) ∷ []
messages105 = refl

-- it ends as the book does
pub built_105 : SameEnd book105 day105
unfolding cut_in records_of row_of level_of causes cause_listed minutes_in is_short with_step simple_figures marked marking marked_with event_verdict answer_at verdict_at record_answer verdict_of added sound_ledger answer_of ledger_after map_after take_record is_free open_sound slot_sound desk_sound look_answer plan_of message_answer ledger_served map_served desk_served
built_105 = record { ledger = refl; map = refl; desk = refl }

-- all is accepted; one event, not short; P7 and P8
pub figures105 :
    (answers_to (empty_day empty_ledger zero_map) day105 ≡ replicate 7 0) ×
    (evening105.ledger.events ≡ 1) ×
    (evening105.ledger.short ≡ 0) ×
    (cell evening105.ledger 0 ≡ 2418 ∷ 68696 ∷ []) ×
    (cell evening105.ledger 1 ≡ 14 ∷ 280 ∷ [])
unfolding row_of level_of causes cause_listed minutes_in is_short with_step simple_figures marked marking marked_with event_verdict answer_at verdict_at record_answer verdict_of added sound_ledger answer_of ledger_after map_after is_free open_sound slot_sound desk_sound look_answer plan_of message_answer ledger_served map_served desk_served
figures105 = (refl, refl, refl, refl, refl)
