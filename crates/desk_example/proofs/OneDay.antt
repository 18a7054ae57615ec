-- The day, computed from its bytes: so what is proved of every day is met by one. Assumes nothing.
use mathlib.Core.Path.{◌≡◌, refl, sym, subst}
use mathlib.Core.List.{[], ◌∷◌, ◌++◌, map}
use lib.ListN.{replicate, take}
use Rattle.base.proofs.ListLaws.{all_bytes_by_test}
use Rattle.codes.specs.Codes.{row_of, level_of, causes, cause_listed}
use Rattle.annex.specs.Times.{minutes_in, is_short}
use Rattle.annex.specs.Figures.{with_step}
use Rattle.annex.specs.Simple.{simple_figures}
use Rattle.used_numbers.specs.Marks.{marked, marking, marked_with}
use Rattle.verdict.specs.Verdict.{event_verdict}
use Rattle.record.specs.Verdict.{record_answer, verdict_of}
use Rattle.ledger.specs.Ledger.{empty_ledger, added}
use Rattle.ledger.specs.Sound.{sound_ledger}
use Rattle.ledger.specs.Take.{answer_of, ledger_after, map_after}
use Rattle.book.specs.Book.{starting, take_all}
use Rattle.law_sums.specs.Accepted.{zero_map}
use Rattle.slot.specs.Sound.{is_free, open_sound, slot_sound}
use Rattle.desk_scan.specs.Desk.{empty_desk, numbers_of, desk_sound}
use Rattle.desk_rules.specs.Plan.{look_answer, plan_of}
use Rattle.desk_rules.specs.Serve.{message_answer, ledger_served, map_served, desk_served}
use Rattle.desk_days.specs.Day.{message, after_all, accepted_of}
use Rattle.desk_days.specs.Story.{closed_records, complete_records, empty_day, NothingOpen}
use Rattle.desk_days.specs.Late.{answers_to}
use Rattle.desk_days.proofs.StepByStep.{step_by_step, nothing_open}
use Rattle.worked.specs.Worked.{sheet105}
use Rattle.desk_example.specs.OneDay.{ledger, messages, closed_65535, closed_300, closed_5, morning, evening, summary, simple12, arrivals, night, crowd}

-- what is answered to each; that after nine messages 300 has the slot which 65,535 had; the closed events as records of kind 3, byte by byte and in
-- the order of closing; that nothing is open at the end; and three events, one of them short: 2418 customers and 68696 halves on NN, 14 and 280 on
-- VN, 7 and 140 of type 12, and nothing of the short one
pub one_day :
    (answers_to morning (map message messages) ≡ 0 ∷ 0 ∷ 0 ∷ 0 ∷ 9 ∷ 0 ∷ 0 ∷ 8 ∷ 0 ∷ 10 ∷ 14 ∷ 0 ∷ 0 ∷ 0 ∷ 0 ∷ 0 ∷ 2 ∷ []) ×
    (numbers_of (after_all morning (map message (take 9 messages))).desk ≡ 5 ∷ 300 ∷ replicate 30 0) ×
    (closed_records (accepted_of morning (map message messages)) ≡ closed_65535 ∷ closed_300 ∷ closed_5 ∷ []) ×
    (evening.desk ≡ empty_desk) ×
    (summary evening ≡ (3 ∷ 1 ∷ []) ∷ (2418 ∷ 68696 ∷ []) ∷ (14 ∷ 280 ∷ []) ∷ (7 ∷ 140 ∷ []) ∷ (0 ∷ 0 ∷ []) ∷ [])
unfolding row_of level_of causes cause_listed minutes_in is_short with_step simple_figures marked marking marked_with event_verdict record_answer verdict_of added sound_ledger answer_of ledger_after map_after is_free open_sound slot_sound desk_sound look_answer plan_of message_answer ledger_served map_served desk_served
one_day = (refl, refl, refl, refl, refl)

-- the theorem, of this day
pub this_day :
    take_all (starting ledger zero_map) (closed_records (accepted_of morning (map message messages))) ≡
    record { ledger = evening.ledger; map = evening.map; refused = 0 }
this_day = step_by_step ledger zero_map messages (all_bytes_by_test messages refl) (subst NothingOpen (sym one_day.3) (nothing_open 32))

-- ---- the same day with the book's records in between

-- the book's records stand as they are among the closed events
pub mixed_day :
    (answers_to (empty_day empty_ledger zero_map) arrivals ≡ 0 ∷ 0 ∷ 0 ∷ 0 ∷ 0 ∷ 9 ∷ 0 ∷ 0 ∷ 8 ∷ 0 ∷ 0 ∷ 14 ∷ 10 ∷ 14 ∷ 0 ∷ 0 ∷ 0 ∷ 0 ∷ 0 ∷ 2 ∷ []) ×
    (complete_records (accepted_of (empty_day empty_ledger zero_map) arrivals) ≡ sheet105 ∷ closed_65535 ∷ simple12 ∷ closed_300 ∷ closed_5 ∷ []) ×
    (night.desk ≡ empty_desk) ×
    (summary night ≡ (4 ∷ 1 ∷ []) ∷ (2423 ∷ 68736 ∷ []) ∷ (14 ∷ 280 ∷ []) ∷ (7 ∷ 140 ∷ []) ∷ (0 ∷ 0 ∷ []) ∷ [])
unfolding row_of level_of causes cause_listed minutes_in is_short with_step simple_figures marked marking marked_with event_verdict record_answer verdict_of added sound_ledger answer_of ledger_after map_after is_free open_sound slot_sound desk_sound look_answer plan_of message_answer ledger_served map_served desk_served
mixed_day = (refl, refl, refl, refl)

-- ---- a full desk

-- with 32 outages open a further open is answered 16; once they are closed it is accepted, and takes the first slot
pub full_desk :
    (answers_to morning (map message crowd) ≡ replicate 32 0 ++ (16 ∷ replicate 65 0)) ×
    (numbers_of (after_all morning (map message crowd)).desk ≡ 33 ∷ replicate 31 0)
unfolding row_of level_of causes cause_listed minutes_in is_short with_step simple_figures marked marking marked_with event_verdict record_answer verdict_of added sound_ledger answer_of ledger_after map_after is_free open_sound slot_sound desk_sound look_answer plan_of message_answer ledger_served map_served desk_served
full_desk = (refl, refl)
