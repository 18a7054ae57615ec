-- Why open numbers are to be marked. A lent desk has outage 7 open, on a map that does not mark it. After its close the number can be used again, and
-- the same bytes that were a step of the old outage are a step of the new one. Where 7 is marked, both are refused. All by computing.
-- Assumes nothing.
use mathlib.Core.Path.{◌≡◌, refl}
use mathlib.Core.List.{[], ◌∷◌}
use mathlib.Core.Bool.{true, false≢true}
use lib.ListN.{get_or, replicate, set}
use native.Mathlib.Omega.{arith}
use Rattle.codes.specs.Codes.{rows, row_of, level_of, causes, cause_listed}
use Rattle.annex.specs.Figures.{customers, half_minutes, with_step}
use Rattle.annex.specs.Times.{minutes_in, is_short}
use Rattle.used_numbers.specs.Marks.{marked, marking, marked_with, map_size}
use Rattle.verdict.specs.Verdict.{event_verdict}
use Rattle.record.specs.Verdict.{record_answer, verdict_of}
use Rattle.ledger.specs.declared.Ledger.{Ledger}
use Rattle.ledger.specs.Ledger.{empty_row, added}
use Rattle.ledger.specs.Sound.{sound_ledger}
use Rattle.ledger.specs.Take.{answer_of, ledger_after, map_after}
use Rattle.slot.specs.declared.Slot.{Slot}
use Rattle.slot.specs.Slot.{free_slot, opened_by}
use Rattle.slot.specs.Sound.{is_free, open_sound, slot_sound}
use Rattle.desk_scan.specs.Desk.{desk_sound, place_of}
use Rattle.desk_rules.specs.Plan.{look_answer, plan_of}
use Rattle.desk_rules.specs.Serve.{message_answer, ledger_served, map_served, desk_served}
use Rattle.desk_days.specs.Day.{State, Arrival, message, booked, after_all, Sound, Marked}
use Rattle.desk_days.specs.Late.{answers_to, TooLate}
use Rattle.desk_days.proofs.MarkedDay.{marked_none}

-- a year of three levels with 1000, 10 and 1 customers, and no event yet
abbrev pub year : Ledger
year =
    record {
      sheet = record { there = true; year = 2009; totals = 1000 ∷ 10 ∷ 1 ∷ [] };
      events = 0;
      short = 0;
      rows = replicate rows empty_row;
    }

-- outage 7, on NN, since minute 100, with no step yet
abbrev pub seven : Slot
seven = opened_by (record { number = 7; typ = 11; voltage = 1; cause = 0; t0 = 100 })

-- outage 7 as it is opened later, after that step
abbrev pub seven_again : Slot
seven_again =
    record {
      head = record { number = 7; typ = 11; voltage = 1; cause = 0; t0 = 110 };
      last = 130;
      steps = 1;
      figures =
          record {
            customers = customers 50 ∷ customers 0 ∷ customers 0 ∷ [];
            halves = half_minutes 2000 ∷ half_minutes 0 ∷ half_minutes 0 ∷ [];
          };
    }

-- lent with a map in which no number is marked, and with one in which 7 is
abbrev pub unmarked_day : State
unmarked_day = record { ledger = year; map = replicate map_size 0; desk = seven ∷ replicate 31 free_slot }

abbrev pub marked_day : State
marked_day = record { ledger = year; map = set (replicate map_size 0) 0 128; desk = seven ∷ replicate 31 free_slot }

-- step 1 of outage 7: 50 customers until minute 130; its close after one step; an open of 7 at minute 110; a stepped book event 7
abbrev pub step_1 : Arrival
step_1 = message (23 ∷ 0 ∷ 17 ∷ 0 ∷ 7 ∷ 0 ∷ 1 ∷ 130 ∷ 0 ∷ 0 ∷ 0 ∷ 50 ∷ 0 ∷ 0 ∷ 0 ∷ 0 ∷ 0 ∷ 0 ∷ 0 ∷ 0 ∷ 0 ∷ 0 ∷ 0 ∷ [])

abbrev pub close_7 : Arrival
close_7 = message (7 ∷ 0 ∷ 18 ∷ 0 ∷ 7 ∷ 0 ∷ 1 ∷ [])

abbrev pub open_7 : Arrival
open_7 = message (13 ∷ 0 ∷ 16 ∷ 0 ∷ 7 ∷ 0 ∷ 11 ∷ 1 ∷ 0 ∷ 110 ∷ 0 ∷ 0 ∷ 0 ∷ [])

abbrev pub book_7 : Arrival
book_7 = booked (30 ∷ 0 ∷ 3 ∷ 0 ∷ 7 ∷ 0 ∷ 11 ∷ 1 ∷ 0 ∷ 110 ∷ 0 ∷ 0 ∷ 0 ∷ 1 ∷ 130 ∷ 0 ∷ 0 ∷ 0 ∷ 50 ∷ 0 ∷ 0 ∷ 0 ∷ 0 ∷ 0 ∷ 0 ∷ 0 ∷ 0 ∷ 0 ∷ 0 ∷ 0 ∷ [])

-- both are sound, and both have 7 open; the one does not mark it, the other does
pub both_sound : Sound unmarked_day × Sound marked_day
unfolding sound_ledger desk_sound slot_sound is_free open_sound row_of level_of cause_listed
both_sound = (record { ledger = refl; map = refl; desk = refl }, record { ledger = refl; map = refl; desk = refl })

pub only_one_marked : (place_of 7 unmarked_day.desk ≡ 0) × (place_of 7 marked_day.desk ≡ 0) × Marked marked_day × (Marked unmarked_day → ⊥)
unfolding marked
only_one_marked = (refl, refl, (λ _. refl, marked_none marked_day.map 31), λ k. false≢true (k.0 (λ z. omega arith)))

-- Not marked: after the close an open of 7 is accepted, and then the old outage's step once more; it is counted for the new outage, which began at
-- minute 110: 50 customers, 2 x 50 x 20 half minutes. A book event 7 is accepted as well. So an accepted close alone does not make it too late.
pub marking_is_needed :
    (answers_to unmarked_day (step_1 ∷ close_7 ∷ open_7 ∷ step_1 ∷ []) ≡ 0 ∷ 0 ∷ 0 ∷ 0 ∷ []) ×
    (get_or (after_all unmarked_day (step_1 ∷ close_7 ∷ open_7 ∷ step_1 ∷ [])).desk 0 free_slot ≡ seven_again) ×
    (answers_to unmarked_day (step_1 ∷ close_7 ∷ book_7 ∷ []) ≡ 0 ∷ 0 ∷ 0 ∷ []) ×
    (TooLate 7 (after_all unmarked_day (step_1 ∷ close_7 ∷ [])) → ⊥)
unfolding sound_ledger desk_sound slot_sound is_free open_sound row_of level_of causes cause_listed with_step minutes_in is_short marked marking marked_with event_verdict record_answer verdict_of added answer_of ledger_after map_after look_answer plan_of message_answer ledger_served map_served desk_served
marking_is_needed = (refl, refl, refl, λ late. (late.again_refused open_7 (refl, refl)).not_accepted refl)

-- Marked: 14 for the open, 8 for the step, 14 for the book event.
pub marked_is_refused :
    (answers_to marked_day (step_1 ∷ close_7 ∷ open_7 ∷ step_1 ∷ []) ≡ 0 ∷ 0 ∷ 14 ∷ 8 ∷ []) ×
    (answers_to marked_day (step_1 ∷ close_7 ∷ book_7 ∷ []) ≡ 0 ∷ 0 ∷ 14 ∷ [])
unfolding sound_ledger desk_sound slot_sound is_free open_sound row_of level_of causes cause_listed with_step minutes_in is_short marked marking marked_with event_verdict record_answer verdict_of added answer_of ledger_after map_after look_answer plan_of message_answer ledger_served map_served desk_served
marked_is_refused = (refl, refl)
