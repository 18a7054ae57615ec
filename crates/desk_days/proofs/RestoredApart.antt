-- Why ledger, map and desk are stored and restored together. The desk is from before the close of outage 7, ledger and map are from after it: all is
-- sound and 7 is marked, so that no call can tell, and the same close counts the outage a second time. All by computing. Assumes nothing.
use Prim.Native.Nat.{ℕ}
use mathlib.Core.Path.{◌≡◌, refl}
use mathlib.Core.List.{List, [], ◌∷◌}
use Rattle.codes.specs.Codes.{row_of, level_of, causes, cause_listed}
use Rattle.annex.specs.Figures.{with_step}
use Rattle.annex.specs.Times.{minutes_in, is_short}
use Rattle.used_numbers.specs.Marks.{marked, marked_with}
use Rattle.verdict.specs.Verdict.{event_verdict}
use Rattle.ledger.specs.declared.Ledger.{Ledger}
use Rattle.ledger.specs.Ledger.{cell_of, added}
use Rattle.ledger.specs.Sound.{sound_ledger}
use Rattle.slot.specs.Sound.{is_free, open_sound, slot_sound}
use Rattle.desk_scan.specs.Desk.{desk_sound}
use Rattle.desk_rules.specs.Plan.{look_answer, plan_of}
use Rattle.desk_rules.specs.Serve.{message_answer, ledger_served, map_served, desk_served}
use Rattle.desk_days.specs.Day.{State, after, after_all, Sound, Marked}
use Rattle.desk_days.specs.Late.{answers_to}
use Rattle.desk_days.proofs.MarkedDay.{marked_none}
use Rattle.desk_days.proofs.MarkingNeeded.{marked_day, step_1, close_7}

-- outage 7 with its step taken, and then closed
abbrev pub stepped_day : State
stepped_day = after_all marked_day (step_1 ∷ [])

abbrev pub closed_day : State
closed_day = after_all marked_day (step_1 ∷ close_7 ∷ [])

-- the desk restored from before the close, ledger and map from after it
abbrev pub restored_apart : State
restored_apart = record { ledger = closed_day.ledger; map = closed_day.map; desk = stepped_day.desk }

-- events, and NN's customers and half minutes of type 11
abbrev pub counted : Ledger → List ℕ
counted l = l.events ∷ (cell_of l 0 0).customers.0 ∷ (cell_of l 0 0).halves.0 ∷ []

-- the state restored apart is sound, and every open number is marked in it
pub restored_sound : Sound restored_apart × Marked restored_apart
unfolding sound_ledger desk_sound slot_sound is_free open_sound row_of level_of causes cause_listed with_step minutes_in is_short marked event_verdict added look_answer plan_of message_answer ledger_served map_served desk_served marked_with
restored_sound = (record { ledger = refl; map = refl; desk = refl }, (λ _. refl, marked_none restored_apart.map 31))

-- 50 customers, 2 x 50 x 30 half minutes: once after the close, twice after it was taken again
pub counted_twice :
    (counted closed_day.ledger ≡ 1 ∷ 50 ∷ 3000 ∷ []) ×
    (answers_to restored_apart (close_7 ∷ []) ≡ 0 ∷ []) ×
    (counted (after restored_apart close_7).ledger ≡ 2 ∷ 100 ∷ 6000 ∷ [])
unfolding sound_ledger desk_sound slot_sound is_free open_sound row_of level_of causes cause_listed with_step minutes_in is_short event_verdict added look_answer plan_of message_answer ledger_served map_served desk_served marked_with
counted_twice = (refl, refl, refl)

-- where the three are from one time, the close is refused (8)
pub counted_once : answers_to closed_day (close_7 ∷ []) ≡ 8 ∷ []
unfolding sound_ledger desk_sound slot_sound is_free open_sound row_of level_of causes cause_listed with_step minutes_in is_short event_verdict added look_answer plan_of message_answer ledger_served map_served desk_served marked_with
counted_once = refl
