-- What is asked of a desk message that is accepted, of each kind by itself: nothing else is (01, "Desk").
use Rattle.std.specs.Prelude.{ℕ, ◌+◌, ◌<◌, ◌≤◌, ◌≡◌, ◌≢◌, List, true, false, length}
use Rattle.wire.specs.Frame.{framed}
use Rattle.codes.specs.Codes.{level_of}
use Rattle.codes.specs.Ranges.{most_events}
use Rattle.annex.specs.Times.{minutes_in}
use Rattle.used_numbers.specs.Marks.{marked}
use Rattle.fields.specs.Fields.{head_in}
use Rattle.fields.specs.Tests.{head_listed}
use Rattle.limits.specs.Limits.{exceeding, above_level, late_step}
use Rattle.ledger.specs.declared.Ledger.{Ledger}
use Rattle.ledger.specs.Take.{unsound}
use Rattle.slot.specs.declared.Slot.{Slot}
use Rattle.desk_scan.specs.Desk.{slot_count, desk_sound, place_of, slot_of, number_in}
use Rattle.desk_rules.specs.Rules.{ordinal_in, step_in}

module _ (l : Ledger) (m : List ℕ) (d : List Slot) (s : List ℕ) where
  -- an open (kind 16)
  pub record OpenRight : Type 0 where
    pub ledger_sound : unsound l m ≡ false
    pub desk_sound_lem : desk_sound d ≡ true
    pub whole : framed s ≡ true
    pub long : length s ≡ 13
    pub sheet : l.sheet.there ≡ true
    pub head_listed_lem : head_listed (head_in s) ≡ true
    pub timely : (head_in s).t0 < minutes_in l.sheet.year
    pub unmarked : marked m (number_in s) ≡ false
    pub not_open_lem : slot_count ≤ place_of (number_in s) d
    pub room : place_of 0 d < slot_count

  -- a step (kind 17)
  pub record StepRight : Type 0 where
    pub ledger_sound : unsound l m ≡ false
    pub desk_sound_lem : desk_sound d ≡ true
    pub whole : framed s ≡ true
    pub long : length s ≡ 23
    pub sheet : l.sheet.there ≡ true
    pub numbered : number_in s ≢ 0
    pub found : place_of (number_in s) d < slot_count
    pub ordinal : ordinal_in s ≡ (slot_of (number_in s) d).steps + 1
    pub few : ordinal_in s ≤ 64
    pub timely : late_step (slot_of (number_in s) d).last (step_in s).time ≡ false
    pub within : exceeding l.sheet.totals (step_in s).counts ≡ false
    pub level : above_level (level_of (slot_of (number_in s) d).head.voltage) (step_in s).counts ≡ false

  -- a close (kind 18)
  pub record CloseRight : Type 0 where
    pub ledger_sound : unsound l m ≡ false
    pub desk_sound_lem : desk_sound d ≡ true
    pub whole : framed s ≡ true
    pub long : length s ≡ 7
    pub sheet : l.sheet.there ≡ true
    pub numbered : number_in s ≢ 0
    pub found : place_of (number_in s) d < slot_count
    pub some : ordinal_in s ≢ 0
    pub all : ordinal_in s ≡ (slot_of (number_in s) d).steps
    pub room : l.events < most_events
