-- "A lent table of 32 outage slots": what one slot holds, and how open, step and close change it (01, "The desk").
use Rattle.std.specs.Prelude.{◌+◌}
use Rattle.annex.specs.declared.Course.{Course}
use Rattle.annex.specs.declared.Step.{Step}
use Rattle.annex.specs.Figures.{nothing}
use Rattle.annex.specs.Stepped.{coursed}
use Rattle.fields.specs.declared.Head.{Head}
use Rattle.slot.specs.declared.Slot.{Slot}

-- "frees its slot, which then holds zeros only"
abbrev pub free_slot : Slot
free_slot =
    record { head = record { number = 0; typ = 0; voltage = 0; cause = 0; t0 = 0 }; last = 0; steps = 0; figures = nothing }

-- an outage that begins: its last time is T0, no step is taken
abbrev pub opened_by : Head → Slot
opened_by h = record { head = h; last = h.t0; steps = 0; figures = nothing }

-- what the outage's steps have come to
abbrev pub course_in : Slot → Course
course_in s = record { last = s.last; figures = s.figures }

-- one step more, by the fold of a stepped record: "the counts of step k hold from the time before it (T0 for the first) to its own time"
abbrev pub stepped_by : Slot → Step → Slot
stepped_by s st =
    record { head = s.head; last = (coursed (course_in s) st).last; steps = s.steps + 1; figures = (coursed (course_in s) st).figures }
