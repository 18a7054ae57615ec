-- What the whole pass gives is what the pass over the slots that are left adds to what it has gathered so far. Assumes nothing.
use mathlib.Core.Path.{◌≡◌}
use lib.ListN.{drop}
use Rattle.desk_scan.specs.Inside.{rolled, roll_of}
use Rattle.desk.proofs.roll_of.Given as goal

abbrev pub invariant-loop-i : goal.invariant-loop-i
invariant-loop-i l = rolled l.roll l.i (drop l.i l.desk) ≡ roll_of l.desk
