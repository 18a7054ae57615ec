use Rattle.std.proofs.Common.{◌≡◌, ◌<◌}
use Rattle.cases.proofs.RunLaws.{texts}
use Rattle.cases.specs.Runs.{runs_in, turns_in}
use Rattle.cases.proofs.numbers_by_turns.Given as goal

abbrev pub invariant-loop-digits : goal.invariant-loop-digits
invariant-loop-digits l =
    (goal.iterator-loop-digits).can_next l.digits-iterator × (goal.iterator-loop-digits).is_finite l.digits-iterator × l.count < 16
    × (l.count ≡ (turns_in (runs_in (texts l.yielded))).count)
    × (l.values ≡ (turns_in (runs_in (texts l.yielded))).values)
