use Rattle.std.proofs.Common.{◌≤◌}
use Rattle.cases.proofs.RunLaws.{Told, texts}
use Rattle.cases.specs.Runs.{runs_in}
use Rattle.cases.proofs.first_numbers.Given as goal

abbrev pub invariant-loop-digits : goal.invariant-loop-digits
invariant-loop-digits l =
    (goal.iterator-loop-digits).can_next l.digits-iterator × (goal.iterator-loop-digits).is_finite l.digits-iterator × l.count ≤ 12
    × Told (runs_in (texts l.yielded)) l.count l.values
