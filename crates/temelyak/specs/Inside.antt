-- Inner vocabulary: what the desk answers, in the words of what taking a record answers.
use Rattle.ledger.specs.Take.{Taken}
use Rattle.desk_rules.specs.Plan.{Served}

abbrev pub handed_back : Served → Taken
handed_back x = record { answer = x.answer; ledger = x.ledger }
