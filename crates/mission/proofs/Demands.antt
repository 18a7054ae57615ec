-- The three demands, put together from the crates' own theorems. Assumes nothing.
use Rattle.ledger.proofs.ExactlyThen as record_exactly
use Rattle.ledger.proofs.TakeLaws.{refused_hands_back}
use Rattle.book.proofs.RunLaws.{read_nothing}
use Rattle.desk_rules.proofs.ExactlyThen as message-exactly
use Rattle.desk_rules.proofs.MessageLaws.{refused_same}
use Rattle.index.proofs.IndexLaws as index
use Rattle.law_sums.proofs.AnnexTheorem.{adds_exactly, accepted_book_adds}
use Rattle.law_people.proofs.CellLaws.{cell_by_customer}
use Rattle.law_order.proofs.Reordering as order
use Rattle.law_join.proofs.Joining.{join_adds}
use Rattle.law_adding.proofs.AddingTheorem.{accepted_book_adds_up}
use Rattle.law_adding.proofs.IdentityLaws.{multiplies}
use Rattle.law_index.proofs.EndToEnd.{end_to_end}
use Rattle.desk_days.proofs.StepByStep as desk
use Rattle.desk_sums.proofs.SumLaws.{desk_adds}
use Rattle.temelyak.proofs.RefusedSame.{lent_same}
use Rattle.mission.specs.Mission.{Demand1, Demand2, Demand3}

-- every record, message and index gets an answer or a numbered refusal; a refused record, message or book changes nothing
pub demand_1 : Demand1
demand_1 =
    record {
      record_answered = record_exactly.exactly;
      message_answered = message-exactly.exactly;
      record_numbered = record_exactly.exactly_no_other;
      message_numbered = message-exactly.exactly_no_other;
      index_answered = index.index_exactly;
      record_refused = refused_hands_back;
      message_refused = refused_same;
      book_refused = read_nothing;
      call_refused = lent_same;
    }

-- accepted events add the annex's sums, an index is its formula in lowest terms, and outages closed at a desk count as records do
pub demand_2 : Demand2
demand_2 =
    record {
      events_add = adds_exactly;
      book_adds = accepted_book_adds;
      index_exact = index.index_exact;
      book_index = end_to_end;
      step_by_step = desk.step_by_step;
    }

-- customer-minutes are those added by customer, books may be reordered and joined, levels and types add up, CAIDI x SAIFI = SAIDI
pub demand_3 : Demand3
demand_3 =
    record {
      by_customer = cell_by_customer;
      desk_by_customer = desk_adds;
      reordering = order.reordering;
      joining = join_adds;
      adding_up = accepted_book_adds_up;
      multiplied = multiplies;
    }
