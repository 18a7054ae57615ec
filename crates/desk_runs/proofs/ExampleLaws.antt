-- *The desk too* of two books: what the theorems ask is met by P7's book, with its event built up, and by a book of three events of which two are
-- open side by side. Assumes nothing.
use Prim.Native.Nat.{ℕ}
use mathlib.Core.Path.{◌≡◌, refl, sym, subst}
use mathlib.Core.List.{List, [], ◌∷◌}
use mathlib.Core.Bool.{Bool, true}
use lib.ListN.{replicate}
use lib.Dec.{ltb}
use Rattle.base.specs.Lists.{All, every, Bytes}
use Rattle.base.proofs.TestLaws.{and_left, and_right}
use Rattle.base.proofs.ListLaws.{bytes_by_test}
use Rattle.wire.specs.Cut.{cut_in, records_of}
use Rattle.codes.specs.Codes.{row_of, level_of, causes, cause_listed}
use Rattle.annex.specs.Times.{minutes_in, is_short}
use Rattle.annex.specs.Figures.{with_step}
use Rattle.annex.specs.Simple.{simple_figures}
use Rattle.used_numbers.specs.Marks.{marked, marking, marked_with}
use Rattle.verdict.specs.Verdict.{event_verdict}
use Rattle.record.specs.Verdict.{record_answer, verdict_of}
use Rattle.ledger.specs.declared.Ledger.{Ledger}
use Rattle.ledger.specs.Ledger.{empty_ledger, added}
use Rattle.ledger.specs.Sound.{sound_ledger}
use Rattle.ledger.specs.Take.{answer_of, ledger_after, map_after}
use Rattle.book.specs.Book.{take_record}
use Rattle.law_sums.specs.Accepted.{zero_map}
use Rattle.slot.specs.Sound.{is_free, open_sound, slot_sound}
use Rattle.desk_scan.specs.Desk.{slot_count, empty_desk, desk_sound}
use Rattle.desk_rules.specs.Plan.{look_answer, plan_of}
use Rattle.desk_rules.specs.Serve.{message_answer, ledger_served, map_served, desk_served}
use Rattle.desk_days.specs.Day.{Arrival, bytes_of, after_all, accepted_of}
use Rattle.desk_days.specs.Story.{complete_records, empty_day, NothingOpen}
use Rattle.desk_days.specs.Late.{answers_to}
use Rattle.desk_days.proofs.StepByStep.{nothing_open}
use Rattle.desk_runs.specs.Runs.{Builds, records_in, arrivals_in, InRuns, SameEnd, day_of}
use Rattle.desk_runs.specs.Example.{book105, choice105, cell, book_of_three, two_runs}
use Rattle.desk_runs.proofs.Example.{book105_accepted}
use Rattle.desk_runs.proofs.DeskToo.{the_desk_too, cut_into_runs}

arrivals_by_test : (as' : List Arrival) → every (λ a. every (λ b. ltb b 256) (bytes_of a)) as' ≡ true → All (λ a. Bytes (bytes_of a)) as'
arrivals_by_test [] e = tt
arrivals_by_test (a ∷ as') e =
    let f : Arrival → Bool = λ x. every (λ b. ltb b 256) (bytes_of x) in
    (bytes_by_test (bytes_of a) (and_left (f a) (every f as') e), arrivals_by_test as' (and_right (f a) (every f as') e))

-- a run by what is computed: the desk at its end, and the records that it tells
by_computing :
    (l : Ledger) (m : List ℕ) (rs : List (List ℕ)) (as' : List Arrival) →
    every (λ a. every (λ b. ltb b 256) (bytes_of a)) as' ≡ true →
    (after_all (empty_day l m) as').desk ≡ empty_desk →
    complete_records (accepted_of (empty_day l m) as') ≡ rs →
    Builds l m rs as'
by_computing l m rs as' b d c =
    record { in_bytes = arrivals_by_test as' b; nothing_open = subst NothingOpen (sym d) (nothing_open slot_count); complete = c }

-- P7's book with its event built up, by the theorem
pub p7_built_up : SameEnd book105 (day_of choice105 (records_of book105))
p7_built_up = cut_into_runs book105 (bytes_by_test book105 refl) book105_accepted choice105

-- both runs are built up from where they begin, so that their day ends as the book of three events does
pub three_in_runs : InRuns empty_ledger zero_map two_runs
unfolding row_of level_of causes cause_listed minutes_in is_short with_step simple_figures marked marking marked_with event_verdict record_answer verdict_of added sound_ledger answer_of ledger_after map_after take_record is_free open_sound slot_sound desk_sound look_answer plan_of message_answer ledger_served map_served desk_served
three_in_runs = (by_computing _ _ _ _ refl refl refl, (by_computing _ _ _ _ refl refl refl, tt))

three_records : records_in two_runs ≡ records_of book_of_three
unfolding cut_in records_of
three_records = refl

pub three_same : SameEnd book_of_three (arrivals_in two_runs)
three_same = the_desk_too book_of_three two_runs three_records three_in_runs

-- all of it is accepted; three events, none of them short: 2418, 10 and 3 customers on NN, 14 and 5 on VN
pub three_figures :
    (answers_to (empty_day empty_ledger zero_map) (arrivals_in two_runs) ≡ replicate 12 0) ×
    ((after_all (empty_day empty_ledger zero_map) (arrivals_in two_runs)).ledger.events ≡ 3) ×
    ((after_all (empty_day empty_ledger zero_map) (arrivals_in two_runs)).ledger.short ≡ 0) ×
    (cell (after_all (empty_day empty_ledger zero_map) (arrivals_in two_runs)).ledger 0 ≡ 2431 ∷ 69001 ∷ []) ×
    (cell (after_all (empty_day empty_ledger zero_map) (arrivals_in two_runs)).ledger 1 ≡ 19 ∷ 380 ∷ [])
unfolding row_of level_of causes cause_listed minutes_in is_short with_step simple_figures marked marking marked_with event_verdict record_answer verdict_of added sound_ledger answer_of ledger_after map_after is_free open_sound slot_sound desk_sound look_answer plan_of message_answer ledger_served map_served desk_served
three_figures = (refl, refl, refl, refl, refl)
