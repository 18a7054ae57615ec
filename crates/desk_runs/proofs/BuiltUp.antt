-- Built up: where a ledger takes a stepped event's record, a desk that is empty takes the messages which build it up, each of them, and comes to the
-- same. The record tells an event that passes the rules, and it is the very record that this event is written as. Assumes nothing.
use Prim.Native.Nat.{ℕ, zero, suc, ◌+◌, ◌*◌, ◌<◌, ◌≤◌}
use mathlib.Core.Path.{◌≡◌, ap, ◌∙◌, sym, subst}
use mathlib.Core.Logic.{◌≢◌, inr}
use mathlib.Core.List.{List, map}
use mathlib.Core.Bool.{Bool, false, ◌||◌, not}
use lib.ListN.{length}
use lib.Dec.{eqb, leb, ltb}
use borrow.Author.Tests.{eqb-true, eqb-false, ltb-false, leb-false, not-false}
use Rattle.base.specs.First.{NoRule}
use Rattle.base.specs.Lists.{All, Bytes}
use Rattle.base.proofs.TestLaws.{or_left, or_right}
use Rattle.base.proofs.FirstLaws.{clear_at}
use Rattle.wire.specs.Frame.{framed, kind_of}
use Rattle.codes.specs.Ranges.{most_events}
use Rattle.annex.specs.Times.{minutes_in}
use Rattle.used_numbers.specs.Marks.{marked, marked_with}
use Rattle.fields.specs.Fields.{head_in, steps_from, steps_in, step_count}
use Rattle.fields.specs.Tests.{head_listed}
use Rattle.codec.specs.Fits.{StepInBytes}
use Rattle.codec.proofs.EncodeLaws.{head_in_bytes, step_in_bytes, steps_many}
use Rattle.limits.specs.Limits.{any_late}
use Rattle.record.specs.Rules.{rules_at}
use Rattle.record.specs.Verdict.{accepted_at}
use Rattle.ledger.specs.declared.Ledger.{Ledger}
use Rattle.ledger.specs.Ledger.{added}
use Rattle.ledger.specs.Take.{answer_of, ledger_after, map_after}
use Rattle.ledger.proofs.TakeLaws.{accepted_sound}
use Rattle.desk_days.specs.Day.{message}
use Rattle.desk_days.specs.Story.{stepped_event_in, record_of, empty_day}
use Rattle.desk_days.proofs.EncodeLaws.{Passed, verdict_for}
use Rattle.desk_days.proofs.EntryLaws.{entry_clear, entry_ledger}
use Rattle.desk_days.proofs.AfterLaws.{event_taken}
use Rattle.desk_runs.specs.Messages.{messages_of}
use Rattle.desk_runs.specs.Runs.{Leads}
use Rattle.desk_runs.proofs.WrittenAgain.{written_again}
use Rattle.desk_runs.proofs.EventLaws.{event_built_up}

steps_in_bytes : (s : List ℕ) → Bytes s → (n at : ℕ) → All StepInBytes (steps_from s n at)
steps_in_bytes s b zero at = tt
steps_in_bytes s b (suc n) at = (step_in_bytes s b at, steps_in_bytes s b n (at + 16))

-- an accepted record of kind 3
module _ (l : Ledger) (m s : List ℕ) (b : Bytes s) (k : kind_of s ≡ 3) (a : answer_of l m s ≡ 0) where
  no_rule : NoRule (rules_at 3 s l.sheet m l.events)
  no_rule = subst (λ kind. NoRule (rules_at kind s l.sheet m l.events)) k (clear_at (rules_at (kind_of s) s l.sheet m l.events) (entry_clear l m s a).1.1)

  abbrev n : ℕ
  n = step_count s

  abbrev short : Bool
  short = ltb (length s) 14

  not_4 : (short || eqb n 0 || ltb 64 n || not (eqb (length s) (14 + 16 * n))) ≡ false
  not_4 = no_rule 4

  not_4_but : (short || eqb n 0 || ltb 64 n) ≡ false
  not_4_but = or_left (short || eqb n 0 || ltb 64 n) (not (eqb (length s) (14 + 16 * n))) not_4

  -- its length is that of its steps, of which there are at most 64, and the event that it tells passes the book's rules
  pub stepped_long : length s ≡ 14 + 16 * n
  stepped_long = eqb-true _ _ (not-false _ (or_right (short || eqb n 0 || ltb 64 n) (not (eqb (length s) (14 + 16 * n))) not_4))

  stepped_many : length (steps_in s) ≡ n
  stepped_many = steps_many s n 14

  pub stepped_few : length (steps_in s) ≤ 64
  stepped_few = subst (λ j. j ≤ 64) (sym stepped_many) (ltb-false 64 n (or_right (short || eqb n 0) (ltb 64 n) not_4_but))

  stepped_some : length (steps_in s) ≢ 0
  stepped_some z = eqb-false n 0 (or_right short (eqb n 0) (or_left (short || eqb n 0) (ltb 64 n) not_4_but)) (sym stepped_many ∙ z)

  pub stepped_passed : Passed l.sheet (stepped_event_in s)
  stepped_passed =
      let t0 : ℕ = (head_in s).t0 in
      let year : ℕ = minutes_in l.sheet.year in
      let timing : (leb year t0 || any_late t0 (steps_in s)) ≡ false = no_rule 10 in
      record {
        there = not-false l.sheet.there (no_rule 5);
        head_listed_lem = not-false (head_listed (head_in s)) (no_rule 7);
        begins = leb-false year t0 (or_left (leb year t0) (any_late t0 (steps_in s)) timing);
        timely = or_right (leb year t0) (any_late t0 (steps_in s)) timing;
        within = no_rule 11;
        level = no_rule 12;
        few = stepped_few;
        in_bytes = record { head = head_in_bytes s b; steps = steps_in_bytes s b n 14 };
      }

  stepped_new : marked m (head_in s).number ≡ false
  stepped_new = no_rule 14

  stepped_room : l.events < most_events
  stepped_room = leb-false most_events l.events (no_rule 15)

  stepped_adds : added l (verdict_for l.sheet (stepped_event_in s)) ≡ ledger_after l m s
  stepped_adds = sym (entry_ledger l m s a ∙ ap (λ kind. added l (accepted_at kind s l.sheet)) k)

  stepped_marks : marked_with m (head_in s).number ≡ map_after l m s
  stepped_marks = sym (event_taken l m s a (inr k)).map

  -- it is the record of the event that it tells
  pub told_again : record_of (stepped_event_in s) ≡ s
  told_again = written_again s b (not-false (framed s) (entry_clear l m s a).1.0) k stepped_long

  -- Its messages, sent one after the other to an empty desk, are all accepted, and lead to the ledger and the map that taking the record gives, and
  -- to an empty desk.
  pub built_up : Leads (empty_day l m) (map message (messages_of s)) (empty_day (ledger_after l m s) (map_after l m s))
  built_up =
      subst (Leads (empty_day l m) (map message (messages_of s))) (λ i. empty_day (stepped_adds i) (stepped_marks i))
      (event_built_up l m (stepped_event_in s) stepped_passed (accepted_sound l m s a) stepped_some stepped_new stepped_room)
