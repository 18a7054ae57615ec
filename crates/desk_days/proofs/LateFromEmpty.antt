-- *A late step can never reach another outage*, from an empty desk: whatever arrives, in whatever order, after an accepted close of v it is too late for
-- v. No premise is left for ledger and map: unsound ones accept no close. Assumes nothing.
use Prim.Native.Nat.{ℕ}
use mathlib.Core.Path.{◌≡◌, refl, sym, ◌∙◌, ap, subst}
use mathlib.Core.List.{List, [], ◌∷◌, ◌++◌}
use mathlib.Core.Bool.{true, true≢false}
use Rattle.base.specs.Lists.{All, Bytes}
use Rattle.base.proofs.ListLaws.{all_front}
use Rattle.base.proofs.TestLaws.{Tested, holds, fails, test}
use Rattle.ledger.specs.declared.Ledger.{Ledger}
use Rattle.ledger.specs.Take.{unsound}
use Rattle.ledger.proofs.TakeLaws.{accepted_sound}
use Rattle.desk_rules.proofs.MessageLaws.{accepted_ledger_sound}
use Rattle.desk_days.specs.Day.{State, Arrival, message, booked, bytes_of, answer_to, after_all}
use Rattle.desk_days.specs.Story.{empty_day}
use Rattle.desk_days.specs.Late.{TooLate, WasClosed}
use Rattle.desk_days.proofs.AfterLaws.{refused_after}
use Rattle.desk_days.proofs.SoundDay.{ledger_right, size_right}
use Rattle.desk_days.proofs.MarkedDay.{empty_marked, empty_day_sound}
use Rattle.desk_days.proofs.LateReply.{late_reply_in_a_day}

-- with an unsound ledger or a map of another size nothing is accepted, and all stays as it was
module _ (st : State) (u : unsound st.ledger st.map ≡ true) where
  accepts_nothing : (a : Arrival) → answer_to st a ≡ 0 → ⊥
  accepts_nothing (message s) z = true≢false (sym u ∙ accepted_ledger_sound st.ledger st.map st.desk s z)
  accepts_nothing (booked s) z = true≢false (sym u ∙ accepted_sound st.ledger st.map s z)

  stays_unsound : (as' : List Arrival) → after_all st as' ≡ st
  stays_unsound [] = refl
  stays_unsound (a ∷ as') = ap (λ t. after_all t as') (refused_after st a (accepts_nothing a)) ∙ stays_unsound as'

-- From an empty desk, with any ledger and map, and after any messages and book records among which a close of v was accepted: every step and close of v
-- is refused, with 8 where its bytes are those of one, and so is every open and every book event of that number; ledger, map and desk stay as they were.
pub late_from_empty :
    (l : Ledger) (m : List ℕ) (as' : List Arrival) →
    All (λ a. Bytes (bytes_of a)) as' →
    (v : ℕ) →
    WasClosed v (empty_day l m) as' →
    TooLate v (after_all (empty_day l m) as')
late_from_empty l m as' b v c = go (test (unsound l m))
  where
    day : State
    day = empty_day l m

    before : All (λ a. Bytes (bytes_of a)) c.before
    before = all_front (λ a. Bytes (bytes_of a)) c.before (message c.closing ∷ c.later) (subst (All (λ a. Bytes (bytes_of a))) c.split b)

    go : Tested (unsound l m) → TooLate v (after_all day as')
    go (holds u) =
        absurd (
        accepts_nothing day u (message c.closing)
        (subst (λ t. answer_to t (message c.closing) ≡ 0) (stays_unsound day u c.before) c.accepted)
        )
    go (fails u) =
        subst (λ xs. TooLate v (after_all day xs)) (sym c.split)
        (subst (λ n. TooLate n (after_all day (c.before ++ message c.closing ∷ c.later))) c.number
        (late_reply_in_a_day day (empty_day_sound l m (ledger_right l m u) (size_right l m u)) (empty_marked l m) c.before before
        c.closing c.kind c.accepted c.later))
