-- What the messages of an event tell: its open, its steps and its close, and so the complete record of just that event. Assumes nothing.
use Prim.Native.Nat.{ℕ, ◌+◌, ◌<◌}
use mathlib.Core.Path.{◌≡◌, refl, ap, ◌∙◌}
use mathlib.Core.List.{List, [], ◌∷◌, ◌++◌, map, map-append}
use mathlib.Core.Bool.{cond}
use lib.ListN.{length}
use borrow.Author.Tests.{eq-eqb}
use Rattle.base.specs.Lists.{All}
use Rattle.annex.specs.declared.Step.{Step}
use Rattle.codec.specs.Fits.{StepInBytes}
use Rattle.desk_days.specs.Day.{message}
use Rattle.desk_days.specs.Story.{Deed, opens, steps, closes, deed_of, SteppedEvent, head_for, steps_for, event_for, open_deeds, record_of, complete_in, complete_records}
use Rattle.desk_days.proofs.EncodeLaws.{InBytes}
use Rattle.desk_runs.specs.Messages.{close_of, steps_of, messages_for}
use Rattle.desk_runs.proofs.MessageLaws.{open_head, step_number, step_back, close_number}

-- ---- what each message does

steps_deeds :
    (v taken : ℕ) (ss : List Step) → v < 65536 → All StepInBytes ss → map deed_of (map message (steps_of v taken ss)) ≡ map (λ st. steps v st) ss
steps_deeds v taken [] l f = refl
steps_deeds v taken (st ∷ ss) l f =
    λ i. steps (step_number v (taken + 1) st l i) (step_back v (taken + 1) st f.0 i) ∷ steps_deeds v (taken + 1) ss l f.1 i

module _ (e : SteppedEvent) where
  abbrev v : ℕ
  v = e.head.number

  abbrev pub deeds_for : List Deed
  deeds_for = open_deeds v e ++ closes v ∷ []

  -- the deeds of an event's messages are its open, its steps and its close
  pub messages_deeds : InBytes e → map deed_of (map message (messages_for e)) ≡ deeds_for
  messages_deeds f =
      let last : List (List ℕ) = close_of v (length e.steps) ∷ [] in
      let first : map deed_of (map message (steps_of v 0 e.steps ++ last)) ≡ map (λ st. steps v st) e.steps ++ map deed_of (map message last) =
      ap (map deed_of) (map-append message (steps_of v 0 e.steps) last) ∙
      map-append deed_of (map message (steps_of v 0 e.steps)) (map message last) ∙
      ap (λ ds. ds ++ map deed_of (map message last)) (steps_deeds v 0 e.steps f.head.number f.steps) in
      (λ i. opens (open_head e.head f.head i) ∷ first i) ∙
      ap (λ w. opens e.head ∷ (map (λ st. steps v st) e.steps ++ closes w ∷ [])) (close_number v (length e.steps) f.head.number)

-- ---- which event they tell

steps_told : (v : ℕ) (ss : List Step) → steps_for v (map (λ st. steps v st) ss ++ closes v ∷ []) ≡ ss
steps_told v [] = refl
steps_told v (st ∷ ss) =
    ap (λ t. cond t (st ∷ steps_for v rest) (steps_for v rest)) (eq-eqb v v refl) ∙ ap (λ xs. st ∷ xs) (steps_told v ss)
  where
    rest : List Deed
    rest = map (λ x. steps v x) ss ++ closes v ∷ []

event_told : (e : SteppedEvent) → event_for (deeds_for e) e.head.number ≡ e
event_told e =
    let v : ℕ = e.head.number in
    let later : List Deed = map (λ st. steps v st) e.steps ++ closes v ∷ [] in
    let h : head_for v (opens e.head ∷ later) ≡ e.head = ap (λ t. cond t e.head (head_for v later)) (eq-eqb v v refl) in
    λ i. record { head = h i; steps = steps_told v e.steps i }

one_record : (all : List Deed) (v : ℕ) (ss : List Step) → complete_in all (map (λ st. steps v st) ss ++ closes v ∷ []) ≡ record_of (event_for all v) ∷ []
one_record all v [] = refl
one_record all v (st ∷ ss) = one_record all v ss

-- the complete record of the event, and no other
pub messages_tell : (e : SteppedEvent) → InBytes e → complete_records (map message (messages_for e)) ≡ record_of e ∷ []
messages_tell e f =
    ap (λ ds. complete_in ds ds) (messages_deeds e f) ∙
    one_record (deeds_for e) e.head.number e.steps ∙
    ap (λ x. record_of x ∷ []) (event_told e)
