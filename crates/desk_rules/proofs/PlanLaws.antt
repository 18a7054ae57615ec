-- What a plan is, by its answer: callers cite these laws and not the definitions. Assumes nothing.
use Prim.Native.Nat.{ℕ, ◌<◌, ◌≤◌}
use mathlib.Core.Path.{◌≡◌, refl, sym, ◌∙◌, ap}
use mathlib.Core.List.{List, [], ◌∷◌}
use mathlib.Core.Bool.{Bool, true, false, cond, not}
use lib.Dec.{leb, eqb}
use borrow.Author.Tests.{eq-eqb, ne_eqb, eqb-true, eqb-false, leb-false, not-false}
use Rattle.std.specs.Prelude.{Result, Ok, Err}
use Rattle.refusals.specs.declared.Refusal.{Refusal}
use Rattle.refusals.specs.Refusals.{number_of, answer_in}
use Rattle.refusals.proofs.NumberLaws.{no_refusal_0, same_refusal}
use Rattle.base.specs.First.{first, Foremost, NoRule}
use Rattle.base.proofs.FirstLaws.{clear, clear_at, then}
use Rattle.base.proofs.TestLaws.{Tested, holds, fails, test, or_left, or_right}
use Rattle.wire.specs.Frame.{framed, kind_of}
use Rattle.codes.specs.Ranges.{latest, most_events}
use Rattle.annex.specs.declared.Figures.{Figures}
use Rattle.fields.specs.declared.Sheet.{Sheet}
use Rattle.fields.specs.declared.Head.{Head}
use Rattle.fields.proofs.TestLaws.{listed_row}
use Rattle.limits.proofs.LimitLaws.{in_time}
use Rattle.verdict.specs.Verdict.{event_verdict}
use Rattle.record.proofs.FairLaws.{event_fair}
use Rattle.ledger.specs.declared.Ledger.{Ledger}
use Rattle.ledger.specs.Sound.{sound_ledger}
use Rattle.ledger.specs.Inside.{Fits}
use Rattle.slot.specs.Sound.{slot_sound, open_sound}
use Rattle.slot.proofs.SoundLaws.{steps_open, open_listed, open_within}
use Rattle.desk_rules.specs.Rules.{Look, ordinal_in, step_in, by_message, any_unsound, length_wrong, sheet_missing, not_listed, not_open, count_wrong, time_wrong, count_too_large, count_too_high, already_used, ledger_full, desk_full, rules_at, rules}
use Rattle.desk_rules.specs.declared.Plan.{Plan as Accepted}
use Rattle.desk_rules.specs.Inside.{answer_at, plan_at, planned_in, step_tests}
use Rattle.desk_rules.specs.Plan.{Plan, refused_plan, accepted_plan, look_answer, plan_of}

module _ (kind : ℕ) (k : Look) (slots : ℕ) (l : Ledger) (m s : List ℕ) where
  -- read at a kind: an answer other than 0 has the plan of that refusal, the answer 0 the plan of an accepted message
  pub at_refused : (n : ℕ) → answer_at kind k l m s ≡ n → (n ≡ 0 → ⊥) → plan_at kind k slots l m s ≡ refused_plan l slots n
  unfolding plan_at
  at_refused n e z =
      ap (λ a. cond (eqb a 0) (accepted_plan kind k l s) (refused_plan l slots a)) e ∙
      ap (λ t. cond t (accepted_plan kind k l s) (refused_plan l slots n)) (ne_eqb n 0 z)

  pub at_accepted : answer_at kind k l m s ≡ 0 → plan_at kind k slots l m s ≡ accepted_plan kind k l s
  unfolding plan_at
  at_accepted e = ap (λ a. cond (eqb a 0) (accepted_plan kind k l s) (refused_plan l slots a)) e

  -- a refusal by the rule that is foremost
  pub refused_by : (n : ℕ) → Foremost n (rules_at kind k l m s) → (n ≡ 0 → ⊥) → plan_at kind k slots l m s ≡ refused_plan l slots n
  unfolding answer_at
  refused_by n f = at_refused n (then n (rules_at kind k l m s) f)

  -- no rule applies to an accepted message
  pub answered_rules : answer_at kind k l m s ≡ 0 → NoRule (rules_at kind k l m s)
  unfolding answer_at
  answered_rules e =
      clear_at (rules_at kind k l m s) (clear 2 (rules_at kind k l m s) (tt, (tt, (tt, (tt, (tt, (tt, (tt, (tt, (tt, (tt, (tt, (tt, tt)))))))))))) e)

-- an outcome of a message's tests that is answered as its rules answer: a refusal is the plan's, and any other is an accepted message
module _ (kind : ℕ) (k : Look) (slots : ℕ) (l : Ledger) (m s : List ℕ) {A : Type 0} (x : Result A Refusal) (answered : answer_in x ≡ answer_at kind k l m s) where
  pub err_refused : (r : Refusal) → x ≡ Err r → refused_plan l slots (number_of r) ≡ plan_at kind k slots l m s
  err_refused r e = sym (at_refused kind k slots l m s (number_of r) (sym answered ∙ ap answer_in e) (no_refusal_0 r))

  pub ok_answers_0 : (a : A) → x ≡ Ok a → answer_at kind k l m s ≡ 0
  ok_answers_0 a e = sym answered ∙ ap answer_in e

-- no two outcomes come to the same plan
pub same_plan : (l : Ledger) (slots : ℕ) (x y : Result Accepted Refusal) → planned_in l slots x ≡ planned_in l slots y → x ≡ y
same_plan l slots (Ok a) (Ok b) same = ap (λ (p : Plan). Ok (record { ledger = p.served.ledger; at = p.at; slot = p.slot; number = p.number })) same
same_plan l slots (Ok a) (Err s) same = absurd (no_refusal_0 s (sym (ap (λ (p : Plan). p.served.answer) same)))
same_plan l slots (Err r) (Ok b) same = absurd (no_refusal_0 r (ap (λ (p : Plan). p.served.answer) same))
same_plan l slots (Err r) (Err s) same = ap (λ t. Err t) (same_refusal r s (ap (λ (p : Plan). p.served.answer) same))

-- the tests that a step and a close share, alone and before the rest of each
abbrev pub shared : Bool → Bool → Bool → Bool → ℕ
shared c5 c7 c8 c9 = first ((5, c5) ∷ (7, c7) ∷ (8, c8) ∷ (9, c9) ∷ [])

abbrev pub shared_then : Bool → Bool → Bool → Bool → ℕ → ℕ
shared_then c5 c7 c8 c9 rest = cond c5 5 (cond c7 7 (cond c8 8 (cond c9 9 rest)))

-- a number that they answer is the answer, and where none of them applies the rest decides
shared_answers : (c5 c7 c8 c9 : Bool) (rest n : ℕ) → shared c5 c7 c8 c9 ≡ n → (n ≡ 0 → ⊥) → shared_then c5 c7 c8 c9 rest ≡ n
shared_answers true c7 c8 c9 rest n e z = e
shared_answers false true c8 c9 rest n e z = e
shared_answers false false true c9 rest n e z = e
shared_answers false false false true rest n e z = e
shared_answers false false false false rest n e z = absurd (z (sym e))

shared_passed : (c5 c7 c8 c9 : Bool) (rest : ℕ) → shared c5 c7 c8 c9 ≡ 0 → shared_then c5 c7 c8 c9 rest ≡ rest
shared_passed true c7 c8 c9 rest e = absurd (eqb-false 5 0 refl e)
shared_passed false true c8 c9 rest e = absurd (eqb-false 7 0 refl e)
shared_passed false false true c9 rest e = absurd (eqb-false 8 0 refl e)
shared_passed false false false true rest e = absurd (eqb-false 9 0 refl e)
shared_passed false false false false rest e = refl

-- an accepted message's plan answers 0
accepted_answer : (kind : ℕ) (k : Look) (l : Ledger) (s : List ℕ) → (accepted_plan kind k l s).served.answer ≡ 0
accepted_answer kind k l s = go (eqb kind 16) refl (eqb kind 17) refl (eqb kind 18) refl
  where
    go : (a : Bool) → eqb kind 16 ≡ a → (b : Bool) → eqb kind 17 ≡ b → (c : Bool) → eqb kind 18 ≡ c → (accepted_plan kind k l s).served.answer ≡ 0
    go true p b q c r = rw p
    go false p true q c r = rw (p, q)
    go false p false q true r = rw (p, q, r)
    go false p false q false r = rw (p, q, r)

module _ (k : Look) (slots : ℕ) (l : Ledger) (m s : List ℕ) where
  -- the same by all the rules, read at the message's own kind
  pub plan_refused : (look_answer k l m s ≡ 0 → ⊥) → plan_of k slots l m s ≡ refused_plan l slots (look_answer k l m s)
  unfolding plan_of
  plan_refused z = ap (λ t. cond t (accepted_plan (kind_of s) k l s) (refused_plan l slots (look_answer k l m s))) (ne_eqb _ _ z)

  pub plan_accepted : look_answer k l m s ≡ 0 → plan_of k slots l m s ≡ accepted_plan (kind_of s) k l s
  unfolding plan_of
  plan_accepted e = ap (λ t. cond t (accepted_plan (kind_of s) k l s) (refused_plan l slots (look_answer k l m s))) (eq-eqb _ _ e)

  -- a plan's answer is the one that the rules give
  pub plan_answer : (plan_of k slots l m s).served.answer ≡ look_answer k l m s
  plan_answer = go (test (eqb (look_answer k l m s) 0))
    where
      go : Tested (eqb (look_answer k l m s) 0) → (plan_of k slots l m s).served.answer ≡ look_answer k l m s
      go (holds e) = ap (λ (p : Plan). p.served.answer) (plan_accepted (eqb-true _ _ e)) ∙ accepted_answer (kind_of s) k l s ∙ sym (eqb-true _ _ e)
      go (fails e) = ap (λ (p : Plan). p.served.answer) (plan_refused (eqb-false _ _ e))

  -- no rule applies to an accepted message
  pub accepted_rules : look_answer k l m s ≡ 0 → NoRule (rules k l m s)
  unfolding look_answer
  accepted_rules e = clear_at (rules k l m s) (clear 0 (rules k l m s) (tt, (tt, (tt, (tt, (tt, (tt, (tt, (tt, (tt, (tt, (tt, (tt, (tt, (tt, tt)))))))))))))) e)

  -- anything unsound is 1; an unframed message is 2; a framed one goes by its kind
  pub unsound_is_1 : any_unsound k l m ≡ true → look_answer k l m s ≡ 1
  unfolding look_answer
  unsound_is_1 u = ap (λ t. cond t 1 (cond (not (framed s)) 2 (first (rules_at (kind_of s) k l m s)))) u

  pub unframed_is_2 : any_unsound k l m ≡ false → framed s ≡ false → look_answer k l m s ≡ 2
  unfolding look_answer
  unframed_is_2 u f =
      ap (λ t. cond t 1 (cond (not (framed s)) 2 (first (rules_at (kind_of s) k l m s)))) u ∙
      ap (λ t. cond (not t) 2 (first (rules_at (kind_of s) k l m s))) f

  pub framed_by_kind : any_unsound k l m ≡ false → framed s ≡ true → look_answer k l m s ≡ answer_at (kind_of s) k l m s
  unfolding look_answer answer_at
  framed_by_kind u f =
      ap (λ t. cond t 1 (cond (not (framed s)) 2 (first (rules_at (kind_of s) k l m s)))) u ∙
      ap (λ t. cond (not t) 2 (first (rules_at (kind_of s) k l m s))) f

  -- and so their plans: a refusal with 1, a refusal with 2, and the plan read at its kind
  pub plan_unsound : any_unsound k l m ≡ true → plan_of k slots l m s ≡ refused_plan l slots 1
  plan_unsound u =
      let e = unsound_is_1 u in
      plan_refused (λ z. eqb-false 1 0 refl (sym e ∙ z)) ∙ ap (refused_plan l slots) e

  pub plan_unframed : any_unsound k l m ≡ false → framed s ≡ false → plan_of k slots l m s ≡ refused_plan l slots 2
  plan_unframed u f =
      let e = unframed_is_2 u f in
      plan_refused (λ z. eqb-false 2 0 refl (sym e ∙ z)) ∙ ap (refused_plan l slots) e

  pub plan_by_kind : any_unsound k l m ≡ false → framed s ≡ true → plan_of k slots l m s ≡ plan_at (kind_of s) k slots l m s
  unfolding plan_of plan_at
  plan_by_kind u f = ap (λ a. cond (eqb a 0) (accepted_plan (kind_of s) k l s) (refused_plan l slots a)) (framed_by_kind u f)

-- a message of the right length: the tests that are left, in order
module _ (k : Look) (l : Ledger) (m s : List ℕ) where
  pub open_answer :
      length_wrong 16 s ≡ false →
      answer_at 16 k l m s ≡
      cond (sheet_missing 16 l) 5 (cond (not_listed 16 s) 7 (cond (time_wrong 16 k l s) 10 (cond (already_used 16 k m s) 14 (cond (desk_full 16 k) 16 0))))
  unfolding answer_at
  open_answer e = rw e

  pub step_answer :
      length_wrong 17 s ≡ false →
      answer_at 17 k l m s ≡
      cond (sheet_missing 17 l) 5 (cond (not_listed 17 s) 7 (cond (not_open 17 k) 8 (cond (count_wrong 17 k s) 9
      (cond (time_wrong 17 k l s) 10 (cond (count_too_large 17 l s) 11 (cond (count_too_high 17 k s) 12 0))))))
  unfolding answer_at
  step_answer e = rw e

  pub close_answer :
      length_wrong 18 s ≡ false →
      answer_at 18 k l m s ≡
      cond (sheet_missing 18 l) 5 (cond (not_listed 18 s) 7 (cond (not_open 18 k) 8 (cond (count_wrong 18 k s) 9 (cond (ledger_full 18 l) 15 0))))
  unfolding answer_at
  close_answer e = rw e

  -- where the shared tests refuse a step or a close the plan does, and where they let it in the rest of its tests answer
  module _ (slots : ℕ) {A : Type 0} (x : Result A Refusal) where
    pub step_refused : length_wrong 17 s ≡ false → answer_in x ≡ shared (sheet_missing 17 l) (not_listed 17 s) (not_open 17 k) (count_wrong 17 k s) → (r : Refusal) → x ≡ Err r → refused_plan l slots (number_of r) ≡ plan_at 17 k slots l m s
    step_refused long answered r e =
        sym
        (at_refused 17 k slots l m s (number_of r)
        (step_answer long ∙ shared_answers _ _ _ _ _ (number_of r) (sym answered ∙ ap answer_in e) (no_refusal_0 r))
        (no_refusal_0 r))

    pub step_let_in : length_wrong 17 s ≡ false → answer_in x ≡ shared (sheet_missing 17 l) (not_listed 17 s) (not_open 17 k) (count_wrong 17 k s) → (a : A) → x ≡ Ok a → answer_at 17 k l m s ≡ first (step_tests (step_in s) l.sheet k.slot)
    step_let_in long answered a e = step_answer long ∙ shared_passed _ _ _ _ _ (sym answered ∙ ap answer_in e)

    pub close_refused : length_wrong 18 s ≡ false → answer_in x ≡ shared (sheet_missing 18 l) (not_listed 18 s) (not_open 18 k) (count_wrong 18 k s) → (r : Refusal) → x ≡ Err r → refused_plan l slots (number_of r) ≡ plan_at 18 k slots l m s
    close_refused long answered r e =
        sym
        (at_refused 18 k slots l m s (number_of r)
        (close_answer long ∙ shared_answers _ _ _ _ _ (number_of r) (sym answered ∙ ap answer_in e) (no_refusal_0 r))
        (no_refusal_0 r))

    pub close_let_in : length_wrong 18 s ≡ false → answer_in x ≡ shared (sheet_missing 18 l) (not_listed 18 s) (not_open 18 k) (count_wrong 18 k s) → (a : A) → x ≡ Ok a → answer_at 18 k l m s ≡ cond (leb most_events l.events) 15 0
    close_let_in long answered a e = close_answer long ∙ shared_passed _ _ _ _ _ (sym answered ∙ ap answer_in e)

  -- an accepted step's time is in order
  pub step_timely : answer_at 17 k l m s ≡ 0 → (k.slot.last ≤ (step_in s).time) × ((step_in s).time ≤ latest)
  step_timely e = in_time k.slot.last (step_in s).time (answered_rules 17 k 0 l m s e 10)

-- a sound ledger has room for the event that an accepted close adds
pub close_fits :
    (k : Look) (l : Ledger) (m s : List ℕ) →
    slot_sound k.slot ≡ true →
    sound_ledger l ≡ true →
    answer_at 18 k l m s ≡ 0 →
    Fits l (event_verdict l.sheet k.slot.head k.slot.last k.slot.figures)
close_fits k l m s sound fine e =
    let c = answered_rules 18 k 0 l m s e in
    let there : l.sheet.there ≡ true = not-false _ (c 5) in
    let room : l.events < most_events = leb-false most_events l.events (c 15) in
    let count = c 9 in
    let some : ordinal_in s ≡ 0 → ⊥ = eqb-false _ _ (or_left (eqb (ordinal_in s) 0) _ count) in
    let taken : ordinal_in s ≡ k.slot.steps = eqb-true _ _ (not-false _ (or_right (eqb (ordinal_in s) 0) _ count)) in
    let opened : open_sound k.slot ≡ true = steps_open k.slot sound (λ z. some (taken ∙ z)) in
    record {
      sound = fine;
      fair = event_fair l.sheet l.events k.slot.head k.slot.last k.slot.figures there room (listed_row k.slot.head (open_listed k.slot opened)) (open_within k.slot opened);
    }
