-- What taking a record does, by its answer: callers cite these laws and not the definitions. Assumes nothing.
use Rattle.std.specs.Prelude.{Result, Ok, Err}
use Prim.Native.Nat.{ℕ}
use mathlib.Core.Path.{◌≡◌, sym, ◌∙◌, ap, subst}
use mathlib.Core.List.{List}
use mathlib.Core.Bool.{true, false, cond}
use lib.ListN.{length}
use lib.Dec.{eqb}
use native.Mathlib.Omega.{arith}
use borrow.Author.Tests.{eq-eqb, ne_eqb, eqb-true, eqb-false}
use Rattle.base.specs.First.{first}
use Rattle.base.proofs.TestLaws.{Tested, holds, fails, test}
use Rattle.wire.specs.Frame.{kind_of}
use Rattle.used_numbers.specs.Marks.{marked_with}
use Rattle.used_numbers.proofs.MarkLaws.{marked_with_zero, marked_with_size}
use Rattle.refusals.specs.declared.Refusal.{Refusal}
use Rattle.refusals.specs.Refusals.{answer_in}
use Rattle.refusals.proofs.NumberLaws.{same_refusal, no_refusal_0}
use Rattle.verdict.specs.declared.Accepted.{Accepted}
use Rattle.verdict.specs.Judged.{judged}
use Rattle.verdict.proofs.JudgedLaws.{judged_answer}
use Rattle.verdict.specs.Verdict.{Verdict, refused_with}
use Rattle.record.specs.Rules.{rules}
use Rattle.record.specs.Verdict.{record_answer, verdict_of, accepted_at}
use Rattle.record.proofs.JudgeLaws.{verdict_refused, verdict_accepted, verdict_answer}
use Rattle.ledger.specs.declared.Ledger.{Ledger}
use Rattle.ledger.specs.Ledger.{added, Shaped}
use Rattle.ledger.specs.Take.{unsound, answer_of, ledger_after, map_after, Taken, taken_in}
use Rattle.ledger.proofs.CellLaws.{added_refused, added_shaped}

module _ (l : Ledger) (m s : List ℕ) where
  abbrev verdict : Verdict
  verdict = verdict_of s l.sheet m l.events

  -- an unsound ledger, or a map of another size, answers 1; any other judges the record
  pub answer_1 : unsound l m ≡ true → answer_of l m s ≡ 1
  unfolding answer_of
  answer_1 e = ap (λ t. cond t 1 (first (rules s l.sheet m l.events))) e

  pub answer_judged : unsound l m ≡ false → answer_of l m s ≡ record_answer s l.sheet m l.events
  unfolding answer_of record_answer
  answer_judged e = ap (λ t. cond t 1 (first (rules s l.sheet m l.events))) e

  -- an accepted record
  pub accepted_sound : answer_of l m s ≡ 0 → unsound l m ≡ false
  accepted_sound a = go (test (unsound l m))
    where
      go : Tested (unsound l m) → unsound l m ≡ false
      go (holds e) = absurd (omega (arith, a, answer_1 e))
      go (fails e) = e

  -- judging the record answers 0 too
  pub accepted_record : answer_of l m s ≡ 0 → record_answer s l.sheet m l.events ≡ 0
  accepted_record a = sym (answer_judged (accepted_sound a)) ∙ a

  -- its verdict is what an accepted record of its kind comes to
  pub accepted_verdict : answer_of l m s ≡ 0 → verdict ≡ accepted_at (kind_of s) s l.sheet
  accepted_verdict a = verdict_accepted s l.sheet m l.events (accepted_record a)

  -- the verdict is added to the ledger, and its number marked in the map
  pub accepted_adds : answer_of l m s ≡ 0 → (ledger_after l m s ≡ added l verdict) × (map_after l m s ≡ marked_with m verdict.number)
  unfolding ledger_after map_after
  accepted_adds a = (ap (λ t. cond t (added l verdict) l) (eq-eqb _ _ a), ap (λ t. cond t (marked_with m verdict.number) m) (eq-eqb _ _ a))

  -- a refused record
  pub refused_hands_back : (answer_of l m s ≡ 0 → ⊥) → (ledger_after l m s ≡ l) × (map_after l m s ≡ m)
  unfolding ledger_after map_after
  refused_hands_back z = (ap (λ t. cond t (added l verdict) l) (ne_eqb _ _ z), ap (λ t. cond t (marked_with m verdict.number) m) (ne_eqb _ _ z))

  -- once ledger and map are sound, an accepted record and a refused one alike: a refused one's verdict adds nothing and marks nothing
  pub take_judged : unsound l m ≡ false → (ledger_after l m s ≡ added l verdict) × (map_after l m s ≡ marked_with m verdict.number)
  take_judged u = go (test (eqb (answer_of l m s) 0))
    where
      go : Tested (eqb (answer_of l m s) 0) → (ledger_after l m s ≡ added l verdict) × (map_after l m s ≡ marked_with m verdict.number)
      go (holds e) = accepted_adds (eqb-true _ _ e)
      go (fails e) =
          let z : answer_of l m s ≡ 0 → ⊥ = eqb-false _ _ e in
          let v : verdict ≡ refused_with l.sheet (record_answer s l.sheet m l.events) =
          verdict_refused s l.sheet m l.events (λ r. z (answer_judged u ∙ r)) in (
            (refused_hands_back z).0 ∙ sym (added_refused l _) ∙ ap (added l) (sym v),
            (refused_hands_back z).1 ∙ sym (marked_with_zero m) ∙ ap (λ (w : Verdict). marked_with m w.number) (sym v),
          )

  pub map_size_kept : length (map_after l m s) ≡ length m
  map_size_kept = go (test (eqb (answer_of l m s) 0))
    where
      go : Tested (eqb (answer_of l m s) 0) → length (map_after l m s) ≡ length m
      go (holds e) = ap length (accepted_adds (eqb-true _ _ e)).1 ∙ marked_with_size m verdict.number
      go (fails e) = ap length (refused_hands_back (eqb-false _ _ e)).1

  pub shape_kept : Shaped l → Shaped (ledger_after l m s)
  shape_kept shaped = go (test (eqb (answer_of l m s) 0))
    where
      go : Tested (eqb (answer_of l m s) 0) → Shaped (ledger_after l m s)
      go (holds e) = subst Shaped (sym (accepted_adds (eqb-true _ _ e)).0) (added_shaped l verdict shaped)
      go (fails e) = subst Shaped (sym (refused_hands_back (eqb-false _ _ e)).0) shaped

  -- a sheet is no event: it marks no number
  pub sheet_leaves_map : kind_of s ≡ 1 → map_after l m s ≡ m
  sheet_leaves_map k = go (test (eqb (answer_of l m s) 0))
    where
      go : Tested (eqb (answer_of l m s) 0) → map_after l m s ≡ m
      go (holds e) =
          let a : answer_of l m s ≡ 0 = eqb-true _ _ e in
          (accepted_adds a).1 ∙
          ap (λ (v : Verdict). marked_with m v.number) (accepted_verdict a ∙ ap (λ kind. accepted_at kind s l.sheet) k) ∙
          marked_with_zero m
      go (fails e) = (refused_hands_back (eqb-false _ _ e)).1

-- an outcome of judging the record under a sound ledger answers its number
pub judged_number :
    (l : Ledger) (m s : List ℕ) → unsound l m ≡ false → (x : Result Accepted Refusal) → judged l.sheet x ≡ verdict_of s l.sheet m l.events → answer_in x ≡ answer_of l m s
judged_number l m s fine x is =
    sym (judged_answer l.sheet x) ∙ ap (λ (v : Verdict). v.answer) is ∙ verdict_answer s l.sheet m l.events ∙ sym (answer_judged l m s fine)

-- no two outcomes come to the same for a caller that holds the ledger
pub same_taken : (l : Ledger) (x y : Result Ledger Refusal) → taken_in l x ≡ taken_in l y → x ≡ y
same_taken l (Ok a) (Ok b) same = ap (λ (t : Taken). Ok t.ledger) same
same_taken l (Ok a) (Err s) same = absurd (no_refusal_0 s (sym (ap (λ (t : Taken). t.answer) same)))
same_taken l (Err r) (Ok b) same = absurd (no_refusal_0 r (ap (λ (t : Taken). t.answer) same))
same_taken l (Err r) (Err s) same = ap (λ t. Err t) (same_refusal r s (ap (λ (t : Taken). t.answer) same))
