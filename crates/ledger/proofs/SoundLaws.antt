-- *Sound stays sound*: a sound ledger has room for every verdict that judging gives for it, and is sound with it. Assumes nothing.
use Prim.Native.Nat.{ℕ}
use mathlib.Core.Path.{◌≡◌, refl, ap, ◌∙◌}
use mathlib.Core.List.{List}
use mathlib.Core.Bool.{true}
use lib.Dec.{eqb}
use borrow.Author.Tests.{eqb-true, eqb-false}
use Rattle.base.proofs.TestLaws.{Tested, holds, fails, test}
use Rattle.record.specs.Verdict.{verdict_of}
use Rattle.record.proofs.FairLaws.{verdict_fair}
use Rattle.ledger.specs.declared.Ledger.{Ledger}
use Rattle.ledger.specs.Ledger.{empty_ledger}
use Rattle.ledger.specs.Sound.{sound_ledger}
use Rattle.ledger.specs.Inside.{Fits}
use Rattle.ledger.specs.Take.{answer_of, ledger_after}
use Rattle.ledger.proofs.LedgerLaws.{sound_events, sound_range, sound_kept}
use Rattle.ledger.proofs.TakeLaws.{accepted_adds, refused_hands_back}

-- the empty ledger is sound
pub empty_sound : sound_ledger empty_ledger ≡ true
unfolding sound_ledger
empty_sound = refl

pub verdict_fits : (l : Ledger) (m s : List ℕ) → sound_ledger l ≡ true → Fits l (verdict_of s l.sheet m l.events)
verdict_fits l m s e = record { sound = e; fair = verdict_fair s l.sheet m l.events (sound_events l e) (sound_range l e) }

-- an accepted record takes a sound ledger to a sound ledger, and a refused one hands it back
pub sound_stays_sound : (l : Ledger) (m s : List ℕ) → sound_ledger l ≡ true → sound_ledger (ledger_after l m s) ≡ true
sound_stays_sound l m s e = go (test (eqb (answer_of l m s) 0))
  where
    go : Tested (eqb (answer_of l m s) 0) → sound_ledger (ledger_after l m s) ≡ true
    go (holds a) =
        ap sound_ledger (accepted_adds l m s (eqb-true _ _ a)).0 ∙
        sound_kept l (verdict_of s l.sheet m l.events) (verdict_fits l m s e)
    go (fails a) = ap sound_ledger (refused_hands_back l m s (eqb-false _ _ a)).0 ∙ e
