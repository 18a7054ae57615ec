-- Where nobody is interrupted no half minutes are added (01, refusal 13; 003, 4.3.1): of an accepted event and a level, and of a cell. Assumes nothing.
use Prim.Native.Nat.{ℕ, ◌<◌}
use mathlib.Core.Path.{◌≡◌, refl, sym, ap, ◌∙◌}
use mathlib.Core.List.{List, [], ◌∷◌, map}
use mathlib.Core.Bool.{Bool, true, false, ◌&&◌, not, cond}
use lib.Dec.{eqb}
use native.Mathlib.Omega.{arith}
use borrow.Author.Tests.{eqb-true}
use Rattle.base.specs.Lists.{All, sum}
use Rattle.base.proofs.TestLaws.{Tested, holds, fails, test}
use Rattle.base.proofs.ListLaws.{all_kept}
use Rattle.wire.specs.Frame.{kind_of}
use Rattle.codes.specs.Codes.{levels}
use Rattle.annex.specs.Annex.{Event, simple, stepped, NoneAfterNone}
use Rattle.annex.specs.Figure.{Off, Halves, given}
use Rattle.annex.proofs.HalfKept.{nobody_no_halves}
use Rattle.fields.specs.Fields.{head_in, simple_in, steps_in}
use Rattle.limits.specs.Limits.{none_then_some}
use Rattle.limits.proofs.LimitLaws.{none_after_none}
use Rattle.record.specs.Rules.{by_kind}
use Rattle.ledger.specs.declared.Ledger.{Ledger}
use Rattle.ledger.specs.Take.{answer_of}
use Rattle.ledger.proofs.ExactlyThen.{accepted_rules}
use Rattle.book.specs.Book.{BookState, take_record}
use Rattle.law_sums.specs.Accepted.{event_in, accepted_events, counted_in, sum_of}
use Rattle.law_sums.specs.Theorem.{NobodyNoHalves}

-- an accepted simple event is not answered 13
accepted_none : (l : Ledger) (m s : List ℕ) → answer_of l m s ≡ 0 → (h : ℕ) → h < levels → NoneAfterNone h (event_in s)
accepted_none l m s a h b = go (test (eqb (kind_of s) 2))
  where
    told : Bool → Event
    told t = cond t (simple (simple_in s)) (stepped (head_in s).t0 (steps_in s))

    go : Tested (eqb (kind_of s) 2) → NoneAfterNone h (told (eqb (kind_of s) 2))
    go (fails e) = rw e tt
    go (holds e) =
        let two : 2 ≡ kind_of s = sym (eqb-true (kind_of s) 2 e) in
        let none : none_then_some (simple_in s) ≡ false = ap (λ (kind : ℕ). by_kind kind false (none_then_some (simple_in s)) false) two ∙ accepted_rules l m s a 13 in
        rw e (none_after_none (simple_in s) none h b)

-- no accepted event has half minutes on a level where it interrupts nobody
pub events_nobody : (st : BookState) (ss : List (List ℕ)) → All NobodyNoHalves (accepted_events st ss)
events_nobody st [] = tt
events_nobody st (s ∷ ss) = go (test (eqb (answer_of st.ledger st.map s) 0)) (not (eqb (kind_of s) 1)) (events_nobody (take_record st s) ss)
  where
    rest : List (List ℕ)
    rest = accepted_events (take_record st s) ss

    here : answer_of st.ledger st.map s ≡ 0 → NobodyNoHalves s
    here a h b = nobody_no_halves h (event_in s) (accepted_none st.ledger st.map s a h b)

    go :
        Tested (eqb (answer_of st.ledger st.map s) 0) →
        (event : Bool) →
        All NobodyNoHalves rest →
        All NobodyNoHalves (cond (eqb (answer_of st.ledger st.map s) 0 && event) (s ∷ rest) rest)
    go (fails e) event all = rw e all
    go (holds e) true all = rw e ((here (eqb-true _ _ e), all))
    go (holds e) false all = rw e all

-- so a row and level where the events interrupt nobody has no half minutes of them
pub sums_nobody :
    (row h : ℕ) (es : List (List ℕ)) →
    h < levels →
    All NobodyNoHalves es →
    sum_of Off row h es ≡ 0 →
    sum_of Halves row h es ≡ 0
sums_nobody row h es b all z = go (counted_in row es) (all_kept NobodyNoHalves _ es all) z
  where
    go :
        (cs : List (List ℕ)) →
        All NobodyNoHalves cs →
        sum (map (λ (s : List ℕ). given Off h (event_in s)) cs) ≡ 0 →
        sum (map (λ (s : List ℕ). given Halves h (event_in s)) cs) ≡ 0
    go [] a z = refl
    go (c ∷ cs) a z =
        let first : given Halves h (event_in c) ≡ 0 = a.0 h b (omega arith) in
        let rest : sum (map (λ (s : List ℕ). given Halves h (event_in s)) cs) ≡ 0 = go cs a.1 (omega arith) in
        omega (arith, first, rest)
