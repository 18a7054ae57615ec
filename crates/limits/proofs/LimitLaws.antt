-- What passing a test of an event's times and counts says of them: times in order, counts within the level totals, nobody
-- off later where nobody was at first. Assumes nothing.
use Prim.Native.Nat.{ℕ, ◌<◌, ◌≤◌}
use mathlib.Core.Path.{◌≡◌, sym, ap, ◌∙◌}
use mathlib.Core.List.{List, [], ◌∷◌}
use mathlib.Core.Bool.{Bool, false, not, ◌&&◌}
use lib.ListN.{get_or}
use lib.Dec.{ltb, eqb}
use native.Mathlib.Nat.{le_trans}
use native.Mathlib.Omega.{arith}
use borrow.Author.Tests.{ltb-false, eq-eqb}
use Rattle.base.specs.Lists.{any, All}
use Rattle.base.proofs.TestLaws.{or_left, or_right}
use Rattle.base.proofs.ChainLaws.{each_fails}
use Rattle.codes.specs.Codes.{levels}
use Rattle.codes.specs.Ranges.{latest}
use Rattle.annex.specs.declared.Simple.{Simple}
use Rattle.annex.specs.declared.Step.{Step}
use Rattle.annex.specs.Simple.{InOrder}
use Rattle.annex.specs.Annex.{simple, NoneAfterNone}
use Rattle.annex.specs.Inside.{Few, Ordered}
use Rattle.annex.proofs.FoldLaws.{each_level_lem}
use Rattle.limits.specs.Limits.{exceeding, late_step, any_late, simple_late, none_then_some}

-- a time that breaks no rule is not before the one before it, and at most 600,000
pub in_time : (before time : ℕ) → late_step before time ≡ false → (before ≤ time) × (time ≤ latest)
in_time before time e =
    (ltb-false _ _ (or_left (ltb time before) (ltb latest time) e), ltb-false _ _ (or_right (ltb time before) (ltb latest time) e))

-- steps of which no time breaks a rule are in order
pub late_ordered : (t0 : ℕ) (ss : List Step) → any_late t0 ss ≡ false → Ordered t0 ss
late_ordered t0 [] e = tt
late_ordered t0 (s ∷ ss) e =
    let now = in_time t0 s.time (or_left (late_step t0 s.time) (any_late s.time ss) e) in (
      now.0,
      now.1,
      late_ordered s.time ss (or_right (late_step t0 s.time) (any_late s.time ss) e),
    )

-- a simple event of which no time breaks a rule is in order
pub simple_ordered : (typ : ℕ) (e : Simple) → simple_late typ e ≡ false → InOrder e
simple_ordered typ e f =
    let k =
    each_fails
    (ltb e.t1 e.t0)
    (ltb e.t2 e.t1 ∷ ltb e.t3 e.t2 ∷ ltb latest e.t3 ∷ ltb e.t4 e.t0 ∷ ltb latest e.t4
    ∷ (eqb typ 2 && not (eqb e.t1 e.t0)) ∷ [])
    f in
    record {
      one = ltb-false _ _ k.0;
      two = ltb-false _ _ k.1.0;
      three = ltb-false _ _ k.1.1.0;
      last = ltb-false _ _ k.1.1.1.0;
    }

-- 13 not answered: nobody is off later on a level where nobody was at first
pub none_after_none : (e : Simple) → none_then_some e ≡ false → (h : ℕ) → h < levels → NoneAfterNone h (simple e)
none_after_none e f =
    let k = each_fails (at 0) (at 1 ∷ at 2 ∷ []) f in
    each_level_lem (λ (h : ℕ). NoneAfterNone h (simple e)) (none 0 k.0) (none 1 k.1.0) (none 2 k.1.1.0)
  where
    at : ℕ → Bool
    at h = eqb (get_or e.n1 h 0) 0 && ltb 0 (get_or e.n2 h 0)

    none : (h : ℕ) → at h ≡ false → NoneAfterNone h (simple e)
    none h f z =
        let later : ltb 0 (get_or e.n2 h 0) ≡ false = ap (λ (b : Bool). b && ltb 0 (get_or e.n2 h 0)) (sym (eq-eqb _ _ z)) ∙ f in
        omega (arith, ltb-false 0 (get_or e.n2 h 0) later)

module _ {m : ℕ} {totals : List ℕ} (few : Few m totals) where
  -- where level totals are at most m, counts that do not exceed them are so too: one list of counts, and those of all steps
  pub within_totals : (counts : List ℕ) → exceeding totals counts ≡ false → Few m counts
  within_totals counts e =
      let k =
      each_fails
      (ltb (get_or totals 0 0) (get_or counts 0 0))
      (ltb (get_or totals 1 0) (get_or counts 1 0) ∷ ltb (get_or totals 2 0) (get_or counts 2 0) ∷ [])
      e in
      record {
        nn = le_trans (ltb-false _ _ k.0) few.nn;
        vn = le_trans (ltb-false _ _ k.1.0) few.vn;
        vvn = le_trans (ltb-false _ _ k.1.1.0) few.vvn;
      }

  pub all_within :
      (ss : List Step) → any (λ (st : Step). exceeding totals st.counts) ss ≡ false → All (λ (st : Step). Few m st.counts) ss
  all_within [] e = tt
  all_within (s ∷ ss) e =
      let rest = any (λ (st : Step). exceeding totals st.counts) ss in (
        within_totals s.counts (or_left (exceeding totals s.counts) rest e),
        all_within ss (or_right (exceeding totals s.counts) rest e),
      )
