-- However the input is cut into pieces, the outcome is that of the whole file, over any state and any step. At every piece: the state is the one after the
-- whole records so far, and what is held is what they leave over, or the beginning of it that states a length below 4. Assumes nothing.
use mathlib.Core.Path.{◌≡◌, refl, sym, ap, ◌∙◌, subst⁻¹}
use Prim.Native.Nat.{ℕ, ◌<◌, ◌≤◌}
use native.Mathlib.Omega.{arith}
use mathlib.Core.Bool.{true, false, not, true≢false}
use mathlib.Core.Logic.{◌⊎◌, inl, inr}
use mathlib.Core.List.{List, [], ◌∷◌, ◌++◌, append_assoc, append-nil}
use lib.Dec.{leb, ltb, eqb}
use lib.ListN.{length, length-append}
use lib.Seq.{drop-nil}
use borrow.Author.Tests.{ne_eqb, leb-true, ltb-true}
use Rattle.base.proofs.TestLaws.{Tested, holds, fails, test, and_left, and_right}
use Rattle.wire.specs.Numbers.{le16}
use Rattle.wire.specs.Cut.{records_of, cut_in, stop_from, joined, whole_in_front}
use Rattle.wire.proofs.AppendLaws.{records_append, rest_append, rest_ends, records_none, rest_none, small_in_front}
use Rattle.records.specs.Records.{take_all, is_broken}
use Rattle.records.specs.Pieces.{Pieces, rest_of, dead_rest, beginning, fed, fed_all}
use Rattle.records.proofs.TakeLaws.{take_all_append}

abbrev pub Dead : List ℕ → Type 0
Dead r = dead_rest r (length r) ≡ true

-- two bytes or more are there, and they state a length below 4
pub dead_says : (r : List ℕ) → Dead r → (2 ≤ length r) × (le16 r 0 < 4)
dead_says r d = (
  leb-true 2 (length r) (and_left (leb 2 (length r)) (ltb (le16 r 0) 4) d),
  ltb-true (le16 r 0) 4 (and_right (leb 2 (length r)) (ltb (le16 r 0) 4) d),
)

-- behind it no record follows, whatever comes
module _ (r b : List ℕ) (d : Dead r) where
  dead_in_front : whole_in_front (r ++ b) ≡ false
  dead_in_front = small_in_front r b (dead_says r d).0 (dead_says r d).1

  pub dead_records : records_of (r ++ b) ≡ []
  dead_records = records_none (r ++ b) dead_in_front

  pub dead_rest_lem : rest_of (r ++ b) ≡ r ++ b
  dead_rest_lem = rest_none (r ++ b) dead_in_front

module _ {S : Type 0} (step : S → List ℕ → S) where
  -- a reading in pieces, after the bytes so far of a file that was begun with state st
  record Stands (st : S) (so_far : List ℕ) (p : Pieces S) : Type 0 where
    taken : p.state ≡ take_all step st (records_of so_far)
    unheld : List ℕ
    left : rest_of so_far ≡ p.rest ++ unheld
    why : (unheld ≡ []) ⊎ Dead p.rest

  -- behind a stated length below 4 a piece changes nothing
  pub fed_dead : (p : Pieces S) (q : List ℕ) → Dead p.rest → fed step p q ≡ p
  unfolding fed
  fed_dead p q d = rw d

  -- else the records of what was held with the piece behind it are taken, and what they leave over is held
  pub fed_more :
      (p : Pieces S) (q : List ℕ) → dead_rest p.rest (length p.rest) ≡ false →
      fed step p q ≡ record { state = take_all step p.state (records_of (p.rest ++ q)); rest = rest_of (p.rest ++ q) }
  unfolding fed
  fed_more p q d = rw d

  module _ (t : S) where
    module _ (so_far q : List ℕ) (p : Pieces S) (s : Stands t so_far p) where
      -- the records of one piece more
      after_more : take_all step t (records_of (so_far ++ q)) ≡ take_all step p.state (records_of (rest_of so_far ++ q))
      after_more =
          ap (take_all step t) (records_append so_far q) ∙
          take_all_append step t (records_of so_far) (records_of (rest_of so_far ++ q)) ∙
          ap (λ (st : S). take_all step st (records_of (rest_of so_far ++ q))) (sym s.taken)

      stands_dead : Dead p.rest → Stands t (so_far ++ q) (fed step p q)
      stands_dead d =
          let behind : rest_of so_far ++ q ≡ p.rest ++ (s.unheld ++ q) = ap (λ (r : List ℕ). r ++ q) s.left ∙ append_assoc p.rest s.unheld q in
          subst⁻¹ (Stands t (so_far ++ q)) (fed_dead p q d)
          (record {
            taken =
                sym (after_more ∙ ap (λ (b : List ℕ). take_all step p.state (records_of b)) behind ∙
                ap (take_all step p.state) (dead_records p.rest (s.unheld ++ q) d));
            unheld = s.unheld ++ q;
            left = rest_append so_far q ∙ ap rest_of behind ∙ dead_rest_lem p.rest (s.unheld ++ q) d;
            why = inr d;
          })

      all_held : dead_rest p.rest (length p.rest) ≡ false → (s.unheld ≡ []) ⊎ Dead p.rest → rest_of so_far ≡ p.rest
      all_held f (inl none) = s.left ∙ ap (λ (u : List ℕ). p.rest ++ u) none ∙ append-nil p.rest
      all_held f (inr d) = absurd (true≢false (sym d ∙ f))

      stands_more : dead_rest p.rest (length p.rest) ≡ false → Stands t (so_far ++ q) (fed step p q)
      stands_more f =
          let held : rest_of so_far ≡ p.rest = all_held f s.why in
          subst⁻¹ (Stands t (so_far ++ q)) (fed_more p q f)
          (record {
            taken = sym (after_more ∙ ap (λ (r : List ℕ). take_all step p.state (records_of (r ++ q))) held);
            unheld = [];
            left = rest_append so_far q ∙ ap (λ (r : List ℕ). rest_of (r ++ q)) held ∙ sym (append-nil (rest_of (p.rest ++ q)));
            why = inl refl;
          })

      stands_fed : Tested (dead_rest p.rest (length p.rest)) → Stands t (so_far ++ q) (fed step p q)
      stands_fed (holds d) = stands_dead d
      stands_fed (fails f) = stands_more f

    stands_all : (qs : List (List ℕ)) (so_far : List ℕ) (p : Pieces S) → Stands t so_far p → Stands t (so_far ++ joined qs) (fed_all step p qs)
    stands_all [] so_far p s = subst⁻¹ (λ (b : List ℕ). Stands t b p) (append-nil so_far) s
    stands_all (q ∷ qs) so_far p s =
        subst⁻¹ (λ (b : List ℕ). Stands t b (fed_all step (fed step p q) qs)) (sym (append_assoc so_far q (joined qs)))
        (stands_all qs (so_far ++ q) (fed step p q) (stands_fed so_far q p s (test (dead_rest p.rest (length p.rest)))))

    begins : Stands t [] (beginning t)
    unfolding records_of cut_in
    begins = record { taken = refl; unheld = []; left = drop-nil (stop_from [] 0); why = inl refl }

    -- nothing is held exactly where nothing is left over
    none_held : (file : List ℕ) (p : Pieces S) (s : Stands t file p) → (s.unheld ≡ []) ⊎ Dead p.rest → eqb (length p.rest) 0 ≡ eqb (length (rest_of file)) 0
    none_held file p s (inl none) =
        ap (λ (r : List ℕ). eqb (length r) 0) (sym (s.left ∙ ap (λ (u : List ℕ). p.rest ++ u) none ∙ append-nil p.rest))
    none_held file p s (inr d) =
        let two : 2 ≤ length p.rest = (dead_says p.rest d).0 in
        ne_eqb (length p.rest) 0 (λ e. omega arith) ∙
        sym (ne_eqb (length (rest_of file)) 0 (λ e. omega (arith, ap length s.left, length-append p.rest s.unheld)))

    -- the state after all pieces is that after the whole file, and bytes are held exactly where a broken length ends it
    pub pieces_whole :
        (ps : List (List ℕ)) →
        ((fed_all step (beginning t) ps).state ≡ take_all step t (records_of (joined ps))) ×
        (eqb (length (fed_all step (beginning t) ps).rest) 0 ≡ not (is_broken (joined ps)))
    pieces_whole ps =
        let s = stands_all ps [] (beginning t) begins in
        (s.taken, none_held (joined ps) (fed_all step (beginning t) ps) s s.why ∙ rest_ends (joined ps))
