-- The levels' indices weighed by their N add up to the network's: an index times its N is the sum above its line, over 1 or 2, and these sums add.
-- Assumes nothing.
use Prim.Native.Nat.{ℕ, ◌*◌, ◌<◌}
use Rattle.std.specs.Prelude.{Result, Ok, Err}
use mathlib.Core.Path.{◌≡◌, refl, sym, ap, subst, ◌∙◌}
use mathlib.Core.List.{map}
use mathlib.Core.Bool.{true}
use lib.Dec.{eqb}
use native.Mathlib.Nat.{mul_assoc, mul_comm, mul-pos}
use native.Mathlib.Omega.{arith}
use borrow.Author.Tests.{eqb-true, eqb-false}
use Rattle.base.specs.Lists.{sum}
use Rattle.base.proofs.TestLaws.{Tested, holds, fails, test}
use Rattle.refusals.specs.declared.Refusal.{Refusal}
use Rattle.refusals.specs.declared.Refusal.TheVariants as refusal
use Rattle.ratio.specs.declared.Fraction.{Fraction}
use Rattle.ratio.specs.Fraction.{Same, times}
use Rattle.ratio.specs.Lowest.{lowest_of}
use Rattle.ratio.proofs.Euclid.{lowest_same, lowest_lowest}
use Rattle.ratio.proofs.SameLaws.{same_transitive}
use Rattle.codes.specs.declared.Set.{Set}
use Rattle.ledger.specs.declared.Cell.{Cell}
use Rattle.ledger.specs.declared.Ledger.{Ledger}
use Rattle.ledger.specs.Sound.{sound_ledger}
use Rattle.index.specs.declared.Level.{Level}
use Rattle.index.specs.declared.Level.TheVariants.{Network}
use Rattle.index.specs.declared.Index.{Index}
use Rattle.index.specs.declared.Index.TheVariants.{Saifi, Saidi}
use Rattle.index.specs.Sums.{customers_of}
use Rattle.index.specs.Index.{above_of, divisor_of, weight_of, index_of}
use Rattle.index.proofs.IndexLaws.{nobody_refused, somebody_answered}
use Rattle.law_adding.specs.Parts.{each_level, over_each, times_n}
use Rattle.law_adding.specs.Adding.{total_held, NobodyOff, LevelsWeigh}
use Rattle.law_adding.proofs.BookLaws.{served_by_sheet}
use Rattle.law_adding.proofs.TotalLaws.{levels_add}
use Rattle.law_adding.proofs.FractionLaws.{over_n, all_add, all_exist}

module _ (w : ℕ) (exists : w ≡ 0 → ⊥) where
  -- top / (w n), times n, is top / w
  served_share : (top n : ℕ) → Same (times (lowest_of top (w * n)) n) (over_n w exists top)
  served_share top n =
      let f = lowest_of top (w * n) in
      mul_assoc f.top n w ∙ ap (λ (x : ℕ). f.top * x) (mul_comm n w) ∙ lowest_same top (w * n)

  -- an answer times N: with an N of 0 there is no index, and nothing above the line
  share :
      (a : Result Fraction Refusal) (top n : ℕ) →
      ((n ≡ 0 → ⊥) → a ≡ Ok (lowest_of top (w * n))) →
      (n ≡ 0 → (a ≡ Err refusal.Nobody) × (top ≡ 0)) →
      Same (times_n a n) (over_n w exists top)
  share a top n some none = go (test (eqb n 0))
    where
      go : Tested (eqb n 0) → Same (times_n a n) (over_n w exists top)
      go (holds e) = let z = none (eqb-true n 0 e) in rw (z.0, z.1) (omega arith)
      go (fails e) = rw (some (eqb-false n 0 e)) (served_share top n)

  share_exists :
      (a : Result Fraction Refusal) (top n : ℕ) →
      ((n ≡ 0 → ⊥) → a ≡ Ok (lowest_of top (w * n))) →
      (n ≡ 0 → (a ≡ Err refusal.Nobody) × (top ≡ 0)) →
      (times_n a n).bottom ≡ 0 →
      ⊥
  share_exists a top n some none = go (test (eqb n 0))
    where
      go : Tested (eqb n 0) → (times_n a n).bottom ≡ 0 → ⊥
      go (holds e) = let z = none (eqb-true n 0 e) in rw z.0 (λ q. omega (arith, q))
      go (fails e) =
          let n_exists : n ≡ 0 → ⊥ = eqb-false n 0 e in
          let above : 0 < w * n = mul-pos {m = w} {n = n} (omega arith) (omega arith) in
          rw (some n_exists) (lowest_lowest top (w * n) above).exists

  -- the shares of the levels have a sum, and it is the network's, where the sums above the line add
  all_shares :
      (answer : Level → Result Fraction Refusal) (top n : Level → ℕ) →
      ((h : Level) → (n h ≡ 0 → ⊥) → answer h ≡ Ok (lowest_of (top h) (w * n h))) →
      ((h : Level) → n h ≡ 0 → (answer h ≡ Err refusal.Nobody) × (top h ≡ 0)) →
      top Network ≡ sum (map top each_level) →
      ((over_each (λ (h : Level). times_n (answer h) (n h))).bottom ≡ 0 → ⊥) ×
      Same (times_n (answer Network) (n Network)) (over_each (λ (h : Level). times_n (answer h) (n h)))
  all_shares answer top n some none e = (
    all_exist each (λ h. share_exists (answer h) (top h) (n h) (some h) (none h)) each_level,
    same_transitive (each Network) (over_n w exists (top Network)) (over_each each) (is_share Network)
        (subst (λ (t : ℕ). Same (over_n w exists t) (over_each each)) (sym e) (all_add w exists top each is_share each_level))
        exists,
  )
    where
      each : Level → Fraction
      each h = times_n (answer h) (n h)

      is_share : (h : Level) → Same (each h) (over_n w exists (top h))
      is_share h = share (answer h) (top h) (n h) (some h) (none h)

module _
    (l : Ledger)
    (sound : sound_ledger l ≡ true)
    (set : Set)
    (off : (h : Level) → customers_of l.sheet.totals h ≡ 0 → NobodyOff l h set)
    (somebody : customers_of l.sheet.totals Network ≡ 0 → ⊥)
  where
    there : l.sheet.there ≡ true
    there = served_by_sheet l sound Network somebody

    -- where the network has customers and a level without any has nobody interrupted, an index that divides by N adds, times N, over the levels
    module _ (index : Index) (by_n : (sum : Cell) (n : ℕ) → divisor_of index sum n ≡ n) (weighs : weight_of index ≡ 0 → ⊥) where
      abbrev n : Level → ℕ
      n = customers_of l.sheet.totals

      abbrev top : Level → ℕ
      top h = total_held (above_of index) l h set

      answered : (h : Level) → (n h ≡ 0 → ⊥) → index_of l index h set ≡ Ok (lowest_of (top h) (weight_of index * n h))
      answered h some =
          somebody_answered l index h set sound there (λ z. some (sym (by_n _ (n h)) ∙ z)) ∙
          ap (λ (d : ℕ). Ok (lowest_of (top h) (weight_of index * d))) (by_n _ (n h))

      levels_weigh : LevelsWeigh l index set
      levels_weigh =
          let adds =
          all_shares (weight_of index) weighs (λ (h : Level). index_of l index h set) top n answered
          (λ h z. (nobody_refused l index h set sound there (by_n _ (n h) ∙ z), off h z (above_of index)))
          (omega (arith, (levels_add l set).figures (above_of index))) in
          record {
            network = lowest_of (top Network) (weight_of index * n Network);
            is_network = answered Network somebody;
            of_level = λ h. lowest_of (top h) (weight_of index * n h);
            is_level = answered;
            exists = adds.0;
            shares_add = adds.1;
          }

    -- SAIFI and SAIDI do
    pub saifi_weighs : LevelsWeigh l Saifi set
    saifi_weighs = levels_weigh Saifi (λ _ _. refl) (omega arith)

    pub saidi_weighs : LevelsWeigh l Saidi set
    saidi_weighs = levels_weigh Saidi (λ _ _. refl) (omega arith)
