-- What an index answers: the four ways, the one exact fraction where there is one, the identity CAIDI x SAIFI = SAIDI, and that no set named
-- means 'all'. Assumes nothing.
use Prim.Native.Nat.{ℕ, ◌*◌, ◌<◌}
use mathlib.Core.Path.{◌≡◌, refl, sym, ◌∙◌, ap}
use mathlib.Core.List.{List}
use mathlib.Core.Bool.{true, false}
use lib.Dec.{eqb}
use native.Mathlib.Nat.{mul_assoc, mul_left_comm, one-mul, mul-pos}
use native.Mathlib.Omega.{arith}
use borrow.Author.Tests.{eq-eqb, ne_eqb, eqb-true, eqb-false}
use Rattle.base.proofs.TestLaws.{Tested, holds, fails, test}
use Rattle.std.specs.Prelude.{Ok, Err}
use Rattle.refusals.specs.declared.Refusal.{Refusal}
use Rattle.refusals.specs.declared.Refusal.TheVariants as refusal
use Rattle.ratio.specs.declared.Fraction.{Fraction}
use Rattle.ratio.specs.Fraction.{Same, product}
use Rattle.ratio.specs.Lowest.{Lowest, lowest_of}
use Rattle.ratio.proofs.Euclid.{lowest_same, lowest_lowest, lowest_unique}
use Rattle.ratio.proofs.SameLaws.{same_transitive, product_same}
use Rattle.codes.specs.Codes.{row_held}
use Rattle.codes.specs.declared.Set.{Set}
use Rattle.codes.specs.declared.Set.TheVariants.{Std, Unnamed}
use Rattle.ledger.specs.declared.TypeRow.{TypeRow}
use Rattle.ledger.specs.declared.Ledger.{Ledger}
use Rattle.ledger.specs.Sound.{sound_ledger}
use Rattle.index.specs.declared.Level.{Level}
use Rattle.index.specs.declared.Level.TheVariants.{NN, VN, VVN, Network}
use Rattle.index.specs.declared.Index.{Index}
use Rattle.index.specs.declared.Index.TheVariants.{Saifi, Saidi, Caidi}
use Rattle.index.specs.Sums.{level_sum, total_of}
use Rattle.index.specs.Index.{formula_of, weight_of, divided_by, index_of, shown_answer, shown_index}
use Rattle.index.specs.Answered.{Way, unsound, sheetless, divides_by_nobody, answered, Given, Exact}

module _ (l : Ledger) (index : Index) (level : Level) (set : Set) where
  -- an unsound ledger is refused with 1, then no sheet with 5, then nobody to divide by with 17; else the formula in lowest terms
  pub unsound_refused : sound_ledger l ≡ false → index_of l index level set ≡ Err refusal.Unsound
  unfolding index_of
  unsound_refused s = rw s

  pub sheetless_refused : sound_ledger l ≡ true → l.sheet.there ≡ false → index_of l index level set ≡ Err refusal.Sheet
  unfolding index_of
  sheetless_refused s t = rw (s, t)

  pub nobody_refused : sound_ledger l ≡ true → l.sheet.there ≡ true → divided_by l index level set ≡ 0 → index_of l index level set ≡ Err refusal.Nobody
  unfolding index_of
  nobody_refused s t n = rw (s, t, eq-eqb (divided_by l index level set) 0 n)

  pub somebody_answered :
      sound_ledger l ≡ true →
      l.sheet.there ≡ true →
      (divided_by l index level set ≡ 0 → ⊥) →
      index_of l index level set ≡ Ok (lowest_of (formula_of l index level set).top (formula_of l index level set).bottom)
  unfolding index_of
  somebody_answered s t n = rw (s, t, ne_eqb (divided_by l index level set) 0 n)

  -- the answer is of one of these ways, and of no other
  pub index_exactly : Way l index level set (index_of l index level set)
  index_exactly = first (test (sound_ledger l))
    where
      third : sound_ledger l ≡ true → l.sheet.there ≡ true → Tested (eqb (divided_by l index level set) 0) → Way l index level set (index_of l index level set)
      third s t (holds e) =
          let n : divided_by l index level set ≡ 0 = eqb-true (divided_by l index level set) 0 e in
          divides_by_nobody s t n (nobody_refused s t n)
      third s t (fails e) =
          let n : divided_by l index level set ≡ 0 → ⊥ = eqb-false (divided_by l index level set) 0 e in
          answered s t n (somebody_answered s t n)

      second : sound_ledger l ≡ true → Tested l.sheet.there → Way l index level set (index_of l index level set)
      second s (holds t) = third s t (test (eqb (divided_by l index level set) 0))
      second s (fails t) = sheetless s t (sheetless_refused s t)

      first : Tested (sound_ledger l) → Way l index level set (index_of l index level set)
      first (holds s) = second s (test l.sheet.there)
      first (fails s) = unsound s (unsound_refused s)

-- half minutes or not, what is below the line is 0 only with nobody there
pub weighted_exists : (index : Index) (d : ℕ) → (d ≡ 0 → ⊥) → weight_of index * d ≡ 0 → ⊥
weighted_exists Saifi d n e = n (omega arith)
weighted_exists Saidi d n e = n (omega arith)
weighted_exists Caidi d n e = n (omega arith)

module _ (l : Ledger) (index : Index) (level : Level) (set : Set) (f : Fraction) (e : index_of l index level set ≡ Ok f) where
  refuses_no_fraction : (n : Refusal) → index_of l index level set ≡ Err n → ⊥
  refuses_no_fraction n r = let z : ◌≡◌ {A = ℕ} 0 1 = cc in omega arith

  -- where the answer is a fraction: the ledger is sound and has a sheet, the index divides by somebody, and f is the formula in lowest terms
  pub fraction_says : Given l index level set f
  fraction_says = go (index_exactly l index level set)
    where
      go : Way l index level set (index_of l index level set) → Given l index level set f
      go (unsound s r) = absurd (refuses_no_fraction refusal.Unsound r)
      go (sheetless s t r) = absurd (refuses_no_fraction refusal.Sheet r)
      go (divides_by_nobody s t n r) = absurd (refuses_no_fraction refusal.Nobody r)
      go (answered s t n r) = record { sound = s; there = t; somebody = n; is = cc }

  -- it is in lowest terms and of the formula's value, which exists
  pub index_exact : Exact l index level set f
  index_exact =
      let formula = formula_of l index level set in
      let exists : formula.bottom ≡ 0 → ⊥ = weighted_exists index (divided_by l index level set) fraction_says.somebody in
      record {
        lowest = rw fraction_says.is (lowest_lowest formula.top formula.bottom (omega (arith, exists)));
        same = rw fraction_says.is (lowest_same formula.top formula.bottom);
        exists = exists;
      }

  -- no other fraction is
  pub index_only : (g : Fraction) → Lowest g → Same g (formula_of l index level set) → g ≡ f
  index_only g lowest same =
      lowest_unique g f lowest index_exact.lowest
      (same_transitive g (formula_of l index level set) f same (sym index_exact.same) index_exact.exists)

-- (h / 2c) x (c / n) is crossed with h / 2n
crossed : (h c n : ℕ) → h * c * (2 * n) ≡ h * (2 * c * (1 * n))
crossed h c n =
    mul_assoc h c (2 * n) ∙
    ap (λ (x : ℕ). h * x) (mul_left_comm c 2 n ∙ sym (mul_assoc 2 c n) ∙ ap (λ (x : ℕ). 2 * c * x) (sym (one-mul n)))

both_exist : (m n : ℕ) → (m ≡ 0 → ⊥) → (n ≡ 0 → ⊥) → m * n ≡ 0 → ⊥
both_exist m n p q e = let z : 0 < m * n = mul-pos {m = m} {n = n} (omega arith) (omega arith) in omega arith

-- where SAIFI and CAIDI are answered, so is SAIDI, and it is their product
pub caidi_times_saifi :
    (l : Ledger) (level : Level) (set : Set) (a b : Fraction) →
    index_of l Saifi level set ≡ Ok a →
    index_of l Caidi level set ≡ Ok b →
    (c : Fraction) × (index_of l Saidi level set ≡ Ok c) × Same (product b a) c
caidi_times_saifi l level set a b p q =
    let saifi = formula_of l Saifi level set in
    let saidi = formula_of l Saidi level set in
    let caidi = formula_of l Caidi level set in
    let for-a = fraction_says l Saifi level set a p in
    let exact-a = index_exact l Saifi level set a p in
    let exact-b = index_exact l Caidi level set b q in
    let c = lowest_of saidi.top saidi.bottom in (
      c,
      somebody_answered l Saidi level set for-a.sound for-a.there for-a.somebody,
      same_transitive (product b a) (product caidi saifi) c (product_same b caidi a saifi exact-b.same exact-a.same)
          (same_transitive (product caidi saifi) saidi c (crossed saidi.top saifi.top (divided_by l Saidi level set))
          (sym (lowest_same saidi.top saidi.bottom))
          (weighted_exists Saidi (divided_by l Saidi level set) for-a.somebody))
          (both_exist caidi.bottom saifi.bottom exact-b.exists exact-a.exists),
    )

-- a request that names no set means 'std': of the sums, and of each index
pub sums_unnamed : (rs : List TypeRow) (level : Level) → total_of rs level Unnamed ≡ total_of rs level Std
unfolding level_sum row_held
sums_unnamed rs NN = refl
sums_unnamed rs VN = refl
sums_unnamed rs VVN = refl
sums_unnamed rs Network = refl

pub unnamed_means_std : (l : Ledger) (index : Index) (level : Level) → index_of l index level Unnamed ≡ index_of l index level Std
unfolding index_of
unnamed_means_std l index level = rw (sums_unnamed l.rows level)

-- and of each decimal
pub shown_unnamed : (l : Ledger) (index : Index) (level : Level) (digits : ℕ) → shown_index l index level Unnamed digits ≡ shown_index l index level Std digits
shown_unnamed l index level digits = ap (λ a. shown_answer a digits) (unnamed_means_std l index level)
