-- CAIDI times SAIFI is SAIDI in every book's ledger, where SAIFI and CAIDI both exist; where one of them does not, it is refused with 5 or 17, and never
-- with 1. Assumes nothing.
use Prim.Native.Nat.{ℕ}
use Rattle.std.specs.Prelude.{Ok, Err}
use mathlib.Core.Path.{◌≡◌, sym, ap, ◌∙◌}
use mathlib.Core.List.{List}
use mathlib.Core.Bool.{true, true≢false}
use lib.Dec.{eqb}
use native.Mathlib.Omega.{arith}
use borrow.Author.Tests.{eqb-true, eqb-false}
use Rattle.base.proofs.TestLaws.{Tested, holds, fails, test}
use Rattle.refusals.specs.declared.Refusal.TheVariants as refusal
use Rattle.refusals.specs.Refusals.{number_of}
use Rattle.ratio.specs.declared.Fraction.{Fraction}
use Rattle.codes.specs.declared.Set.{Set}
use Rattle.annex.specs.Figure.{Off}
use Rattle.ledger.specs.declared.Ledger.{Ledger}
use Rattle.ledger.specs.Sound.{sound_ledger}
use Rattle.law_sums.specs.Theorem.{book_ledger}
use Rattle.index.specs.declared.Level.{Level}
use Rattle.index.specs.declared.Index.{Index}
use Rattle.index.specs.declared.Index.TheVariants.{Saifi, Saidi, Caidi}
use Rattle.index.specs.Sums.{customers_of}
use Rattle.index.specs.Index.{index_of}
use Rattle.index.specs.Answered.{Way, unsound, sheetless, divides_by_nobody, answered}
use Rattle.index.proofs.IndexLaws.{index_exactly, sheetless_refused, nobody_refused, somebody_answered, caidi_times_saifi}
use Rattle.law_adding.specs.Adding as said
use Rattle.law_adding.specs.Adding.{total_held, Identity, Multiplies}
use Rattle.law_adding.proofs.BookLaws.{book_sound}

module _ (l : Ledger) (level : Level) (set : Set) where
  -- in any ledger: where SAIFI and CAIDI exist, SAIDI does, and is their product
  pub multiplies :
      (saifi caidi : Fraction) → index_of l Saifi level set ≡ Ok saifi → index_of l Caidi level set ≡ Ok caidi → Multiplies l level set saifi caidi
  multiplies saifi caidi p q =
      let found = caidi_times_saifi l level set saifi caidi p q in
      record { saidi = found.0; is_saidi = found.1; same = found.2 }

  -- in a sound ledger: the three are answered in one of the ways of the identity
  pub identity : sound_ledger l ≡ true → Identity l level set
  identity sound = first (test l.sheet.there)
    where
      n : ℕ
      n = customers_of l.sheet.totals level

      interrupted : ℕ
      interrupted = total_held Off l level set

      third : l.sheet.there ≡ true → (n ≡ 0 → ⊥) → Tested (eqb interrupted 0) → Identity l level set
      third t somebody (holds e) =
          let none : interrupted ≡ 0 = eqb-true interrupted 0 e in
          said.none_interrupted t none (nobody_refused l Caidi level set sound t none)
      third t somebody (fails e) =
          let some : interrupted ≡ 0 → ⊥ = eqb-false interrupted 0 e in
          let is-saifi = somebody_answered l Saifi level set sound t somebody in
          let is-caidi = somebody_answered l Caidi level set sound t some in
          let found = multiplies _ _ is-saifi is-caidi in
          said.multiplied somebody some _ found.saidi _ is-saifi found.is_saidi is-caidi found.same

      second : l.sheet.there ≡ true → Tested (eqb n 0) → Identity l level set
      second t (holds e) =
          let none : n ≡ 0 = eqb-true n 0 e in
          said.none_served t none (nobody_refused l Saifi level set sound t none) (nobody_refused l Saidi level set sound t none)
      second t (fails e) = third t (eqb-false n 0 e) (test (eqb interrupted 0))

      first : Tested l.sheet.there → Identity l level set
      first (holds t) = second t (test (eqb n 0))
      first (fails t) = said.sheetless t (λ index. sheetless_refused l index level set sound t)

-- of every book's ledger, an accepted book's too
module _ (book : List ℕ) (level : Level) (set : Set) where
  pub book_multiplies :
      (saifi caidi : Fraction) →
      index_of (book_ledger book) Saifi level set ≡ Ok saifi →
      index_of (book_ledger book) Caidi level set ≡ Ok caidi →
      Multiplies (book_ledger book) level set saifi caidi
  book_multiplies = multiplies (book_ledger book) level set

  pub book_identity : Identity (book_ledger book) level set
  book_identity = identity (book_ledger book) level set (book_sound book)

  -- refusal 1 does not arise
  pub never_unsound : (index : Index) → index_of (book_ledger book) index level set ≡ Err refusal.Unsound → ⊥
  never_unsound index e = go (index_exactly (book_ledger book) index level set)
    where
      go : Way (book_ledger book) index level set (index_of (book_ledger book) index level set) → ⊥
      go (unsound s r) = true≢false (sym (book_sound book) ∙ s)
      go (sheetless s t r) = let z : refusal.Sheet ≡ refusal.Unsound = cc in let n : ◌≡◌ {A = ℕ} 5 1 = ap number_of z in omega arith
      go (divides_by_nobody s t n r) = let z : refusal.Nobody ≡ refusal.Unsound = cc in let n : ◌≡◌ {A = ℕ} 17 1 = ap number_of z in omega arith
      go (answered s t n r) = let z : ◌≡◌ {A = ℕ} 0 1 = cc in omega arith
