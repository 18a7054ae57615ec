-- What *each index is that formula's exact fraction in lowest terms* says of an accepted book, from its bytes to the answer.
use Rattle.std.specs.Prelude.{ℕ, ◌+◌, ◌*◌, ◌^◌, ◌<◌, ◌≤◌, ◌≡◌, ◌↔◌, List, [], Result, Ok, Err}
use Rattle.refusals.specs.declared.Refusal.{Refusal}
use Rattle.refusals.specs.declared.Refusal.TheVariants as refusal
use Rattle.ratio.specs.declared.Fraction.{Fraction}
use Rattle.ratio.specs.Fraction.{Same}
use Rattle.ratio.specs.Lowest.{Lowest}
use Rattle.decimal.specs.declared.Decimal.{Decimal}
use Rattle.decimal.specs.Decimal.{Nearest}
use Rattle.codes.specs.declared.Set.{Set}
use Rattle.law_sums.specs.Theorem.{book_ledger}
use Rattle.index.specs.declared.Level.{Level}
use Rattle.index.specs.declared.Index.{Index}
use Rattle.index.specs.Index.{index_of, shown_index}
use Rattle.law_index.specs.Formulas.{annex_fraction}

-- what is answered for the ledger of a book
abbrev pub answer_for : List ℕ → Index → Level → Set → Result Fraction Refusal
answer_for book index level set = index_of (book_ledger book) index level set

-- the annex's fraction, in lowest terms
pub record IsAnnex (index : Index) (book : List ℕ) (level : Level) (set : Set) (f : Fraction) : Type 0 where
  pub lowest : Lowest f
  pub same : Same f (annex_fraction index book level set)

-- 5 exactly for the book of no bytes; 17 exactly where there is a sheet and the annex's fraction divides by 0; and else the annex's fraction
pub record EndToEnd (book : List ℕ) (index : Index) (level : Level) (set : Set) : Type 0 where
  pub exactly_5 : (answer_for book index level set ≡ Err refusal.Sheet) ↔ (book ≡ [])
  pub exactly_17 : (answer_for book index level set ≡ Err refusal.Nobody) ↔ ((book ≡ [] → ⊥) × ((annex_fraction index book level set).bottom ≡ 0))
  pub else_exact :
      (book ≡ [] → ⊥) →
      ((annex_fraction index book level set).bottom ≡ 0 → ⊥) →
      (f : Fraction) × (answer_for book index level set ≡ Ok f) × IsAnnex index book level set f

-- so many digits after the point, nearest to the annex's fraction, a tie upward
pub record NearAnnex (index : Index) (book : List ℕ) (level : Level) (set : Set) (digits : ℕ) (d : Decimal) : Type 0 where
  pub below : d.digits < 10 ^ digits
  pub nearest :
      Nearest (annex_fraction index book level set).top (annex_fraction index book level set).bottom digits (d.whole * 10 ^ digits + d.digits)

-- and the decimal: of at most 6 digits where the annex's fraction exists
abbrev pub DecimalToEnd : List ℕ → Index → Level → Set → ℕ → Type 0
DecimalToEnd book index level set digits =
    (book ≡ [] → ⊥) →
    ((annex_fraction index book level set).bottom ≡ 0 → ⊥) →
    digits ≤ 6 →
    (d : Decimal) × (shown_index (book_ledger book) index level set digits ≡ Ok d) × NearAnnex index book level set digits d
