-- The bytes of a joined book: a whole book is its records joined, and whole records that are joined are cut apart again, so the records of the joined
-- book are those of the first and the events of the second. Assumes nothing.
use Prim.Native.Nat.{ℕ}
use mathlib.Core.Path.{◌≡◌, refl, sym, ap, ◌∙◌, subst}
use mathlib.Core.List.{List, [], ◌∷◌, ◌++◌, append_assoc}
use mathlib.Core.Bool.{Bool, false, not}
use lib.Dec.{eqb}
use Rattle.base.specs.Lists.{All, keep, Bytes}
use Rattle.base.proofs.ListLaws.{all_append, all_kept, keep_append, keep_again}
use Rattle.wire.specs.Frame.{kind_of}
use Rattle.wire.specs.Cut.{records_of, joined}
use Rattle.wire.proofs.CutLaws.{Framed, cut_joined, records_framed}
use Rattle.wire.proofs.ByteLaws.{bytes_each}
use Rattle.records.specs.Records.{is_broken}
use Rattle.law_sums.specs.Theorem.{events_of}
use Rattle.law_order.proofs.ShapeLaws.{whole_joined}
use Rattle.law_join.specs.Join.{joined_book}

joined_append : (rs ss : List (List ℕ)) → joined (rs ++ ss) ≡ joined rs ++ joined ss
joined_append [] ss = refl
joined_append (r ∷ rs) ss = ap (λ (t : List ℕ). r ++ t) (joined_append rs ss) ∙ sym (append_assoc r (joined rs) (joined ss))

module _ (book₁ book₂ : List ℕ) (whole : is_broken book₁ ≡ false) where
  all_framed : All Framed (records_of book₁ ++ events_of book₂)
  all_framed =
      all_append Framed (records_of book₁) (events_of book₂) (records_framed book₁)
      (all_kept Framed (λ (s : List ℕ). not (eqb (kind_of s) 1)) (records_of book₂) (records_framed book₂))

  -- where the first book does not break off, the joined book is its records and the second's events joined, and is cut into just these
  pub join_is : joined (records_of book₁ ++ events_of book₂) ≡ joined_book book₁ book₂
  join_is = joined_append (records_of book₁) (events_of book₂) ∙ ap (λ (b : List ℕ). b ++ joined (events_of book₂)) (whole_joined book₁ whole)

  pub join_records : records_of (joined_book book₁ book₂) ≡ records_of book₁ ++ events_of book₂
  join_records = ap records_of (sym join_is) ∙ cut_joined (records_of book₁ ++ events_of book₂) all_framed

  pub join_events : events_of (joined_book book₁ book₂) ≡ events_of book₁ ++ events_of book₂
  join_events =
      let no_sheet_lem : List ℕ → Bool = λ (s : List ℕ). not (eqb (kind_of s) 1) in
      ap (keep no_sheet_lem) join_records ∙ keep_append no_sheet_lem (records_of book₁) (events_of book₂) ∙
      ap (λ (es : List (List ℕ)). events_of book₁ ++ es) (keep_again no_sheet_lem (records_of book₂))

-- the records of a book of bytes hold bytes
pub bytes_records : (book : List ℕ) → is_broken book ≡ false → Bytes book → All Bytes (records_of book)
bytes_records book whole b = bytes_each (records_of book) (subst Bytes (sym (whole_joined book whole)) b)
