-- Of an accepted book with a sheet, 01's formula over the book's ledger is the annex's fraction over the book: the totals are the annex's sums over its
-- events, and the ledger's sheet is its first record. Assumes nothing.
use Prim.Native.Nat.{ℕ, ◌*◌}
use mathlib.Core.Path.{◌≡◌, refl, sym, ap, ◌∙◌}
use mathlib.Core.List.{List, [], ◌∷◌}
use lib.ListN.{get_or}
use native.Mathlib.Nat.{one-mul}
use Rattle.wire.specs.Cut.{records_of}
use Rattle.codes.specs.declared.Set.{Set}
use Rattle.annex.specs.Figure.{Off, Halves}
use Rattle.fields.specs.declared.Sheet.{Sheet}
use Rattle.fields.specs.Fields.{sheet_in}
use Rattle.ledger.specs.Ledger.{empty_ledger}
use Rattle.book.specs.Book.{BookState, starting, take_all}
use Rattle.law_sums.specs.Accepted.{zero_map, Accepted}
use Rattle.law_sums.specs.Theorem.{book_ledger}
use Rattle.index.specs.declared.Level.{Level}
use Rattle.index.specs.declared.Level.TheVariants.{NN, VN, VVN, Network}
use Rattle.index.specs.declared.Index.{Index}
use Rattle.index.specs.declared.Index.TheVariants.{Saifi, Saidi, Caidi}
use Rattle.index.specs.Sums.{customers_of}
use Rattle.index.specs.Index.{formula_of}
use Rattle.law_order.specs.Each.{only_sheet, Told}
use Rattle.law_order.proofs.EachLaws.{with_sheet_lem}
use Rattle.law_order.proofs.ShapeLaws.{told_taken}
use Rattle.law_adding.specs.Adding.{total_held}
use Rattle.law_adding.proofs.AddingTheorem.{accepted_book_adds_up}
use Rattle.law_index.specs.Formulas.{customers_off, half_minutes_off, sheet_of, served, annex_fraction}

-- N of a sheet record, level by level
pub bytes_served : (book : List ℕ) (level : Level) → customers_of (sheet_in (sheet_of book)).totals level ≡ served book level
bytes_served book NN = refl
bytes_served book VN = refl
bytes_served book VVN = refl
bytes_served book Network = refl

module _ (book : List ℕ) (accepted : Accepted book) (s : List ℕ) (ss : List (List ℕ)) (e : records_of book ≡ s ∷ ss) (told : Told s ss) where
  -- the ledger's sheet is that of the first record's bytes
  pub ledger_sheet : (book_ledger book).sheet ≡ sheet_in (sheet_of book)
  ledger_sheet =
      ap (λ (rs : List (List ℕ)). (take_all (starting empty_ledger zero_map) rs).ledger.sheet) e ∙
      ap (λ (st : BookState). st.ledger.sheet) (told_taken s ss told) ∙
      with_sheet_lem (sheet_in s) (only_sheet s) ss refl ∙
      sym (ap (λ (rs : List (List ℕ)). sheet_in (get_or rs 0 [])) e)

  module _ (level : Level) (set : Set) where
    served_is : customers_of (book_ledger book).sheet.totals level ≡ served book level
    served_is = ap (λ (sheet : Sheet). customers_of sheet.totals level) ledger_sheet ∙ bytes_served book level

    off_is : total_held Off (book_ledger book) level set ≡ customers_off book level set
    off_is = (accepted_book_adds_up book accepted).totals level set Off

    halves_is : total_held Halves (book_ledger book) level set ≡ half_minutes_off book level set
    halves_is = (accepted_book_adds_up book accepted).totals level set Halves

    saifi_is : formula_of (book_ledger book) Saifi level set ≡ annex_fraction Saifi book level set
    saifi_is = λ i. record { top = off_is i; bottom = (one-mul (customers_of (book_ledger book).sheet.totals level) ∙ served_is) i }

    saidi_is : formula_of (book_ledger book) Saidi level set ≡ annex_fraction Saidi book level set
    saidi_is = λ i. record { top = halves_is i; bottom = 2 * served_is i }

    caidi_is : formula_of (book_ledger book) Caidi level set ≡ annex_fraction Caidi book level set
    caidi_is = λ i. record { top = halves_is i; bottom = 2 * off_is i }

    -- 01's formula over the ledger has the top and the bottom of the annex's fraction over the book
    pub formula_is : (index : Index) → formula_of (book_ledger book) index level set ≡ annex_fraction index book level set
    formula_is Saifi = saifi_is
    formula_is Saidi = saidi_is
    formula_is Caidi = caidi_is
