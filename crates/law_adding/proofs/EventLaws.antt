-- The cells of some types are 003's sums over the book's events of these types: each cell is so by *accepted events add exactly the annex*, and types
-- and levels are summed in either order. Assumes nothing.
use Prim.Native.Nat.{ℕ, ◌+◌, ◌<◌}
use mathlib.Core.Path.{◌≡◌, sym, ap, ◌∙◌}
use mathlib.Core.List.{List, [], ◌∷◌, map}
use mathlib.Core.Bool.{true}
use native.Mathlib.Omega.{arith}
use Rattle.base.specs.Lists.{sum}
use Rattle.codes.specs.Codes.{rows, levels, row_of}
use Rattle.annex.specs.Figure.{Figure, given}
use Rattle.ledger.specs.Ledger.{held_in}
use Rattle.law_sums.specs.Accepted.{Accepted, event_in}
use Rattle.law_sums.specs.Theorem.{events_of, book_ledger, IsSum}
use Rattle.law_sums.proofs.AnnexTheorem.{accepted_book_adds}
use Rattle.index.specs.declared.Level.{Level}
use Rattle.law_adding.specs.Parts.{column_of, each_once, counted}
use Rattle.law_adding.specs.Adding.{EventsAdd}
use Rattle.law_adding.proofs.SumLaws.{sum_across, across_alike}
use Rattle.law_adding.proofs.TypeLaws.{counted_by_row, counted_one_more, counted_none, first_is_type, first_is_new, others_once}

-- a figure of each type that is the sum of a value over its counted events: of different types together it is the sum over the events of all of them
types_count :
    (figure : ℕ → ℕ) (v : List ℕ → ℕ) (events : List (List ℕ)) →
    ((typ : ℕ) → row_of typ < rows → figure typ ≡ sum (map v (counted (typ ∷ []) events))) →
    (ts : List ℕ) →
    each_once ts ≡ true →
    sum (map figure ts) ≡ sum (map v (counted ts events))
types_count figure v events each [] once = sym (ap (λ (es : List (List ℕ)). sum (map v es)) (counted_none events))
types_count figure v events each (typ ∷ ts) once =
    (λ i. each typ (first_is_type typ ts once) i + types_count figure v events each ts (others_once typ ts once) i) ∙
    sym (counted_one_more typ ts (first_is_new typ ts once) v events)

module _ (book : List ℕ) (accepted : Accepted book) where
  sums : IsSum book
  sums = accepted_book_adds book accepted

  types_hold_lem :
      (x : Figure) (h : ℕ) →
      h < levels →
      (ts : List ℕ) →
      each_once ts ≡ true →
      sum (map (λ (typ : ℕ). held_in x (book_ledger book) (row_of typ) h) ts) ≡ sum (map (λ (s : List ℕ). given x h (event_in s)) (counted ts (events_of book)))
  types_hold_lem x h b =
      types_count (λ (typ : ℕ). held_in x (book_ledger book) (row_of typ) h) (λ (s : List ℕ). given x h (event_in s)) (events_of book)
      (λ typ r.
      sums.cells x (row_of typ) h r b ∙
      sym (ap (λ (es : List (List ℕ)). sum (map (λ (s : List ℕ). given x h (event_in s)) es)) (counted_by_row typ r (events_of book))))

  -- in an accepted book, types of 9.2 of which none stands twice hold the sums over the book's events of these types
  pub events_add : (level : Level) (ts : List ℕ) → each_once ts ≡ true → EventsAdd book level ts
  events_add level ts once x =
      sum_across level (λ (typ : ℕ) (h : Level). held_in x (book_ledger book) (row_of typ) (column_of h)) ts ∙
      across_alike level _ _
      (types_hold_lem x 0 (omega arith) ts once)
      (types_hold_lem x 1 (omega arith) ts once)
      (types_hold_lem x 2 (omega arith) ts once)
