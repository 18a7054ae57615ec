-- What a verdict does to the cells: each cell of its row grows by its own level's figures, and no other cell changes. Assumes nothing.
use Prim.Native.Nat.{ℕ, zero, suc, ◌+◌, ◌<◌, ◌≤◌}
use mathlib.Core.Path.{◌≡◌, refl, ap, ◌∙◌, sym, subst}
use mathlib.Core.Logic.{◌≢◌}
use mathlib.Core.List.{List}
use mathlib.Core.Bool.{Bool, true, cond}
use lib.ListN.{length, get_or, set, length-set, get_or-replicate}
use lib.Seq.{get_or-set_same, get_or-set_other, set-get_or}
use lib.Dec.{eqb}
use native.Mathlib.Nat.{add-zero}
use native.Mathlib.Omega.{arith}
use borrow.Author.Tests.{eqb-true, eqb-false}
use Rattle.base.specs.Lists.{every}
use Rattle.base.proofs.TestLaws.{Tested, holds, fails, test}
use Rattle.base.proofs.ListLaws.{every_set}
use Rattle.codes.specs.Codes.{rows, levels}
use Rattle.annex.specs.declared.Figures.{Figures}
use Rattle.annex.specs.Figures.{customers, half_minutes, nothing}
use Rattle.annex.specs.Figure.{Figure, Off, Halves, figure_at}
use Rattle.annex.proofs.FoldLaws.{each_level_lem}
use Rattle.fields.specs.declared.Sheet.{Sheet}
use Rattle.verdict.specs.Verdict.{Verdict, refused_with, sheet_verdict}
use Rattle.ledger.specs.declared.Cell.{Cell}
use Rattle.ledger.specs.declared.TypeRow.{TypeRow}
use Rattle.ledger.specs.declared.Ledger.{Ledger}
use Rattle.ledger.specs.Ledger.{no_cell, no_row, empty_row, empty_ledger, held, cell_by, held_in, grown_by, grown_at, grown_row, added, Shaped}

-- ---- a cell

-- a cell with a level's figures added
abbrev pub grown_with : Figures → Cell → ℕ → Cell
grown_with f c h = grown_by c (get_or f.customers h (customers 0)) (get_or f.halves h (half_minutes 0))

-- a grown cell holds of each figure what it held, and the level's figure more
pub grown_holds : (x : Figure) (f : Figures) (c : Cell) (h : ℕ) → held x (grown_with f c h) ≡ held x c + figure_at x f h
grown_holds Off f c h = refl
grown_holds Halves f c h = refl

by_nothing : (c : Cell) → grown_by c (customers 0) (half_minutes 0) ≡ c
by_nothing c = λ i. record { customers = customers (add-zero c.customers.0 i); halves = half_minutes (add-zero c.halves.0 i) }

-- a cell made of so much of each figure holds so much of it
pub held_by : (f : Figure → ℕ) (x : Figure) → held x (cell_by f) ≡ f x
held_by f Off = refl
held_by f Halves = refl

-- a cell is what it holds of each figure
pub by_figures : (c d : Cell) → ((x : Figure) → held x c ≡ held x d) → c ≡ d
by_figures c d same = λ i. record { customers = customers (same Off i); halves = half_minutes (same Halves i) }

-- ---- the cells of a row

module _ (f : Figures) (cells : List Cell) where
  at_same : (h : ℕ) → h < length cells → get_or (grown_at h f cells) h no_cell ≡ grown_with f (get_or cells h no_cell) h
  at_same h l = get_or-set_same cells h _ no_cell l

  at_other : (h k : ℕ) → k ≢ h → get_or (grown_at h f cells) k no_cell ≡ get_or cells k no_cell
  at_other h k n = get_or-set_other cells h k _ no_cell n

-- the cells of a row of which those below a level are grown
abbrev pub grown_below : ℕ → Figures → List Cell → List Cell
grown_below zero f cells = cells
grown_below (suc h) f cells = grown_at h f (grown_below h f cells)

-- those from the level on are as they were
pub below_untouched : (n h : ℕ) (f : Figures) (cells : List Cell) → n ≤ h → get_or (grown_below n f cells) h no_cell ≡ get_or cells h no_cell
below_untouched zero h f cells l = refl
below_untouched (suc n) h f cells l = at_other f (grown_below n f cells) n h (λ e. omega arith) ∙ below_untouched n h f cells (omega arith)

module _ (r : TypeRow) (f : Figures) where
  abbrev one : List Cell
  one = grown_at 0 f r.levels

  abbrev two : List Cell
  two = grown_at 1 f one

  row_length : length (grown_row r f).levels ≡ length r.levels
  row_length = simp length-set

  -- each cell of a grown row is the cell before with its level's figures added
  pub row_grown : length r.levels ≡ levels → (h : ℕ) → h < levels → get_or (grown_row r f).levels h no_cell ≡ grown_with f (get_or r.levels h no_cell) h
  row_grown n =
      let l₁ : length one ≡ levels = length-set r.levels 0 _ ∙ n in
      let l₂ : length two ≡ levels = length-set one 1 _ ∙ l₁ in
      each_level_lem _
      (at_other f two 2 0 (omega arith) ∙ at_other f one 1 0 (omega arith) ∙ at_same f r.levels 0 (omega arith))
      (at_other f two 2 1 (omega arith) ∙ at_same f one 1 (omega arith) ∙ ap (λ c. grown_with f c 1) (at_other f r.levels 0 1 (omega arith)))
      (at_same f two 2 (omega arith) ∙ ap (λ c. grown_with f c 2) (at_other f one 1 2 (omega arith) ∙ at_other f r.levels 0 2 (omega arith)))

  -- a test that every cell of the row passes, and each cell with its level's figures
  pub row_every :
      (p : Cell → Bool) → every p r.levels ≡ true → ((h : ℕ) → h < levels → p (grown_with f (get_or r.levels h no_cell) h) ≡ true) → every p (grown_row r f).levels ≡ true
  row_every p e grown =
      let vn = subst (λ c. p (grown_with f c 1) ≡ true) (sym (at_other f r.levels 0 1 (omega arith))) (grown 1 (omega arith)) in
      let vvn = subst (λ c. p (grown_with f c 2) ≡ true) (sym (at_other f one 1 2 (omega arith) ∙ at_other f r.levels 0 2 (omega arith))) (grown 2 (omega arith)) in
      every_set p two 2 _ (every_set p one 1 _ (every_set p r.levels 0 _ e (grown 0 (omega arith))) vn) vvn

-- nothing added leaves a row
row_nothing : (r : TypeRow) → grown_row r nothing ≡ r
row_nothing r = ap (λ c. record { levels = c }) (at_nothing 2 _ refl refl ∙ at_nothing 1 _ refl refl ∙ at_nothing 0 _ refl refl)
  where
    at_nothing : (h : ℕ) (cells : List Cell) → get_or nothing.customers h (customers 0) ≡ customers 0 → get_or nothing.halves h (half_minutes 0) ≡ half_minutes 0 → grown_at h nothing cells ≡ cells
    at_nothing h cells n m =
        (λ i. set cells h (grown_by (get_or cells h no_cell) (n i) (m i))) ∙ ap (set cells h) (by_nothing (get_or cells h no_cell)) ∙ set-get_or cells h no_cell

-- ---- the ledger

-- an accepted sheet is the ledger's sheet from then on, and a refused record leaves the ledger
pub added_sheet : (l : Ledger) (next : Sheet) → added l (sheet_verdict next) ≡ record { sheet = next; events = l.events; short = l.short; rows = l.rows }
unfolding added
added_sheet l next =
    λ i.
    record {
      sheet = next;
      events = add-zero l.events i;
      short = add-zero l.short i;
      rows = (ap (set l.rows 0) (row_nothing (get_or l.rows 0 no_row)) ∙ set-get_or l.rows 0 no_row) i;
    }

pub added_refused : (l : Ledger) (n : ℕ) → added l (refused_with l.sheet n) ≡ l
unfolding added
added_refused l n = added_sheet l l.sheet

-- adding a verdict keeps the number of rows
pub added_rows : (l : Ledger) (v : Verdict) → length (added l v).rows ≡ length l.rows
unfolding added
added_rows l v = length-set l.rows v.row _

pub empty_shaped : Shaped empty_ledger
empty_shaped = record { rows_there = refl; levels_there = λ row l. ap (λ (r : TypeRow). length r.levels) (get_or-replicate rows row empty_row no_row l) }

module _ (l : Ledger) (v : Verdict) (shaped : Shaped l) where
  pub added_shaped : Shaped (added l v)
  unfolding added
  added_shaped =
      record {
        rows_there = added_rows l v ∙ shaped.rows_there;
        levels_there = λ row b. go row b (test (eqb row v.row));
      }
    where
      grown : TypeRow
      grown = grown_row (get_or l.rows v.row no_row) v.figures

      go : (row : ℕ) → row < rows → Tested (eqb row v.row) → length (get_or (set l.rows v.row grown) row no_row).levels ≡ levels
      go row b (holds e) =
          let same = eqb-true row v.row e in
          let there : v.row < length l.rows = omega (arith, shaped.rows_there) in
          rw same
          (ap (λ (r : TypeRow). length r.levels) (get_or-set_same l.rows v.row grown no_row there)
          ∙ row_length (get_or l.rows v.row no_row) v.figures
          ∙ shaped.levels_there v.row (omega arith))
      go row b (fails e) =
          ap (λ (r : TypeRow). length r.levels) (get_or-set_other l.rows v.row row grown no_row (eqb-false row v.row e)) ∙ shaped.levels_there row b

  -- the cell of any row and level, after a verdict was added
  pub added_held : v.row < rows → (x : Figure) (row h : ℕ) → h < levels → held_in x (added l v) row h ≡ held_in x l row h + cond (eqb v.row row) (figure_at x v.figures h) 0
  unfolding added
  added_held b x row h c = go (test (eqb v.row row))
    where
      grown : TypeRow
      grown = grown_row (get_or l.rows v.row no_row) v.figures

      go : Tested (eqb v.row row) → held x (get_or (get_or (set l.rows v.row grown) row no_row).levels h no_cell) ≡ held_in x l row h + cond (eqb v.row row) (figure_at x v.figures h) 0
      go (holds e) =
          let same = eqb-true v.row row e in
          let there : v.row < length l.rows = omega (arith, shaped.rows_there) in
          rw (e, ← same)
          (ap (λ (r : TypeRow). held x (get_or r.levels h no_cell)) (get_or-set_same l.rows v.row grown no_row there)
          ∙ ap (held x) (row_grown (get_or l.rows v.row no_row) v.figures (shaped.levels_there v.row b) h c)
          ∙ grown_holds x v.figures (get_or (get_or l.rows v.row no_row).levels h no_cell) h)
      go (fails e) =
          let other : row ≢ v.row = λ s. eqb-false v.row row e (sym s) in
          rw e (ap (λ (r : TypeRow). held x (get_or r.levels h no_cell)) (get_or-set_other l.rows v.row row grown no_row other) ∙ sym (add-zero (held_in x l row h)))
