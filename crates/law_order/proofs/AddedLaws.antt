-- Two verdicts may be added in either order: each adds to the cells of a row, and to the numbers of events, what does not depend on the other. Assumes
-- nothing.
use Prim.Native.Nat.{ℕ, zero, suc, ◌+◌}
use mathlib.Core.Path.{◌≡◌, refl, sym, ap, ◌∙◌}
use mathlib.Core.List.{List, [], ◌∷◌}
use lib.ListN.{get_or, set}
use native.Mathlib.Nat.{add_right_comm}
use Rattle.annex.specs.declared.Figures.{Figures}
use Rattle.annex.specs.Figure.{figure_at}
use Rattle.verdict.specs.Verdict.{Verdict}
use Rattle.ledger.specs.declared.Cell.{Cell}
use Rattle.ledger.specs.declared.TypeRow.{TypeRow}
use Rattle.ledger.specs.declared.Ledger.{Ledger}
use Rattle.ledger.specs.Ledger.{no_cell, no_row, held, grown_at, grown_levels, grown_row, added}
use Rattle.ledger.proofs.CellLaws.{grown_with, grown_holds, by_figures}

abbrev Exchanged : {A : Type 0} → (A → A) → (A → A) → Type 0
Exchanged {A} f g = (x : A) → f (g x) ≡ g (f x)

-- one place of a list changed
abbrev changed : {A : Type 0} → A → (A → A) → ℕ → List A → List A
changed none f at xs = set xs at (f (get_or xs at none))

-- changes that may be exchanged at one place may be exchanged at any two
module _ {A : Type 0} (none : A) (f g : A → A) (same : Exchanged f g) where
  changed_comm : (i j : ℕ) → Exchanged (changed none f i) (changed none g j)
  changed_comm i j [] = refl
  changed_comm zero zero (x ∷ xs) = ap (λ y. y ∷ xs) (same x)
  changed_comm zero (suc j) (x ∷ xs) = refl
  changed_comm (suc i) zero (x ∷ xs) = refl
  changed_comm (suc i) (suc j) (x ∷ xs) = ap (λ rest. x ∷ rest) (changed_comm i j xs)

-- what may be exchanged with each of three may be exchanged with the three one after the other
with_three : {A : Type 0} (f a b c : A → A) → Exchanged f a → Exchanged f b → Exchanged f c → Exchanged f (λ x. c (b (a x)))
with_three f a b c p q r x = r (b (a x)) ∙ ap c (q (a x)) ∙ ap (λ y. c (b y)) (p x)

-- figures added to a cell, to a level's cell of a row, and to the row
module _ (f g : Figures) where
  cell_comm : (h k : ℕ) → Exchanged (λ (c : Cell). grown_with f c h) (λ (c : Cell). grown_with g c k)
  cell_comm h k c =
      by_figures _ _
      (λ x.
      grown_holds x f (grown_with g c k) h ∙
      ap (λ n. n + figure_at x f h) (grown_holds x g c k) ∙
      add_right_comm (held x c) (figure_at x g k) (figure_at x f h) ∙
      ap (λ n. n + figure_at x g k) (sym (grown_holds x f c h)) ∙
      sym (grown_holds x g (grown_with f c h) k))

  level_comm : (h k : ℕ) → Exchanged (grown_at h f) (grown_at k g)
  level_comm h k = changed_comm no_cell (λ (c : Cell). grown_with f c h) (λ (c : Cell). grown_with g c k) (cell_comm h k) h k

  levels_one : (h : ℕ) → Exchanged (grown_at h f) (grown_levels g)
  levels_one h = with_three (grown_at h f) (grown_at 0 g) (grown_at 1 g) (grown_at 2 g) (level_comm h 0) (level_comm h 1) (level_comm h 2)

levels_comm : (f g : Figures) → Exchanged (grown_levels f) (grown_levels g)
levels_comm f g =
    with_three (grown_levels f) (grown_at 0 g) (grown_at 1 g) (grown_at 2 g)
    (λ cells. sym (levels_one g f 0 cells))
    (λ cells. sym (levels_one g f 1 cells))
    (λ cells. sym (levels_one g f 2 cells))

row_comm : (f g : Figures) → Exchanged (λ (r : TypeRow). grown_row r f) (λ (r : TypeRow). grown_row r g)
row_comm f g r = ap (λ cells. record { levels = cells }) (levels_comm f g r.levels)

-- two verdicts of one sheet may be added in either order
pub added_comm : (l : Ledger) (v w : Verdict) → v.sheet ≡ w.sheet → added (added l v) w ≡ added (added l w) v
unfolding added
added_comm l v w e =
    λ i.
    record {
      sheet = sym e i;
      events = add_right_comm l.events v.events w.events i;
      short = add_right_comm l.short v.short w.short i;
      rows =
          changed_comm no_row (λ (r : TypeRow). grown_row r w.figures) (λ (r : TypeRow). grown_row r v.figures)
          (row_comm w.figures v.figures)
          w.row v.row l.rows i;
    }
