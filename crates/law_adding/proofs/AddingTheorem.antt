-- The theorem *levels and event types add up to the network* (01's mission; 003, 4.3.2) of an accepted book, gathered from the laws of its totals, its
-- events and its indices. Assumes nothing.
use Prim.Native.Nat.{ℕ}
use mathlib.Core.Path.{◌≡◌, refl, ◌∙◌}
use mathlib.Core.List.{List}
use mathlib.Core.Bool.{true}
use Rattle.codes.specs.declared.Set.{Set}
use Rattle.codes.specs.declared.Set.TheVariants.{All, Std, Unnamed}
use Rattle.codes.specs.Codes.{row_of}
use Rattle.law_sums.specs.Accepted.{Accepted}
use Rattle.law_sums.specs.Theorem.{book_ledger}
use Rattle.index.specs.declared.Level.{Level}
use Rattle.index.specs.Sums.{customers_of}
use Rattle.law_adding.specs.Parts.{types_in, rest, each_once}
use Rattle.law_adding.specs.Adding.{TotalsAre, NobodyOff, AddsUp}
use Rattle.law_adding.proofs.BookLaws.{book_sound}
use Rattle.law_adding.proofs.EventLaws.{events_add}
use Rattle.law_adding.proofs.TotalLaws.{levels_add, types_add, rest_adds}
use Rattle.law_adding.proofs.IndexLaws.{saifi_adds, saidi_adds}
use Rattle.law_adding.proofs.NobodyLaws.{none_off}
use Rattle.law_adding.proofs.WeighLaws.{saifi_weighs, saidi_weighs}

-- a set's types are different types of 9.2, and so are those that 'std' leaves out
pub set_once : (set : Set) → each_once (types_in set) ≡ true
unfolding row_of
set_once All = refl
set_once Std = refl
set_once Unnamed = refl

pub rest_once : each_once rest ≡ true
unfolding row_of
rest_once = refl

module _ (book : List ℕ) (accepted : Accepted book) where
  totals_are : (level : Level) (set : Set) → TotalsAre book level set
  totals_are level set =
      λ x. types_add (book_ledger book) level set x ∙ events_add book accepted level (types_in set) (set_once set) x

  nobody_off : (level : Level) (set : Set) → customers_of (book_ledger book).sheet.totals level ≡ 0 → NobodyOff (book_ledger book) level set
  nobody_off level set = none_off book accepted level set (totals_are level set)

  pub accepted_book_adds_up : AddsUp book
  accepted_book_adds_up =
      record {
        levels = levels_add (book_ledger book);
        types = types_add (book_ledger book);
        rests = rest_adds (book_ledger book);
        events = events_add book accepted;
        totals = totals_are;
        saifi = saifi_adds (book_ledger book) (book_sound book);
        saidi = saidi_adds (book_ledger book) (book_sound book);
        nobody_off = nobody_off;
        saifi_weighs = λ set. saifi_weighs (book_ledger book) (book_sound book) set (λ h. nobody_off h set);
        saidi_weighs = λ set. saidi_weighs (book_ledger book) (book_sound book) set (λ h. nobody_off h set);
      }
