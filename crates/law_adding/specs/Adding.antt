-- Levels and event types add up to the network, and CAIDI times SAIFI is SAIDI wherever SAIFI and CAIDI both exist: of the ledger of an accepted
-- book, of the book's events (003, 4.3.2), and of the exact fractions. CAIDI does not add.
use Rattle.std.specs.Prelude.{ℕ, ◌+◌, ◌≡◌, List, [], ◌∷◌, map, true, false, Ok, Err}
use Rattle.refusals.specs.declared.Refusal.TheVariants as refusal
use Rattle.ratio.specs.declared.Fraction.{Fraction}
use Rattle.ratio.specs.Fraction.{plus, product, Same}
use Rattle.codes.specs.declared.Set.{Set}
use Rattle.codes.specs.declared.Set.TheVariants.{All, Std}
use Rattle.codes.specs.Codes.{types}
use Rattle.annex.specs.Figure.{Figure, Off}
use Rattle.ledger.specs.declared.Ledger.{Ledger}
use Rattle.ledger.specs.Ledger.{held}
use Rattle.law_sums.specs.Theorem.{events_of, book_ledger}
use Rattle.index.specs.declared.Level.{Level}
use Rattle.index.specs.declared.Level.TheVariants.{Network}
use Rattle.index.specs.declared.Index.{Index}
use Rattle.index.specs.declared.Index.TheVariants.{Saifi, Saidi, Caidi}
use Rattle.index.specs.Sums.{total_of, customers_of}
use Rattle.index.specs.Index.{formula_of, index_of}
use Rattle.law_adding.specs.Parts.{over_levels, types_in, rest, each_once, events_hold, types_hold, alone_of, plus_all, over_each, share_of}

-- the total of a figure: of the customers interrupted, and of the half customer-minutes
abbrev pub total_held : Figure → Ledger → Level → Set → ℕ
total_held x l level set = held x (total_of l.rows level set)

-- the network's figures and its N are the levels' together
pub record LevelsAdd (l : Ledger) (set : Set) : Type 0 where
  pub figures : (x : Figure) → total_held x l Network set ≡ over_levels (λ (h : Level). total_held x l h set)
  pub served : customers_of l.sheet.totals Network ≡ over_levels (customers_of l.sheet.totals)

-- under a set, a level's or the network's are those of the set's types together: under 'all', of every type
abbrev pub TypesAdd : Ledger → Level → Set → Type 0
TypesAdd l level set = (x : Figure) → total_held x l level set ≡ types_hold x l level (types_in set)

-- those under 'std' and those of the types that it leaves out are those under 'all'
abbrev pub RestAdds : Ledger → Level → Type 0
RestAdds l level = (x : Figure) → total_held x l level Std + types_hold x l level rest ≡ total_held x l level All

-- types together are 003's sums over the book's events of these types
abbrev pub EventsAdd : List ℕ → Level → List ℕ → Type 0
EventsAdd book level ts = (x : Figure) → types_hold x (book_ledger book) level ts ≡ events_hold x ts level (events_of book)

-- and so are the sums that an index is made of
abbrev pub TotalsAre : List ℕ → Level → Set → Type 0
TotalsAre book level set = (x : Figure) → total_held x (book_ledger book) level set ≡ events_hold x (types_in set) level (events_of book)

-- the index under 'all' is the index under 'std' and that of the types that 'std' leaves out alone, and it is those of the types, each alone: exact
-- fractions over one N, which all exist
pub record IndexAdds (l : Ledger) (index : Index) (level : Level) : Type 0 where
  pub all : Fraction
  pub std : Fraction
  pub is_all : index_of l index level All ≡ Ok all
  pub is_std : index_of l index level Std ≡ Ok std
  pub over_one_n : (ts : List ℕ) (set : Set) → (alone_of l index level ts).bottom ≡ (formula_of l index level set).bottom
  pub exists : (ts : List ℕ) → (alone_of l index level ts).bottom ≡ 0 → ⊥
  pub rest_adds : Same all (plus std (alone_of l index level rest))
  pub types_add : Same all (plus_all (map (λ (typ : ℕ). alone_of l index level (typ ∷ [])) types))

-- where a level, or the network, has no customers, none were interrupted
abbrev pub NobodyOff : Ledger → Level → Set → Type 0
NobodyOff l level set = (x : Figure) → total_held x l level set ≡ 0

-- the network's index times the network's N is the sum over the levels of the level's index times the level's N, as exact fractions; the network has the
-- index, and so has each level with customers
pub record LevelsWeigh (l : Ledger) (index : Index) (set : Set) : Type 0 where
  pub network : Fraction
  pub is_network : index_of l index Network set ≡ Ok network
  pub of_level : Level → Fraction
  pub is_level : (level : Level) → (customers_of l.sheet.totals level ≡ 0 → ⊥) → index_of l index level set ≡ Ok (of_level level)
  pub exists : (over_each (share_of l index set)).bottom ≡ 0 → ⊥
  pub shares_add : Same (share_of l index set Network) (over_each (share_of l index set))

-- all of it, of a book
pub record AddsUp (book : List ℕ) : Type 0 where
  pub levels : (set : Set) → LevelsAdd (book_ledger book) set
  pub types : (level : Level) (set : Set) → TypesAdd (book_ledger book) level set
  pub rests : (level : Level) → RestAdds (book_ledger book) level
  pub events : (level : Level) (ts : List ℕ) → each_once ts ≡ true → EventsAdd book level ts
  pub totals : (level : Level) (set : Set) → TotalsAre book level set
  pub saifi : (level : Level) → (customers_of (book_ledger book).sheet.totals level ≡ 0 → ⊥) → IndexAdds (book_ledger book) Saifi level
  pub saidi : (level : Level) → (customers_of (book_ledger book).sheet.totals level ≡ 0 → ⊥) → IndexAdds (book_ledger book) Saidi level
  pub nobody_off : (level : Level) (set : Set) → customers_of (book_ledger book).sheet.totals level ≡ 0 → NobodyOff (book_ledger book) level set
  pub saifi_weighs : (set : Set) → (customers_of (book_ledger book).sheet.totals Network ≡ 0 → ⊥) → LevelsWeigh (book_ledger book) Saifi set
  pub saidi_weighs : (set : Set) → (customers_of (book_ledger book).sheet.totals Network ≡ 0 → ⊥) → LevelsWeigh (book_ledger book) Saidi set

-- CAIDI under 'all' is not CAIDI under 'std' and that of the types that 'std' leaves out alone, though all three exist
pub record CaidiApart (l : Ledger) (level : Level) : Type 0 where
  pub all : Fraction
  pub std : Fraction
  pub is_all : index_of l Caidi level All ≡ Ok all
  pub is_std : index_of l Caidi level Std ≡ Ok std
  pub exists : (alone_of l Caidi level rest).bottom ≡ 0 → ⊥
  pub apart : Same all (plus std (alone_of l Caidi level rest)) → ⊥

-- how SAIFI, SAIDI and CAIDI of a level or the network and a set are answered together: without a sheet each is 5, with nobody served SAIFI and SAIDI
-- are 17, with nobody interrupted CAIDI is 17; otherwise all three exist, and CAIDI times SAIFI is SAIDI
pub data Identity (l : Ledger) (level : Level) (set : Set) : Type 0 where
  sheetless : l.sheet.there ≡ false → ((index : Index) → index_of l index level set ≡ Err refusal.Sheet) → Identity l level set
  none_served :
      l.sheet.there ≡ true →
      customers_of l.sheet.totals level ≡ 0 →
      index_of l Saifi level set ≡ Err refusal.Nobody →
      index_of l Saidi level set ≡ Err refusal.Nobody →
      Identity l level set
  none_interrupted :
      l.sheet.there ≡ true →
      total_held Off l level set ≡ 0 →
      index_of l Caidi level set ≡ Err refusal.Nobody →
      Identity l level set
  multiplied :
      (customers_of l.sheet.totals level ≡ 0 → ⊥) →
      (total_held Off l level set ≡ 0 → ⊥) →
      (saifi saidi caidi : Fraction) →
      index_of l Saifi level set ≡ Ok saifi →
      index_of l Saidi level set ≡ Ok saidi →
      index_of l Caidi level set ≡ Ok caidi →
      Same (product caidi saifi) saidi →
      Identity l level set

-- wherever SAIFI and CAIDI both exist
pub record Multiplies (l : Ledger) (level : Level) (set : Set) (saifi caidi : Fraction) : Type 0 where
  pub saidi : Fraction
  pub is_saidi : index_of l Saidi level set ≡ Ok saidi
  pub same : Same (product caidi saifi) saidi
