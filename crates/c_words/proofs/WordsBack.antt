-- A ledger goes into words and comes back as it was, and words that hold a ledger are the words of that ledger: nothing is lost either way.
-- Assumes nothing.
use Prim.Native.Nat.{ℕ, zero, suc, ◌*◌, ◌-◌, ◌<◌, ◌≤◌}
use mathlib.Core.Path.{◌≡◌, refl, sym, ap, ◌∙◌}
use mathlib.Core.List.{List, [], ◌∷◌}
use mathlib.Core.Bool.{Bool, true, false}
use lib.ListN.{length, get_or, drop, length-drop}
use lib.Dec.{eqb}
use native.Mathlib.Omega.{arith}
use borrow.Author.Tests.{eqb-true, eqb-false}
use Rattle.base.proofs.TestLaws.{Tested, holds, fails, test}
use Rattle.base.proofs.ListLaws.{three}
use Rattle.codes.specs.Codes.{rows, levels}
use Rattle.ledger.specs.declared.Cell.{Cell}
use Rattle.ledger.specs.declared.TypeRow.{TypeRow}
use Rattle.ledger.specs.declared.Ledger.{Ledger}
use Rattle.ledger.specs.Ledger.{no_cell, no_row, Shaped}
use Rattle.c_words.specs.Words.{words_first, row_words, ledger_words, words_fit, Fit, cells_of, cell_words, rows_of, cells_in, ledger_in, flag_of, words_of, Fitting}
use Rattle.c_words.proofs.WordLaws.{fit, fits}

-- ---- a ledger's words

cells_back : (cs : List Cell) → cells_of (cell_words cs) ≡ cs
cells_back [] = refl
cells_back (c ∷ cs) = ap (λ ds. c ∷ ds) (cells_back cs)

two_each : (cs : List Cell) → length (cell_words cs) ≡ 2 * length cs
two_each [] = refl
two_each (c ∷ cs) = omega (arith, two_each cs)

flag_back : (t : Bool) → eqb (flag_of t) 1 ≡ t
flag_back true = refl
flag_back false = refl

flag_small : (t : Bool) → flag_of t ≤ 1
flag_small true = omega arith
flag_small false = omega arith

-- rows of three cells each
rows_back : (rs : List TypeRow) → ((i : ℕ) → i < length rs → length (get_or rs i no_row).levels ≡ levels) → rows_of (cells_in rs) ≡ rs
rows_back [] h = refl
rows_back (r ∷ rs) h =
    λ i. record { levels = three no_cell r.levels (h 0 (omega arith)) i } ∷ rows_back rs (λ k l. h (suc k) (omega (arith, l))) i

three_each : (rs : List TypeRow) → length (cells_in rs) ≡ levels * length rs
three_each [] = refl
three_each (r ∷ rs) = omega (arith, three_each rs)

module _ (l : Ledger) (f : Fitting l) where
  words_fit_lem : Fit (words_of l)
  unfolding words_of
  words_fit_lem =
      record {
        size = omega (arith, two_each (cells_in l.rows), three_each l.rows, f.shaped.rows_there);
        flag = flag_small l.sheet.there;
        year = f.year;
        nn = f.nn;
        vn = f.vn;
        vvn = f.vvn;
        events = f.events;
        short = f.short;
      }

  ledger_back : ledger_in (words_of l) ≡ l
  unfolding words_of ledger_in
  ledger_back =
      λ i.
      record {
        sheet = record { there = flag_back l.sheet.there i; year = l.sheet.year; totals = three 0 l.sheet.totals f.totals i };
        events = l.events;
        short = l.short;
        rows = (ap rows_of (cells_back (cells_in l.rows)) ∙ rows_back l.rows (λ k b. f.shaped.levels_there k (omega (arith, b, f.shaped.rows_there)))) i;
      }

  -- a ledger that fits words comes back from its words, and those fit
  pub words_back : (words_fit (words_of l) ≡ true) × (ledger_in (words_of l) ≡ l)
  words_back = (fits (words_of l) words_fit_lem, ledger_back)

-- ---- the ledger that words hold

pairs_back : (n : ℕ) (us : List ℕ) → length us ≡ 2 * n → cell_words (cells_of us) ≡ us
pairs_back n [] e = refl
pairs_back n (a ∷ []) e = absurd (omega (arith, e))
pairs_back zero (a ∷ b ∷ us) e = absurd (omega (arith, e))
pairs_back (suc n) (a ∷ b ∷ us) e = ap (λ vs. a ∷ b ∷ vs) (pairs_back n us (omega (arith, e)))

threes_back : (n : ℕ) (cs : List Cell) → length cs ≡ levels * n → cells_in (rows_of cs) ≡ cs
threes_back n [] e = refl
threes_back n (a ∷ []) e = absurd (omega (arith, e))
threes_back n (a ∷ b ∷ []) e = absurd (omega (arith, e))
threes_back zero (a ∷ b ∷ c ∷ cs) e = absurd (omega (arith, e))
threes_back (suc n) (a ∷ b ∷ c ∷ cs) e = ap (λ ds. a ∷ b ∷ c ∷ ds) (threes_back n cs (omega (arith, e)))

flag_same : (n : ℕ) → n ≤ 1 → flag_of (eqb n 1) ≡ n
flag_same n h = go (test (eqb n 1))
  where
    go : Tested (eqb n 1) → flag_of (eqb n 1) ≡ n
    go (holds e) = ap flag_of e ∙ sym (eqb-true n 1 e)
    go (fails e) = ap flag_of e ∙ (let z : n ≡ 1 → ⊥ = eqb-false n 1 e in omega (arith, h, z))

half : (n : ℕ) (us : List ℕ) → length us ≡ 2 * n → length (cells_of us) ≡ n
half zero [] e = refl
half (suc n) [] e = absurd (omega (arith, e))
half n (a ∷ []) e = absurd (omega (arith, e))
half zero (a ∷ b ∷ us) e = absurd (omega (arith, e))
half (suc n) (a ∷ b ∷ us) e = ap suc (half n us (omega (arith, e)))

third : (n : ℕ) (cs : List Cell) → length cs ≡ levels * n → length (rows_of cs) ≡ n
third zero [] e = refl
third (suc n) [] e = absurd (omega (arith, e))
third n (a ∷ []) e = absurd (omega (arith, e))
third n (a ∷ b ∷ []) e = absurd (omega (arith, e))
third zero (a ∷ b ∷ c ∷ cs) e = absurd (omega (arith, e))
third (suc n) (a ∷ b ∷ c ∷ cs) e = ap suc (third n cs (omega (arith, e)))

three_long : (cs : List Cell) (i : ℕ) → i < length (rows_of cs) → length (get_or (rows_of cs) i no_row).levels ≡ levels
three_long [] i l = absurd (omega (arith, l))
three_long (a ∷ []) i l = absurd (omega (arith, l))
three_long (a ∷ b ∷ []) i l = absurd (omega (arith, l))
three_long (a ∷ b ∷ c ∷ cs) zero l = refl
three_long (a ∷ b ∷ c ∷ cs) (suc i) l = three_long cs i (omega (arith, l))

-- the words behind the first seven are those of the rows' cells
behind : (us : List ℕ) → length us ≡ rows * row_words → cell_words (cells_in (rows_of (cells_of us))) ≡ us
behind us e = ap cell_words (threes_back rows (cells_of us) (half (levels * rows) us e)) ∙ pairs_back (levels * rows) us e

before_same : (ws : List ℕ) → Fit ws → words_of (ledger_in ws) ≡ ws
unfolding words_of ledger_in
before_same [] f = absurd (omega (arith, f.size))
before_same (_ ∷ []) f = absurd (omega (arith, f.size))
before_same (_ ∷ _ ∷ []) f = absurd (omega (arith, f.size))
before_same (_ ∷ _ ∷ _ ∷ []) f = absurd (omega (arith, f.size))
before_same (_ ∷ _ ∷ _ ∷ _ ∷ []) f = absurd (omega (arith, f.size))
before_same (_ ∷ _ ∷ _ ∷ _ ∷ _ ∷ []) f = absurd (omega (arith, f.size))
before_same (_ ∷ _ ∷ _ ∷ _ ∷ _ ∷ _ ∷ []) f = absurd (omega (arith, f.size))
before_same (a ∷ b ∷ c ∷ d ∷ e ∷ g ∷ h ∷ us) f = λ i. flag_same a f.flag i ∷ b ∷ c ∷ d ∷ e ∷ g ∷ h ∷ behind us (omega (arith, f.size)) i

-- words that fit are the words of the ledger that they hold
pub words_same : (ws : List ℕ) → words_fit ws ≡ true → words_of (ledger_in ws) ≡ ws
words_same ws e = before_same ws (fit ws e)

-- the ledger that words hold fits words
rest_length : (ws : List ℕ) → length ws ≡ ledger_words → length (drop words_first ws) ≡ rows * row_words
rest_length ws e = length-drop words_first ws ∙ ap (λ n. n - words_first) e

-- as many words as a ledger has hold one with all its rows and levels, and words that fit one whose numbers fit too
pub held_shaped : (ws : List ℕ) → length ws ≡ ledger_words → Shaped (ledger_in ws)
unfolding ledger_in
held_shaped ws e =
    let there = third rows (cells_of (drop words_first ws)) (half (levels * rows) (drop words_first ws) (rest_length ws e)) in
    record { rows_there = there; levels_there = λ row l. three_long (cells_of (drop words_first ws)) row (omega (arith, l, there)) }

pub held_fits : (ws : List ℕ) → words_fit ws ≡ true → Fitting (ledger_in ws)
unfolding ledger_in
held_fits ws e =
    let f = fit ws e in
    record {
      year = f.year;
      totals = refl;
      nn = f.nn;
      vn = f.vn;
      vvn = f.vvn;
      events = f.events;
      short = f.short;
      shaped = held_shaped ws f.size;
    }
