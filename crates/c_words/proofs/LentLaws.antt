-- Why an exported call needs no branch: where the header is another or the words hold no ledger, the call behind gets a ledger that is not sound; where
-- it refuses that with 1, so that it changes nothing, what is answered and left is what the definitions say. Assumes nothing.
use Prim.Native.Nat.{ℕ}
use mathlib.Core.Path.{◌≡◌, refl, sym, ap, ◌∙◌}
use mathlib.Core.List.{List}
use mathlib.Core.Bool.{Bool, true, false, ◌&&◌, ◌||◌, not, cond, or-true}
use lib.ListN.{length}
use lib.Dec.{eqb}
use native.Mathlib.Omega.{arith}
use borrow.Author.Tests.{eq-eqb, ne_eqb, eqb-false}
use Rattle.base.proofs.TestLaws.{Tested, holds, fails, test}
use Rattle.ledger.specs.declared.Ledger.{Ledger}
use Rattle.ledger.specs.Sound.{sound_ledger}
use Rattle.ledger.specs.Take.{Taken, unsound}
use Rattle.c_words.specs.Words.{ledger_words, words_fit, ledger_in, words_of}
use Rattle.c_words.specs.Header.{header_word, headed, answered, if_accepted}
use Rattle.c_words.specs.Inside.{no_ledger, lent_ledger, written, settled}
use Rattle.c_words.proofs.WordLaws.{fit}

-- ---- the ledger that is handed on

-- an accepted answer, or a refusal
pub accepted_is : {X : Type 0} (answer : ℕ) (next same : X) → answer ≡ 0 → if_accepted answer next same ≡ next
accepted_is answer next same e = ap (λ t. cond t next same) (eq-eqb answer 0 e)

pub refused_is : {X : Type 0} (answer : ℕ) (next same : X) → (answer ≡ 0 → ⊥) → if_accepted answer next same ≡ same
refused_is answer next same z = ap (λ t. cond t next same) (ne_eqb answer 0 z)

-- which ledger it is
pub lent_other : (header : ℕ) (ws : List ℕ) → (header ≡ header_word → ⊥) → lent_ledger header ws ≡ no_ledger
unfolding lent_ledger
lent_other header ws z = ap (λ t. cond (t && words_fit ws) (ledger_in ws) no_ledger) (ne_eqb header header_word z)

pub lent_unfit : (header : ℕ) (ws : List ℕ) → header ≡ header_word → words_fit ws ≡ false → lent_ledger header ws ≡ no_ledger
unfolding lent_ledger
lent_unfit header ws h w = λ i. cond (eq-eqb header header_word h i && w i) (ledger_in ws) no_ledger

pub lent_fits : (header : ℕ) (ws : List ℕ) → header ≡ header_word → words_fit ws ≡ true → lent_ledger header ws ≡ ledger_in ws
unfolding lent_ledger
lent_fits header ws h w = λ i. cond (eq-eqb header header_word h i && w i) (ledger_in ws) no_ledger

-- what the call behind answers, and what it leaves, as functions of the ledger that it gets: seen through the ledger handed on
module _ (header : ℕ) (ws : List ℕ) where
  -- the answer, of a call that refuses `no_ledger` with 1: 254 for another header, 1 where the words do not fit, else its own to their ledger
  pub lent_answer : (f : Ledger → ℕ) → f no_ledger ≡ 1 → headed header (f (lent_ledger header ws)) ≡ answered header (words_fit ws) (f (ledger_in ws))
  unfolding lent_ledger
  lent_answer f e = go (eqb header header_word) (words_fit ws)
    where
      go : (h w : Bool) → cond h (f (cond (h && w) (ledger_in ws) no_ledger)) 254 ≡ cond h (cond w (f (ledger_in ws)) 1) 254
      go true true = refl
      go true false = e
      go false w = refl

  -- an output that is written where the answer is 0
  pub lent_output : {X : Type 0} (f : Ledger → ℕ) (next : Ledger → X) (same : X) → f no_ledger ≡ 1 →
      if_accepted (headed header (f (lent_ledger header ws))) (next (lent_ledger header ws)) same ≡ if_accepted (answered header (words_fit ws) (f (ledger_in ws))) (next (ledger_in ws)) same
  unfolding lent_ledger
  lent_output {X} f next same e = go (eqb header header_word) (words_fit ws)
    where
      go : (h w : Bool) → if_accepted (cond h (f (cond (h && w) (ledger_in ws) no_ledger)) 254) (next (cond (h && w) (ledger_in ws) no_ledger)) same ≡ if_accepted (cond h (cond w (f (ledger_in ws)) 1) 254) (next (ledger_in ws)) same
      go true true = refl
      go true false = ap (λ n. if_accepted n (next no_ledger) same) e
      go false w = refl

  -- the words
  pub lent_words : (t : Ledger → Taken) → (t no_ledger).answer ≡ 1 →
      settled header ws (t (lent_ledger header ws)) ≡ if_accepted (answered header (words_fit ws) (t (ledger_in ws)).answer) (words_of (t (ledger_in ws)).ledger) ws
  unfolding settled written
  lent_words t e =
      lent_output (λ l. (t l).answer) (λ l. written ws (t l).ledger) ws e ∙ go (words_fit ws) refl
    where
      go : (w : Bool) → words_fit ws ≡ w → if_accepted (answered header w (t (ledger_in ws)).answer) (written ws (t (ledger_in ws)).ledger) ws ≡ if_accepted (answered header w (t (ledger_in ws)).answer) (words_of (t (ledger_in ws)).ledger) ws
      go true w = ap (λ b. if_accepted (answered header true (t (ledger_in ws)).answer) (cond b (words_of (t (ledger_in ws)).ledger) ws) ws) (eq-eqb (length ws) ledger_words (fit ws w).size)
      go false w = over (eqb header header_word)
        where
          over : (h : Bool) → if_accepted (cond h 1 254) (written ws (t (ledger_in ws)).ledger) ws ≡ if_accepted (cond h 1 254) (words_of (t (ledger_in ws)).ledger) ws
          over true = refl
          over false = refl

  -- what the call behind keeps as it is on a refusal
  pub lent_kept : {X : Type 0} (f : Ledger → ℕ) (next : Ledger → X) (same : X) → f no_ledger ≡ 1 → ((l : Ledger) → (f l ≡ 0 → ⊥) → next l ≡ same) →
      next (lent_ledger header ws) ≡ if_accepted (answered header (words_fit ws) (f (ledger_in ws))) (next (ledger_in ws)) same
  unfolding lent_ledger
  lent_kept {X} f next same e kept = go (eqb header header_word) (words_fit ws)
    where
      none : next no_ledger ≡ same
      none = kept no_ledger (λ z. omega (arith, e, z))

      go : (h w : Bool) → next (cond (h && w) (ledger_in ws) no_ledger) ≡ if_accepted (cond h (cond w (f (ledger_in ws)) 1) 254) (next (ledger_in ws)) same
      go true true = either (test (eqb (f (ledger_in ws)) 0))
        where
          either : Tested (eqb (f (ledger_in ws)) 0) → next (ledger_in ws) ≡ if_accepted (f (ledger_in ws)) (next (ledger_in ws)) same
          either (holds t) = sym (ap (λ b. cond b (next (ledger_in ws)) same) t)
          either (fails t) = kept (ledger_in ws) (eqb-false (f (ledger_in ws)) 0 t) ∙ sym (ap (λ b. cond b (next (ledger_in ws)) same) t)
      go true false = none
      go false w = none

-- ---- what stands for no ledger is refused, with any map

pub none_unsound : sound_ledger no_ledger ≡ false
unfolding sound_ledger
none_unsound = refl

pub none_refused : (m : List ℕ) → unsound no_ledger m ≡ true
none_refused m = ap (λ t. not (eqb (length m) 8192) || not t) none_unsound ∙ or-true (not (eqb (length m) 8192))
