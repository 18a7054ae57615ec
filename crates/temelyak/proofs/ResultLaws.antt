-- What a call behind answers as a Result is, to `settle`, what it answers as a number and a ledger: where it refuses, the ledger is not written. Assumes nothing.
use Rattle.std.specs.Prelude.{ℕ, List, cond, Bool, true, false, eqb, Result, Ok, Err}
use mathlib.Core.Path.{◌≡◌, refl, sym, ◌∙◌}
use native.Mathlib.Omega.{arith}
use Rattle.refusals.specs.declared.Refusal.{Refusal}
use Rattle.refusals.specs.Refusals.{number_of, answer_in}
use Rattle.refusals.proofs.NumberLaws.{number_above_0}
use Rattle.ledger.specs.declared.Ledger.{Ledger}
use Rattle.ledger.specs.Take.{taken_in}
use Rattle.desk_rules.specs.Serve.{served_in}
use Rattle.c_words.specs.Header.{header_word, headed, if_accepted}
use Rattle.c_words.specs.Inside.{no_ledger, written, settled, handed}
use Rattle.c_words.proofs.LentLaws.{refused_is}
use Rattle.temelyak.specs.Inside.{handed_back}

-- a refusal is answered with a number above 0, under any header
pub headed_above_0 : (header : ℕ) (r : Refusal) → headed header (number_of r) ≡ 0 → ⊥
headed_above_0 header r = go (eqb header header_word)
  where
    go : (h : Bool) → cond h (number_of r) 254 ≡ 0 → ⊥
    go true none = omega (arith, number_above_0 r, none)
    go false none = omega (arith, none)

pub same_answer : (l : Ledger) (x : Result Ledger Refusal) → answer_in x ≡ (taken_in l x).answer
same_answer l (Ok next) = refl
same_answer l (Err r) = refl

-- a refusal leaves what was lent, whatever would be written
pub refused_same : (header : ℕ) (ws : List ℕ) (r : Refusal) (next : List ℕ) → if_accepted (headed header (number_of r)) next ws ≡ ws
refused_same header ws r next = refused_is (headed header (number_of r)) next ws (headed_above_0 header r)

pub same_words : (header : ℕ) (ws : List ℕ) (l : Ledger) (x : Result Ledger Refusal) → settled header ws (handed x) ≡ settled header ws (taken_in l x)
unfolding settled
same_words header ws l (Ok next) = refl
same_words header ws l (Err r) = refused_same header ws r (written ws no_ledger) ∙ sym (refused_same header ws r (written ws l))

-- the same of the desk's answer
pub same_served : (l : Ledger) (x : Result Ledger Refusal) → answer_in x ≡ (served_in l x).answer
same_served l (Ok next) = refl
same_served l (Err r) = refl

pub same_served_words : (header : ℕ) (ws : List ℕ) (l : Ledger) (x : Result Ledger Refusal) → settled header ws (handed x) ≡ settled header ws (handed_back (served_in l x))
unfolding settled
same_served_words header ws l (Ok next) = refl
same_served_words header ws l (Err r) = refused_same header ws r (written ws no_ledger) ∙ sym (refused_same header ws r (written ws l))
