-- What an answer of 0 to a piece, or at the end, says; and an answer tells whether a piece is taken, or why not. Assumes nothing.
use Prim.Native.Nat.{ℕ, ◌≤◌}
use mathlib.Core.Path.{◌≡◌, refl, sym, ap}
use mathlib.Core.Bool.{Bool, true, not}
use Rattle.std.specs.Prelude.{Result, Ok, Err}
use borrow.Author.Tests.{ltb-false, le-ltb, not-false}
use Rattle.base.proofs.FirstLaws.{clear, unclear}
use Rattle.refusals.specs.declared.Refusal.{Refusal}
use Rattle.refusals.specs.Refusals.{answer_in}
use Rattle.refusals.proofs.NumberLaws.{same_refusal, no_refusal_0}
use Rattle.records.specs.Pieces.{most_refused, end_rules, end_answer, piece_rules, piece_answer}

-- nothing is wrong with what is filled, with the count or with what is told
pub piece_clear : (fit : Bool) (refused room filled : ℕ) → piece_answer fit refused room filled ≡ 0 → (fit ≡ true) × (refused ≤ most_refused) × (filled ≤ room)
piece_clear fit refused room filled a =
    let c = clear 0 (piece_rules fit refused room filled) (tt, (tt, (tt, tt))) a in
    (not-false fit c.0, ltb-false most_refused refused c.1.0, ltb-false room filled c.1.1.0)

pub end_clear : (fit : Bool) (refused : ℕ) → end_answer fit refused ≡ 0 → (fit ≡ true) × (refused ≤ most_refused)
end_clear fit refused a =
    let c = clear 0 (end_rules fit refused) (tt, (tt, tt)) a in
    (not-false fit c.0, ltb-false most_refused refused c.1.0)

-- and the other way round
pub end_goes_on : (fit : Bool) (refused : ℕ) → fit ≡ true → refused ≤ most_refused → end_answer fit refused ≡ 0
end_goes_on fit refused e few = unclear (end_rules fit refused) (ap not e, (le-ltb most_refused refused few, tt))

-- no two outcomes are answered alike
pub same_answer : (x y : Result (Unit {0}) Refusal) → answer_in x ≡ answer_in y → x ≡ y
same_answer (Ok a) (Ok b) e = refl
same_answer (Ok a) (Err r) e = absurd (no_refusal_0 r (sym e))
same_answer (Err r) (Ok a) e = absurd (no_refusal_0 r e)
same_answer (Err r) (Err s) e = ap (λ (t : Refusal). Err t) (same_refusal r s e)
