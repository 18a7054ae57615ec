-- What it means that no second outcome meets a function's promise. A function's `Post` is its contract as it is read from src/: a claim of the
-- lifetimes, the arguments, the result and the parameters at exit. An outcome is the result and what all lent memory holds at exit.
-- Assumes nothing.
use Prim.Native.Nat.{ℕ}
use mathlib.Core.Path.{◌≡◌, sym, ◌∙◌}
use mathlib.Core.List.{List}
use contract.Lifetimes.{Lfts}
use denote.Triple.Clauses.{Lasts, at_exit}
use borrow.Fn.Kinds.{ParamKind, ResultKind, Out, Dens, res_t, ended_of}

-- two outcomes of one call that both meet the contract are the same
abbrev pub OneOutcome : {n : ℕ} (ps : List (ParamKind n)) (r : ResultKind n) → Out n ps r → Type 0
OneOutcome {n} ps r Post =
    (κs : Lfts n) (a : Dens κs ps) (x y : (res_t r κs).Denot) (v w : Lasts (ended_of n ps r) κs a) →
    Post κs a x (at_exit (ended_of n ps r) κs a v) →
    Post κs a y (at_exit (ended_of n ps r) κs a w) →
    (x ≡ y) × (v ≡ w)

-- the same of what is seen of an outcome, as of the bytes behind a returned slice
module _ {K : Type 0} {A R S X : K → Type 0} where
  abbrev pub SeenAlike : ((κs : K) → A κs → R κs → S κs → Type 0) → ((κs : K) → R κs → X κs) → Type 0
  SeenAlike Post seen = (κs : K) (a : A κs) (x y : R κs) (s t : S κs) → Post κs a x s → Post κs a y t → seen κs x ≡ seen κs y

-- as where the contract says what it is
pub alike : {X : Type 0} {u v w : X} → u ≡ w → v ≡ w → u ≡ v
alike p q = p ∙ sym q
