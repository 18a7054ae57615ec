-- No second outcome meets what `serve` promises: answer, ledger, map and desk are decided. Its contract stands as an
-- assertion; `serve_says` says by computing that this assertion is the plain claim `Promise`, and the claim fixes the outcome.
-- Assumes nothing.
use mathlib.Core.Path.{◌≡◌, refl}
use seplogic.Ra.Ura.{Ura}
use base.Logic.{SProp}
use prog.Memory.{Memory}
use prog.Routine.{Routine}
use types.Logic.{Logic}
use contract.Lifetimes.{Lfts}
use contract.Monad.{Fun, fact}
use denote.Triple.Entry.{Args, Res}
use denote.Triple.Clauses.{Ended, Lasts, AtExit, at_exit}
use Rattle.base.proofs.OneOutcome.{alike}
use Rattle.desk_rules.specs.Serve.{served_of, served_in, map_served, desk_served}
use Rattle.desk_rules.proofs.ServeLaws.{same_served}
use Rattle.desk.specs.contracts.serve as serve

-- a claim of the lifetimes, the arguments, the result and the parameters at exit
abbrev pub Claim : Ended → Type 1
Claim T = (κs : Lfts T.signature.lifetimes) → Args T.signature κs → Res T.signature κs → AtExit T κs → Type 0

-- two outcomes of one call that both meet the claim are the same. An outcome is the result and what all lent memory holds at exit
abbrev pub OneOutcomeOf : (T : Ended) → Claim T → Type 0
OneOutcomeOf T Post =
    (κs : Lfts T.signature.lifetimes) (a : Args T.signature κs) (x y : Res T.signature κs) (v w : Lasts T κs a) →
    Post κs a x (at_exit T κs a v) →
    Post κs a y (at_exit T κs a w) →
    (x ≡ y) × (v ≡ w)

-- what `serve` promises: of ledger a .0, map a .1 .0, desk a .1 .1 .0 and message a .1 .1 .1 .0, with map e .1 .0 and desk e .1 .1 .0 at exit
abbrev pub Promise : Claim serve.ended
Promise κs a r e =
    (served_in a.0 r ≡ served_of a.0 a.1.0.now a.1.1.0.now a.1.1.1.0.now) ×
    (e.1.0.now ≡ map_served a.0 a.1.0.now a.1.1.0.now a.1.1.1.0.now) ×
    (e.1.1.0.now ≡ desk_served a.0 a.1.0.now a.1.1.0.now a.1.1.1.0.now)

-- it is the contract as it is read from src/
pub serve_says : {M : Type 1} {𝓤 : Ura M} (𝓛 : Logic 𝓤) (mem : Memory → SProp 𝓤) (run : Routine → Fun 𝓤) (κs : Lfts 3) (a : Args serve.signature κs) (r : Res serve.signature κs) (e : AtExit serve.ended κs)
    → (serve.clauses 𝓛 mem run κs a).ensures tt r e ≡ fact 𝓤 (Promise κs a r e)
serve_says 𝓛 mem run κs a r e = refl

pub serve_one : OneOutcomeOf serve.ended Promise
serve_one κs a x y v w p q = (same_served a.0 x y (alike p.0 q.0), λ i. (tt, (alike p.1 q.1 i, (alike p.2 q.2 i, (tt, tt)))))
