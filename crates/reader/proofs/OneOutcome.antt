-- No second outcome meets what a public function of this crate promises. A reader holds a slice, so the promise of a function that returns one is taken
-- from the clauses as they stand in src/: in every model they state one plain fact (`new_says`, `from_says`), and that fact is of one
-- outcome. Of an answer's bytes the promise decides what they are, and not where they lie. Assumes nothing.
use Prim.Native.Nat.{ℕ}
use mathlib.Core.Path.{◌≡◌, refl}
use mathlib.Core.List.{List}
use seplogic.Ra.Ura.{Ura}
use base.Logic.{SProp}
use prog.Memory.{Memory}
use prog.Routine.{Routine}
use types.Logic.{Logic}
use contract.Lifetimes.{Lfts}
use contract.Monad.{Fun, fact}
use denote.Ref.{Bor}
use Rattle.std.specs.Prelude.{Result, Option}
use denote.Triple.Clauses.{Ended, Lasts, AtExit, at_exit}
use borrow.Fn.Kinds.{ParamKind, ResultKind, Out, Dens, res_t, ended_of}
use denote.Triple.Entry.{Args, Res}
use Rattle.base.proofs.OneOutcome.{alike}
use Rattle.reader.specs.declared.Reader.{Reader}
use Rattle.reader.specs.declared.Broken.{Broken}
use Rattle.reader.specs.Reader.{which_in, bytes_in}
use Rattle.wire.specs.Book.{after_at}
use Rattle.reader.proofs.Asking.{reader_is}
use Rattle.reader.specs.contracts.Reader.new as new
use Rattle.reader.specs.contracts.Reader.from as makes
use Rattle.reader.proofs.Reader.next.Kinds as next-kinds
use Rattle.reader.proofs.Reader.next.Reads as next_reads

-- two outcomes of one call of which a claim holds are seen the same: the results, and what all lent memory holds at exit
abbrev OneSeen : (T : Ended) {X : Type 0} → ((κs : Lfts T.signature.lifetimes) → Args T.signature κs → Res T.signature κs → Type 0)
    → ((κs : Lfts T.signature.lifetimes) → Res T.signature κs → X) → Type 0
OneSeen T Post seen =
    (κs : Lfts T.signature.lifetimes) (a : Args T.signature κs) (x y : Res T.signature κs) (v w : Lasts T κs a) →
    Post κs a x → Post κs a y → (seen κs x ≡ seen κs y) × (v ≡ w)

-- the same of a function whose promise is read from src/
abbrev OneSeenOf : {n : ℕ} (ps : List (ParamKind n)) (r : ResultKind n) → Out n ps r → {X : Type 0} → ((κs : Lfts n) → (res_t r κs).Denot → X) → Type 0
OneSeenOf {n} ps r Post seen =
    (κs : Lfts n) (a : Dens κs ps) (x y : (res_t r κs).Denot) (v w : Lasts (ended_of n ps r) κs a) →
    Post κs a x (at_exit (ended_of n ps r) κs a v) →
    Post κs a y (at_exit (ended_of n ps r) κs a w) →
    (seen κs x ≡ seen κs y) × (v ≡ w)

-- what a reader is made of
abbrev Made : Bor (List ℕ) → ℕ → Reader → Type 0
Made book at r = (r.book ≡ book) × (r.at ≡ at)

made_alike : (book : Bor (List ℕ)) (at : ℕ) (x y : Reader) → Made book at x → Made book at y → x ≡ y
made_alike book at x y p q = alike (reader_is book x at p) (reader_is book y at q)

-- what is seen of an answer
abbrev seen : Result (Option (Bor (List ℕ))) Broken → ℕ × List ℕ
seen x = (which_in x, bytes_in x)

module _ {M : Type 1} {𝓤 : Ura M} (𝓛 : Logic 𝓤) (mem : Memory → SProp 𝓤) (run : Routine → Fun 𝓤) where
  pub new_says : (κs : Lfts 1) (a : Args new.signature κs) (r : Reader) (e : AtExit new.ended κs)
      → (new.clauses 𝓛 mem run κs a).ensures tt r e ≡ fact 𝓤 (Made a.0 0 r)
  new_says κs a r e = refl

  pub from_says : (κs : Lfts 1) (a : Args makes.signature κs) (r : Reader) (e : AtExit makes.ended κs)
      → (makes.clauses 𝓛 mem run κs a).ensures tt r e ≡ fact 𝓤 (Made a.0 a.1.0 r)
  from_says κs a r e = refl

pub new_one : OneSeen new.ended (λ κs a. Made a.0 0) (λ κs r. r)
new_one κs a x y v w p q = (made_alike a.0 0 x y p q, refl)

pub from_one : OneSeen makes.ended (λ κs a. Made a.0 a.1.0) (λ κs r. r)
from_one κs a x y v w p q = (made_alike a.0 a.1.0 x y p q, refl)

pub next_one : OneSeenOf next-kinds.ps next-kinds.r next_reads.Post (λ κs x. seen x)
next_one κs a x y v w p q = (
  (λ i. (alike p.0 q.0 i, alike p.1 q.1 i)),
  (λ i. (made_alike a.0.now.book (after_at a.0.now.book.now a.0.now.at) v.0 w.0 (p.2, p.3) (q.2, q.3) i, tt)),
)
