-- No second outcome meets what a call promises: the answer and all lent memory are decided. The contract of `temelyak_serve` stands as an assertion;
-- `serve_says` says by computing that this assertion is the plain claim `Promise`. Assumes nothing.
use mathlib.Core.Path.{◌≡◌, refl}
use seplogic.Ra.Ura.{Ura}
use base.Logic.{SProp}
use prog.Memory.{Memory}
use prog.Routine.{Routine}
use types.Logic.{Logic}
use contract.Lifetimes.{Lfts}
use contract.Monad.{Fun, fact}
use denote.Triple.Entry.{Args, Res}
use denote.Triple.Clauses.{AtExit}
use Rattle.base.proofs.OneOutcome.{OneOutcome, alike}
use Rattle.desk.proofs.OneOutcome.{Claim, OneOutcomeOf}
use Rattle.temelyak.specs.Calls.{serve_answer, serve_words, serve_map, serve_desk}
use Rattle.temelyak.proofs.temelyak_empty.Kinds as empty-kinds
use Rattle.temelyak.proofs.temelyak_empty.Reads as empty
use Rattle.temelyak.proofs.temelyak_take.Kinds as take-kinds
use Rattle.temelyak.proofs.temelyak_take.Reads as take
use Rattle.temelyak.proofs.temelyak_take_book.Kinds as book-kinds
use Rattle.temelyak.proofs.temelyak_take_book.Reads as book
use Rattle.temelyak.specs.contracts.temelyak_serve as serve
use Rattle.temelyak.proofs.temelyak_index.Kinds as index-kinds
use Rattle.temelyak.proofs.temelyak_index.Reads as index
use Rattle.temelyak.proofs.temelyak_decimal.Kinds as decimal-kinds
use Rattle.temelyak.proofs.temelyak_decimal.Reads as decimal
use Rattle.temelyak.proofs.temelyak_built.Kinds as built-kinds
use Rattle.temelyak.proofs.temelyak_built.Reads as built

-- answer and words
pub empty_one : OneOutcome empty-kinds.ps empty-kinds.r empty.Post
empty_one κs a x y v w p q = (alike p.0 q.0, λ i. (tt, (alike p.1 q.1 i, tt)))

-- answer, words and map
pub take_one : OneOutcome take-kinds.ps take-kinds.r take.Post
take_one κs a x y v w p q = (alike p.0 q.0, λ i. (tt, (alike p.1 q.1 i, (alike p.2 q.2 i, (tt, tt)))))

-- answer, words, map and output
pub take_book_one : OneOutcome book-kinds.ps book-kinds.r book.Post
take_book_one κs a x y v w p q = (alike p.0 q.0, λ i. (tt, (alike p.1 q.1 i, (alike p.2 q.2 i, (tt, (alike p.3 q.3 i, tt))))))

-- answer and output
pub index_one : OneOutcome index-kinds.ps index-kinds.r index.Post
index_one κs a x y v w p q = (alike p.0 q.0, λ i. (tt, (tt, (tt, (tt, (tt, (alike p.1 q.1 i, tt)))))))

pub decimal_one : OneOutcome decimal-kinds.ps decimal-kinds.r decimal.Post
decimal_one κs a x y v w p q = (alike p.0 q.0, λ i. (tt, (tt, (tt, (tt, (tt, (tt, (alike p.1 q.1 i, tt))))))))

pub built_one : OneOutcome built-kinds.ps built-kinds.r built.Post
built_one κs a x y v w p q = (alike p q, refl)

-- what `temelyak_serve` promises: of header a .0, words a .1 .0, map a .1 .1 .0, desk a .1 .1 .1 .0 and message a .1 .1 .1 .1 .0, with words e .1 .0, map
-- e.1.1.0 and desk e .1 .1 .1 .0 at exit
abbrev pub Promise : Claim serve.ended
Promise κs a r e =
    (r ≡ serve_answer a.0 a.1.0.now a.1.1.0.now a.1.1.1.0.now a.1.1.1.1.0.now) ×
    (e.1.0.now ≡ serve_words a.0 a.1.0.now a.1.1.0.now a.1.1.1.0.now a.1.1.1.1.0.now) ×
    (e.1.1.0.now ≡ serve_map a.0 a.1.0.now a.1.1.0.now a.1.1.1.0.now a.1.1.1.1.0.now) ×
    (e.1.1.1.0.now ≡ serve_desk a.0 a.1.0.now a.1.1.0.now a.1.1.1.0.now a.1.1.1.1.0.now)

-- it is the contract as it is read from src/
pub serve_says : {M : Type 1} {𝓤 : Ura M} (𝓛 : Logic 𝓤) (mem : Memory → SProp 𝓤) (run : Routine → Fun 𝓤) (κs : Lfts 4) (a : Args serve.signature κs) (r : Res serve.signature κs) (e : AtExit serve.ended κs)
    → (serve.clauses 𝓛 mem run κs a).ensures tt r e ≡ fact 𝓤 (Promise κs a r e)
serve_says 𝓛 mem run κs a r e = refl

-- answer, words, map and desk
pub serve_one : OneOutcomeOf serve.ended Promise
serve_one κs a x y v w p q = (alike p.0 q.0, λ i. (tt, (alike p.1 q.1 i, (alike p.2 q.2 i, (alike p.3 q.3 i, (tt, tt))))))
