-- An output of another length is refused; else the ledger handed on stands for the words, and what `take_book`, `settle` and `put` make of it is
-- what the definition says. A refusal leaves words and output. Assumes nothing.
use mathlib.Core.Path.{sym, ap, ◌∙◌}
use mathlib.Core.List.{[], ◌∷◌}
use lib.ListN.{length}
use borrow.Author.Tests.{eq-eqb, ne_eqb}
use Rattle.ledger.specs.declared.Ledger.{Ledger}
use Rattle.book.specs.Book.{Read}
use Rattle.book.specs.Book.{read_of, map_read}
use Rattle.c_words.specs.Header.{headed, if_accepted}
use Rattle.c_words.specs.Inside.{written, settled}
use Rattle.c_words.proofs.WordLaws.{flag_byte}
use Rattle.temelyak.proofs.ResultLaws.{refused_same}
use Rattle.temelyak.proofs.CallLaws.{read_taken, read_pair, book_answer_is, book_words_is, book_map_is, book_out_is, book_unpaired, book_left}
use Rattle.temelyak.proofs.temelyak_take_book.Goals as goal

pub returns-then-out-ne2 : goal.returns-then-out-ne2
returns-then-out-ne2 c =
    let a = c.args in
    let p = ne_eqb (length a.out.now) 2 c.if-out-ne2.true in
    let left = book_left a.header a.ledger.now a.map.now a.bytes.now a.out.now p in
    (c.answer_by.ensures ∙ book_unpaired a.header a.ledger.now a.map.now a.bytes.now a.out.now p, left.0, left.1, left.2)

pub returns-in-Ok : goal.returns-in-Ok
returns-in-Ok c =
    let a = c.args in
    let h = a.header in
    let ws = a.ledger.now in
    let m = a.map.now in
    let b = a.bytes.now in
    let out = a.out.now in
    let p = eq-eqb (length out) 2 c.if-out-ne2.false in
    let l = c.lent_ledger.ensures in
    let t = c.in-Ok.ensures in
    let read = t.0 ∙ ap (λ (x : Ledger). read_of x m b) l in
    let put = c.put.ensures in
    let broken = c.from.ensures ∙ flag_byte c.in-Ok.read.broken in (
      put.0 ∙ ap (λ (x : Read). headed h x.answer) read ∙ book_answer_is h ws m b out p,
      c.settle.ensures.1 ∙ ap (λ (x : Read). settled h ws (read_taken x)) read ∙ book_words_is h ws m b out p,
      t.1 ∙ ap (λ (x : Ledger). map_read x m b) l ∙ book_map_is h ws m b out p,
      put.1 ∙
          (λ i. if_accepted (headed h 0) (c.in-Ok.read.refused ∷ broken i ∷ []) out) ∙
          ap (λ (x : Read). if_accepted (headed h x.answer) (read_pair x) out) read ∙
          book_out_is h ws m b out p,
    )

pub returns-in-Err : goal.returns-in-Err
unfolding settled
returns-in-Err c =
    let a = c.args in
    let h = a.header in
    let ws = a.ledger.now in
    let m = a.map.now in
    let b = a.bytes.now in
    let out = a.out.now in
    let p = eq-eqb (length out) 2 c.if-out-ne2.false in
    let l = c.lent_ledger.ensures in
    let lent = c.lent_ledger.result in
    let t = c.in-Err.ensures in
    let r = c.in-Err.refusal in
    let read = t.0 ∙ ap (λ (x : Ledger). read_of x m b) l in (
      c.answer_by-in-Err.ensures ∙ ap (headed h) c.from-in-Err.ensures ∙ ap (λ (x : Read). headed h x.answer) read ∙ book_answer_is h ws m b out p,
      sym (refused_same h ws r (written ws lent)) ∙ ap (λ (x : Read). settled h ws (read_taken x)) read ∙ book_words_is h ws m b out p,
      t.1 ∙ ap (λ (x : Ledger). map_read x m b) l ∙ book_map_is h ws m b out p,
      sym (refused_same h out r (0 ∷ 0 ∷ [])) ∙ ap (λ (x : Read). if_accepted (headed h x.answer) (read_pair x) out) read ∙ book_out_is h ws m b out p,
    )
