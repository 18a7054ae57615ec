-- A code that names none is refused first, then an output of another length; else the ledger handed on stands for the words, and what `index_of`
-- and `put` make of it is what the definition says. Assumes nothing.
use Prim.Native.Nat.{ℕ}
use mathlib.Core.Path.{◌≡◌, sym, ap, ◌∙◌}
use mathlib.Core.List.{List}
use lib.ListN.{length, get_or, drop}
use borrow.Author.Tests.{eq-eqb, ne_eqb}
use Rattle.index.specs.Index.{index_of, exactly}
use Rattle.index.proofs.NumberLaws.{index_is}
use Rattle.c_words.specs.Header.{headed, if_accepted}
use Rattle.c_words.specs.Inside.{lent_ledger}
use Rattle.c_codes.specs.Named.{index_named, level_named, set_named, numbers_in}
use Rattle.temelyak.proofs.CallLaws.{answer_first, words_after, index_unnamed, index_paired, index_unpaired}
use Rattle.temelyak.proofs.temelyak_index.Goals as goal

pub returns-then-not-all_named : goal.returns-then-not-all_named
returns-then-not-all_named c =
    let a = c.args in
    index_unnamed a.header a.ledger.now a.index a.level a.set a.out.now (sym c.all_named.ensures ∙ c.if-not-all_named.true)

pub returns-then-out-ne2 : goal.returns-then-out-ne2
returns-then-out-ne2 c =
    let a = c.args in
    let u =
    index_unpaired a.header a.ledger.now a.index a.level a.set a.out.now
    (sym c.all_named.ensures ∙ c.if-not-all_named.false)
    (ne_eqb (length a.out.now) 2 c.if-out-ne2.true) in
    (c.answer_by.ensures ∙ u.0, u.1)

pub returns : goal.returns
returns c =
    let a = c.args in
    let out = a.out.now in
    let u =
    index_paired a.header a.ledger.now a.index a.level a.set out
    (sym c.all_named.ensures ∙ c.if-not-all_named.false)
    (eq-eqb (length out) 2 c.if-out-ne2.false) in
    let asked : c.index_of-answer.result ≡ index_of (lent_ledger a.header a.ledger.now) (index_named a.index) (level_named a.level) (set_named a.set) =
    index_is _ _ _ _ _ c.index_of-answer.ensures ∙
    (λ i. index_of (c.lent_ledger-lent.ensures i) (c.index_named.ensures i) (c.level_named.ensures i) (c.set_named.ensures i)) in
    let pair = c.fraction_pair.result in
    let numbers : numbers_in pair ≡ exactly (index_of (lent_ledger a.header a.ledger.now) (index_named a.index) (level_named a.level) (set_named a.set)) =
    c.fraction_pair.ensures ∙ ap exactly asked in
    let put = c.put.ensures in (
      put.0 ∙ ap (headed a.header) (answer_first pair) ∙ ap (λ (ns : List ℕ). headed a.header (get_or ns 0 0)) numbers ∙ u.0,
      put.1 ∙
          (λ i. if_accepted (headed a.header (answer_first pair i)) (words_after pair i) out) ∙
          ap (λ (ns : List ℕ). if_accepted (headed a.header (get_or ns 0 0)) (drop 1 ns) out) numbers ∙
          u.1,
    )
