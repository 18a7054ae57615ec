-- A code that names none is refused first, then an output of another length; else the ledger handed on stands for the words, 7 digits for any more,
-- and what `decimal_of` and `put` make of it is what the definition says. Assumes nothing.
use Prim.Native.Nat.{ℕ}
use mathlib.Core.Path.{◌≡◌, sym, ap, ◌∙◌}
use mathlib.Core.List.{List}
use lib.ListN.{length, get_or, drop}
use borrow.Author.Tests.{eq-eqb, ne_eqb}
use Rattle.decimal.specs.Decimal.{decimally}
use Rattle.index.specs.Index.{shown_index}
use Rattle.index.proofs.NumberLaws.{decimal_is}
use Rattle.c_words.specs.Header.{headed, if_accepted}
use Rattle.c_words.specs.Inside.{lent_ledger}
use Rattle.c_codes.specs.Named.{index_named, level_named, set_named, numbers_in}
use Rattle.temelyak.proofs.CallLaws.{answer_first, words_after, shown_cut, decimal_unnamed, decimal_paired, decimal_unpaired}
use Rattle.temelyak.proofs.temelyak_decimal.Goals as goal

pub returns-then-not-all_named : goal.returns-then-not-all_named
returns-then-not-all_named c =
    let a = c.args in
    decimal_unnamed a.header a.ledger.now a.index a.level a.set a.digits a.out.now (sym c.all_named.ensures ∙ c.if-not-all_named.true)

pub returns-then-out-ne2 : goal.returns-then-out-ne2
returns-then-out-ne2 c =
    let a = c.args in
    let u =
    decimal_unpaired a.header a.ledger.now a.index a.level a.set a.digits a.out.now
    (sym c.all_named.ensures ∙ c.if-not-all_named.false)
    (ne_eqb (length a.out.now) 2 c.if-out-ne2.true) in
    (c.answer_by.ensures ∙ u.0, u.1)

pub returns : goal.returns
returns c =
    let a = c.args in
    let out = a.out.now in
    let u =
    decimal_paired a.header a.ledger.now a.index a.level a.set a.digits out
    (sym c.all_named.ensures ∙ c.if-not-all_named.false)
    (eq-eqb (length out) 2 c.if-out-ne2.false) in
    let asked : c.decimal_of-shown.result ≡ shown_index (lent_ledger a.header a.ledger.now) (index_named a.index) (level_named a.level) (set_named a.set) a.digits =
    decimal_is _ _ _ _ _ _ c.decimal_of-shown.ensures ∙
    (λ i. shown_index (c.lent_ledger-lent.ensures i) (c.index_named.ensures i) (c.level_named.ensures i) (c.set_named.ensures i) (c.digits_or_7.ensures i)) ∙
    shown_cut (lent_ledger a.header a.ledger.now) (index_named a.index) (level_named a.level) (set_named a.set) a.digits in
    let pair = c.decimal_pair.result in
    let numbers : numbers_in pair ≡ decimally (shown_index (lent_ledger a.header a.ledger.now) (index_named a.index) (level_named a.level) (set_named a.set) a.digits) =
    c.decimal_pair.ensures ∙ ap decimally asked in
    let put = c.put.ensures in (
      put.0 ∙ ap (headed a.header) (answer_first pair) ∙ ap (λ (ns : List ℕ). headed a.header (get_or ns 0 0)) numbers ∙ u.0,
      put.1 ∙
          (λ i. if_accepted (headed a.header (answer_first pair i)) (words_after pair i) out) ∙
          ap (λ (ns : List ℕ). if_accepted (headed a.header (get_or ns 0 0)) (drop 1 ns) out) numbers ∙
          u.1,
    )
