-- An unsound ledger or a map of another size is 1 and nothing is read. Else the records are run through, and a broken length counts as one refusal.
-- Assumes nothing.
use Prim.Native.Nat.{◌+◌}
use mathlib.Core.Path.{◌≡◌, refl, sym, ◌∙◌}
use mathlib.Core.Bool.{false, ◌||◌, not}
use lib.ListN.{length}
use lib.Dec.{eqb}
use native.Mathlib.Omega.{arith}
use borrow.Author.Tests.{eqb-true, not-false}
use Rattle.base.proofs.TestLaws.{or_left, or_right}
use Rattle.used_numbers.specs.Marks.{map_size}
use Rattle.ledger.specs.Sound.{sound_ledger}
use Rattle.ledger.specs.Take.{unsound}
use Rattle.records.proofs.RunLaws.{broken_counts, one_at_most_broken}
use Rattle.book.specs.Book.{passed_in}
use Rattle.book.proofs.RunLaws.{read_nothing, read_through, few_refused, read_told}
use Rattle.book.proofs.take_book.Goals as goal

pub returns-then-map-sound : goal.returns-then-map-sound
returns-then-map-sound c =
    let tested : (not (eqb (length c.args.map.now) map_size) || not c.sound.result) ≡ unsound c.args.ledger c.args.map.now = λ i. not (eqb (length c.args.map.now) map_size) || not (c.sound.ensures i) in
    let a = c.args in
    let h = read_nothing a.ledger a.map.now a.book.now (sym tested ∙ c.if-map-sound.true) in
    (sym h.0, sym h.1)

pub take_records-run-requires : goal.take_records-run-requires
take_records-run-requires c =
    let tested : (not (eqb (length c.args.map.now) map_size) || not c.sound.result) ≡ unsound c.args.ledger c.args.map.now = λ i. not (eqb (length c.args.map.now) map_size) || not (c.sound.ensures i) in
    let fine : unsound c.args.ledger c.args.map.now ≡ false = sym tested ∙ c.if-map-sound.false in
    let a = c.args in
    let u = fine in (
      not-false _ (or_right (not (eqb (length a.map.now) map_size)) _ u),
      eqb-true _ _ (not-false _ (or_left (not (eqb (length a.map.now) map_size)) (not (sound_ledger a.ledger)) u)),
    )

pub overflow_add-result : goal.overflow_add-result
overflow_add-result c =
    let a = c.args in
    omega (arith, few_refused a.ledger a.map.now a.book.now _ c.take_records-run.ensures.0, one_at_most_broken c.take_records-run.result.broken, c.from.ensures)

pub returns : goal.returns
returns c =
    let tested : (not (eqb (length c.args.map.now) map_size) || not c.sound.result) ≡ unsound c.args.ledger c.args.map.now = λ i. not (eqb (length c.args.map.now) map_size) || not (c.sound.ensures i) in
    let fine : unsound c.args.ledger c.args.map.now ≡ false = sym tested ∙ c.if-map-sound.false in
    let a = c.args in
    let r = c.take_records-run.result in
    let run = c.take_records-run.ensures in (
      (λ i. record { answer = 0; ledger = r.ledger; refused = r.refused + (c.from.ensures ∙ broken_counts r.broken) i; broken = r.broken }) ∙
          read_told a.ledger a.map.now a.book.now (passed_in r) run.0 fine r.broken refl,
      run.1 ∙ sym (read_through a.ledger a.map.now a.book.now fine).1,
    )
