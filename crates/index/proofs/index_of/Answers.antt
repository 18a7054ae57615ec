-- Each test of the code is the definition's, so that each return is one of the four ways; a sound ledger's sums and twice a number of customers
-- are small enough. Assumes nothing.
use Prim.Native.Nat.{◌*◌, ◌≤◌}
use mathlib.Core.Path.{◌≡◌, sym, ◌∙◌}
use mathlib.Core.Bool.{true}
use native.Mathlib.Nat.{mul-le-mul}
use native.Mathlib.Omega.{arith}
use borrow.Author.Tests.{not-true, not-false}
use Rattle.ratio.specs.Lowest.{lowest_of}
use Rattle.codes.specs.Codes.{rows, levels}
use Rattle.codes.specs.Ranges.{most_events}
use Rattle.annex.specs.Figure.{Off, most_of}
use Rattle.ledger.specs.Sound.{sound_ledger}
use Rattle.ledger.proofs.LedgerLaws.{sound_spare}
use Rattle.std.specs.Prelude.{Ok}
use Rattle.index.specs.Inside.{Low}
use Rattle.index.specs.Index.{top_of, divisor_of, formula_of, divided_by}
use Rattle.index.proofs.SumLaws.{total_within, divisor_at_most}
use Rattle.index.proofs.IndexLaws.{unsound_refused, sheetless_refused, nobody_refused, somebody_answered}
use Rattle.index.proofs.NumberLaws.{index_told}
use Rattle.index.proofs.index_of.Goals as goal

pub returns-then-not-sound : goal.returns-then-not-sound
returns-then-not-sound c =
    let a = c.args in
    index_told a.ledger a.index a.level a.set _
    (sym (unsound_refused a.ledger a.index a.level a.set (sym c.sound.ensures ∙ c.if-not-sound.true)))

pub returns-then-not-ledger : goal.returns-then-not-ledger
returns-then-not-ledger c =
    let sound : sound_ledger c.args.ledger ≡ true = sym c.sound.ensures ∙ c.if-not-sound.false in
    let a = c.args in
    index_told a.ledger a.index a.level a.set _
    (sym (sheetless_refused a.ledger a.index a.level a.set sound (not-true _ c.if-not-ledger.true)))

pub total_of-sum-requires : goal.total_of-sum-requires
total_of-sum-requires c =
    let sound : sound_ledger c.args.ledger ≡ true = sym c.sound.ensures ∙ c.if-not-sound.false in
    let low : Low c.args.ledger.rows = λ h row. sound_spare c.args.ledger sound row h in
    low

pub returns-then-d-eq0 : goal.returns-then-d-eq0
returns-then-d-eq0 c =
    let sound : sound_ledger c.args.ledger ≡ true = sym c.sound.ensures ∙ c.if-not-sound.false in
    let there : c.args.ledger.sheet.there ≡ true = not-false _ c.if-not-ledger.false in
    let divides : let a = c.args in c.divisor-d.result ≡ divided_by a.ledger a.index a.level a.set = c.divisor-d.ensures ∙
    (λ i. divisor_of c.args.index (c.total_of-sum.ensures i) (c.served.ensures.0 i)) in
    let a = c.args in
    index_told a.ledger a.index a.level a.set _
    (sym
    (nobody_refused a.ledger a.index a.level a.set sound there
    (sym divides ∙ c.if-d-eq0.true)))

pub overflow_mul-weight : goal.overflow_mul-weight
overflow_mul-weight c =
    let sound : sound_ledger c.args.ledger ≡ true = sym c.sound.ensures ∙ c.if-not-sound.false in
    let low : Low c.args.ledger.rows = λ h row. sound_spare c.args.ledger sound row h in
    let divisor-small : c.divisor-d.result ≤ rows * levels * (most_events * most_of Off) = let a = c.args in
    rw c.divisor-d.ensures
    (divisor_at_most a.index c.total_of-sum.result c.served.result
    (rw c.total_of-sum.ensures (total_within a.ledger.rows low a.level a.set))
    c.served.ensures.1) in
    let most : c.weight.result * c.divisor-d.result ≤ 2 * (rows * levels * (most_events * most_of Off)) = mul-le-mul c.weight.ensures.1 divisor-small in
    omega arith

pub returns : goal.returns
returns c =
    let sound : sound_ledger c.args.ledger ≡ true = sym c.sound.ensures ∙ c.if-not-sound.false in
    let there : c.args.ledger.sheet.there ≡ true = not-false _ c.if-not-ledger.false in
    let divides : let a = c.args in c.divisor-d.result ≡ divided_by a.ledger a.index a.level a.set = c.divisor-d.ensures ∙
    (λ i. divisor_of c.args.index (c.total_of-sum.ensures i) (c.served.ensures.0 i)) in
    let a = c.args in
    index_told a.ledger a.index a.level a.set _
    ((λ i. Ok (c.lowest.ensures i)) ∙
    (λ i. Ok (lowest_of (c.top.ensures i) (c.weight.ensures.0 i * divides i))) ∙
    (λ i. Ok (lowest_of (top_of a.index (c.total_of-sum.ensures i)) (formula_of a.ledger a.index a.level a.set).bottom)) ∙
    sym
    (somebody_answered a.ledger a.index a.level a.set sound there
    (λ e. c.if-d-eq0.false (divides ∙ e))))
