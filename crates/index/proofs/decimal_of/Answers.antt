-- A fraction is shown by `decimal_of` of its crate, and a refusal stays one: either way it is `shown_answer` of the index, of which these are the numbers.
-- Assumes nothing.
use mathlib.Core.Path.{◌≡◌, sym, ap, ◌∙◌}
use Rattle.std.proofs.lemmas.Result.{err_from_is_err_and}
use Rattle.decimal.specs.Decimal.{decimally}
use Rattle.decimal.proofs.NumberLaws.{shown_is}
use Rattle.index.specs.Index.{index_of, shown_answer}
use Rattle.index.proofs.NumberLaws.{index_is, decimal_numbers_lem}
use Rattle.index.proofs.decimal_of.Goals as goal

pub returns-in_err-index_of : goal.returns-in_err-index_of
returns-in_err-index_of c =
    let a = c.args in
    let asked : c.index_of.result ≡ index_of a.ledger a.index a.level a.set = index_is a.ledger a.index a.level a.set c.index_of.result c.index_of.ensures in
    let handed = err_from_is_err_and c.from_residual.result c.from_residual.ensures.1 in
    rw (handed.1, handed.2)
    (ap (λ x. decimally (shown_answer x a.digits)) (sym c.in_err-index_of.was ∙ asked) ∙
    decimal_numbers_lem a.ledger a.index a.level a.set a.digits)

pub returns : goal.returns
returns c =
    let a = c.args in
    let asked : c.index_of.result ≡ index_of a.ledger a.index a.level a.set = index_is a.ledger a.index a.level a.set c.index_of.result c.index_of.ensures in
    ap decimally
    (shown_is _ _ c.decimal_of.result c.decimal_of.ensures ∙
    ap (λ x. shown_answer x a.digits) (sym c.in_ok-index_of.was ∙ asked)) ∙
    decimal_numbers_lem a.ledger a.index a.level a.set a.digits
