-- A refused rate stays refused, and a fraction is shown by `decimal_of`: either way it is `shown_figure` of the rate. Assumes nothing.
use mathlib.Core.Path.{sym, ap, ◌∙◌}
use Rattle.std.proofs.lemmas.Result.{err_from_is_err_and}
use Rattle.decimal.proofs.NumberLaws.{shown_is}
use Rattle.element_rates.specs.Rates.{shown_figure, shown_rate}
use Rattle.element_rates.proofs.shown_rate.Goals as goal

pub returns-in_err-rate_of : goal.returns-in_err-rate_of
unfolding shown_rate
returns-in_err-rate_of c =
    let handed = err_from_is_err_and c.from_residual.result c.from_residual.ensures.1 in
    rw (handed.1, handed.2) (ap (λ a. shown_figure a c.args.digits) (sym c.in_err-rate_of.was ∙ c.rate_of.ensures))

pub returns : goal.returns
unfolding shown_rate
returns c =
    shown_is _ _ _ c.decimal_of.ensures ∙ ap (λ a. shown_figure a c.args.digits) (sym c.in_ok-rate_of.was ∙ c.rate_of.ensures)
