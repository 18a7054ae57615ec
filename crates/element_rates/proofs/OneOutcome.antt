-- No second outcome meets what a public function of this crate promises. Assumes nothing.
use mathlib.Core.Path.{refl}
use Rattle.base.proofs.OneOutcome.{OneOutcome, alike}
use Rattle.element_rates.proofs.rate_of.Kinds as rate-of-kinds
use Rattle.element_rates.proofs.rate_of.Reads as rate-of
use Rattle.element_rates.proofs.mean_of.Kinds as mean-of-kinds
use Rattle.element_rates.proofs.mean_of.Reads as mean-of
use Rattle.element_rates.proofs.shown_rate.Kinds as shown-rate-kinds
use Rattle.element_rates.proofs.shown_rate.Reads as shown-rate
use Rattle.element_rates.proofs.shown_mean.Kinds as shown-mean-kinds
use Rattle.element_rates.proofs.shown_mean.Reads as shown-mean

pub rate_of_one : OneOutcome rate-of-kinds.ps rate-of-kinds.r rate-of.Post
rate_of_one κs a x y v w p q = (alike p q, refl)

pub mean_of_one : OneOutcome mean-of-kinds.ps mean-of-kinds.r mean-of.Post
mean_of_one κs a x y v w p q = (alike p q, refl)

pub shown_rate_one : OneOutcome shown-rate-kinds.ps shown-rate-kinds.r shown-rate.Post
shown_rate_one κs a x y v w p q = (alike p q, refl)

pub shown_mean_one : OneOutcome shown-mean-kinds.ps shown-mean-kinds.r shown-mean.Post
shown_mean_one κs a x y v w p q = (alike p q, refl)
