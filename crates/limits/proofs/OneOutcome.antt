-- No second outcome meets what a public function of this crate promises. Assumes nothing.
use mathlib.Core.Path.{refl}
use Rattle.base.proofs.OneOutcome.{OneOutcome, alike}
use Rattle.limits.proofs.exceeds.Kinds as exceeds-kinds
use Rattle.limits.proofs.exceeds.Reads as exceeds
use Rattle.limits.proofs.is_above.Kinds as is-above-kinds
use Rattle.limits.proofs.is_above.Reads as is-above
use Rattle.limits.proofs.figures_exceed.Kinds as figures-exceed-kinds
use Rattle.limits.proofs.figures_exceed.Reads as figures-exceed
use Rattle.limits.proofs.figures_above.Kinds as figures-above-kinds
use Rattle.limits.proofs.figures_above.Reads as figures-above
use Rattle.limits.proofs.is_late.Kinds as is-late-kinds
use Rattle.limits.proofs.is_late.Reads as is-late
use Rattle.limits.proofs.is_simple_late.Kinds as is-simple-late-kinds
use Rattle.limits.proofs.is_simple_late.Reads as is-simple-late
use Rattle.limits.proofs.is_none_then_some.Kinds as is-none-then-some-kinds
use Rattle.limits.proofs.is_none_then_some.Reads as is-none-then-some

pub exceeds_one : OneOutcome exceeds-kinds.ps exceeds-kinds.r exceeds.Post
exceeds_one κs a x y v w p q = (alike p q, refl)

pub is_above_one : OneOutcome is-above-kinds.ps is-above-kinds.r is-above.Post
is_above_one κs a x y v w p q = (alike p q, refl)

pub figures_exceed_one : OneOutcome figures-exceed-kinds.ps figures-exceed-kinds.r figures-exceed.Post
figures_exceed_one κs a x y v w p q = (alike p q, refl)

pub figures_above_one : OneOutcome figures-above-kinds.ps figures-above-kinds.r figures-above.Post
figures_above_one κs a x y v w p q = (alike p q, refl)

pub is_late_one : OneOutcome is-late-kinds.ps is-late-kinds.r is-late.Post
is_late_one κs a x y v w p q = (alike p q, refl)

pub is_simple_late_one : OneOutcome is-simple-late-kinds.ps is-simple-late-kinds.r is-simple-late.Post
is_simple_late_one κs a x y v w p q = (alike p q, refl)

pub is_none_then_some_one : OneOutcome is-none-then-some-kinds.ps is-none-then-some-kinds.r is-none-then-some.Post
is_none_then_some_one κs a x y v w p q = (alike p q, refl)
