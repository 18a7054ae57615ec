-- No second outcome meets what a public function of this crate promises. Assumes nothing.
use mathlib.Core.Path.{refl}
use Rattle.base.proofs.OneOutcome.{OneOutcome, alike}
use Rattle.annex.proofs.minutes_in.Kinds as minutes-in-kinds
use Rattle.annex.proofs.minutes_in.Reads as minutes-in
use Rattle.annex.proofs.is_short.Kinds as is-short-kinds
use Rattle.annex.proofs.is_short.Reads as is-short
use Rattle.annex.proofs.Figures.none.Kinds as none-kinds
use Rattle.annex.proofs.Figures.none.Reads as none
use Rattle.annex.proofs.Course.begin.Kinds as begin-kinds
use Rattle.annex.proofs.Course.begin.Reads as begin
use Rattle.annex.proofs.Course.with.Kinds as with-kinds
use Rattle.annex.proofs.Course.with.Reads as with
use Rattle.annex.proofs.Simple.figures.Kinds as figures-kinds
use Rattle.annex.proofs.Simple.figures.Reads as figures

pub minutes_in_one : OneOutcome minutes-in-kinds.ps minutes-in-kinds.r minutes-in.Post
minutes_in_one κs a x y v w p q = (alike p q, refl)

pub is_short_one : OneOutcome is-short-kinds.ps is-short-kinds.r is-short.Post
is_short_one κs a x y v w p q = (alike p q, refl)

pub none_one : OneOutcome none-kinds.ps none-kinds.r none.Post
none_one κs a x y v w p q = (alike p q, refl)

pub begin_one : OneOutcome begin-kinds.ps begin-kinds.r begin.Post
begin_one κs a x y v w p q = (alike p q, refl)

pub with_one : OneOutcome with-kinds.ps with-kinds.r with.Post
with_one κs a x y v w p q = (alike p q, refl)

pub figures_one : OneOutcome figures-kinds.ps figures-kinds.r figures.Post
figures_one κs a x y v w p q = (alike p q, refl)
