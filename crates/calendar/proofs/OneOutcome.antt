-- No second outcome meets what a public function of this crate promises. Assumes nothing.
use mathlib.Core.Path.{refl}
use Rattle.base.proofs.OneOutcome.{OneOutcome, alike}
use Rattle.calendar.proofs.CalendarLaws.{same_minute}
use Rattle.calendar.proofs.date_of.Kinds as date-of-kinds
use Rattle.calendar.proofs.date_of.Reads as date-of
use Rattle.calendar.proofs.minute_of.Kinds as minute-of-kinds
use Rattle.calendar.proofs.minute_of.Reads as minute-of

pub date_of_one : OneOutcome date-of-kinds.ps date-of-kinds.r date-of.Post
date_of_one κs a x y v w p q = (alike p q, refl)

pub minute_of_one : OneOutcome minute-of-kinds.ps minute-of-kinds.r minute-of.Post
minute_of_one κs a x y v w p q = (same_minute x y (alike p q), refl)
