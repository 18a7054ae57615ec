-- No second outcome meets what a public function of this crate promises. Assumes nothing.
use mathlib.Core.Path.{refl}
use Rattle.base.proofs.OneOutcome.{OneOutcome, alike}
use Rattle.slot.proofs.Slot.free.Kinds as free-kinds
use Rattle.slot.proofs.Slot.free.Reads as free
use Rattle.slot.proofs.Slot.opened.Kinds as opened-kinds
use Rattle.slot.proofs.Slot.opened.Reads as opened
use Rattle.slot.proofs.Slot.course.Kinds as course-kinds
use Rattle.slot.proofs.Slot.course.Reads as course
use Rattle.slot.proofs.Slot.stepped.Kinds as stepped-kinds
use Rattle.slot.proofs.Slot.stepped.Reads as stepped
use Rattle.slot.proofs.Slot.is_free.Kinds as is-free-kinds
use Rattle.slot.proofs.Slot.is_free.Reads as is_free
use Rattle.slot.proofs.Slot.open_sound.Kinds as open-sound-kinds
use Rattle.slot.proofs.Slot.open_sound.Reads as open-sound
use Rattle.slot.proofs.Slot.sound.Kinds as sound-kinds
use Rattle.slot.proofs.Slot.sound.Reads as sound

pub free_one : OneOutcome free-kinds.ps free-kinds.r free.Post
free_one κs a x y v w p q = (alike p q, refl)

pub opened_one : OneOutcome opened-kinds.ps opened-kinds.r opened.Post
opened_one κs a x y v w p q = (alike p q, refl)

pub course_one : OneOutcome course-kinds.ps course-kinds.r course.Post
course_one κs a x y v w p q = (alike p q, refl)

pub stepped_one : OneOutcome stepped-kinds.ps stepped-kinds.r stepped.Post
stepped_one κs a x y v w p q = (alike p q, refl)

pub is_free_one : OneOutcome is-free-kinds.ps is-free-kinds.r is_free.Post
is_free_one κs a x y v w p q = (alike p q, refl)

pub open_sound_one : OneOutcome open-sound-kinds.ps open-sound-kinds.r open-sound.Post
open_sound_one κs a x y v w p q = (alike p q, refl)

pub sound_one : OneOutcome sound-kinds.ps sound-kinds.r sound.Post
sound_one κs a x y v w p q = (alike p q, refl)
