-- No second outcome meets what a public function of this crate promises. Assumes nothing.
use mathlib.Core.Path.{refl}
use Rattle.base.proofs.OneOutcome.{OneOutcome, alike}
use Rattle.text_items.proofs.SortLaws.{same_entry}
use Rattle.unpack.proofs.unpack.Kinds as unpack-kinds
use Rattle.unpack.proofs.unpack.Reads as unpack
use Rattle.unpack.proofs.year_after.Kinds as year-after-kinds
use Rattle.unpack.proofs.year_after.Reads as year-after
use Rattle.unpack.proofs.bytes_entry.Kinds as bytes-entry-kinds
use Rattle.unpack.proofs.bytes_entry.Reads as bytes-entry

pub unpack_one : OneOutcome unpack-kinds.ps unpack-kinds.r unpack.Post
unpack_one κs a x y v w p q = (same_entry x y (alike p q), refl)

pub year_after_one : OneOutcome year-after-kinds.ps year-after-kinds.r year-after.Post
year_after_one κs a x y v w p q = (alike p q, refl)

pub bytes_entry_one : OneOutcome bytes-entry-kinds.ps bytes-entry-kinds.r bytes-entry.Post
bytes_entry_one κs a x y v w p q = (same_entry x y (alike p q), refl)
