-- No second outcome meets what a public function of this crate promises. Assumes nothing.
use mathlib.Core.Path.{refl}
use Rattle.base.proofs.OneOutcome.{OneOutcome, alike}
use Rattle.text_items.proofs.SortLaws.{same_item}
use Rattle.text_parse.proofs.OutcomeLaws.{same_parsed}
use Rattle.text_parse.proofs.parse.Kinds as parse-kinds
use Rattle.text_parse.proofs.parse.Reads as parse
use Rattle.text_parse.proofs.item_refused.Kinds as item-refused-kinds
use Rattle.text_parse.proofs.item_refused.Reads as Item-refused

pub parse_one : OneOutcome parse-kinds.ps parse-kinds.r parse.Post
parse_one κs a x y v w p q = (same_parsed x y (alike p q), refl)

pub item_refused_one : OneOutcome item-refused-kinds.ps item-refused-kinds.r Item-refused.Post
item_refused_one κs a x y v w p q = (same_item x y (alike p q), refl)
