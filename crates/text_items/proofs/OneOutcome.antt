-- No second outcome meets what a public function of this crate promises. Assumes nothing.
use mathlib.Core.Path.{refl}
use Rattle.base.proofs.OneOutcome.{OneOutcome, alike, SeenAlike}
use Rattle.text_items.proofs.SortLaws.{same_item}
use Rattle.text_items.proofs.Entry.items.Reads as items
use Rattle.text_items.proofs.SortFromU8.from.Kinds as sort-from-kinds
use Rattle.text_items.proofs.SortFromU8.from.Reads as sort_from
use Rattle.text_items.proofs.ItemFromU8.from.Kinds as item-from-kinds
use Rattle.text_items.proofs.ItemFromU8.from.Reads as item_from
use Rattle.text_items.proofs.item_of.Kinds as item-of-kinds
use Rattle.text_items.proofs.item_of.Reads as item_of
use Rattle.text_items.proofs.most_of.Kinds as most-of-kinds
use Rattle.text_items.proofs.most_of.Reads as most-of
use Rattle.text_items.proofs.is_whole.Kinds as is-whole-kinds
use Rattle.text_items.proofs.is_whole.Reads as is_whole
use Rattle.text_items.proofs.bar_before.Kinds as bar-before-kinds
use Rattle.text_items.proofs.bar_before.Reads as bar-before

pub item_of_one : OneOutcome item-of-kinds.ps item-of-kinds.r item_of.Post
item_of_one κs a x y v w p q = (same_item x y (alike p q), refl)

pub most_of_one : OneOutcome most-of-kinds.ps most-of-kinds.r most-of.Post
most_of_one κs a x y v w p q = (alike p q, refl)

pub is_whole_one : OneOutcome is-whole-kinds.ps is-whole-kinds.r is_whole.Post
is_whole_one κs a x y v w p q = (alike p q, refl)

pub bar_before_one : OneOutcome bar-before-kinds.ps bar-before-kinds.r bar-before.Post
bar_before_one κs a x y v w p q = (alike p q, refl)

pub items_one : SeenAlike items.Post (λ κs x. x.now)
items_one κs a x y s t p q = alike p q

pub sort_from_one : OneOutcome sort-from-kinds.ps sort-from-kinds.r sort_from.Post
sort_from_one κs a x y v w p q = (alike p q, refl)

pub item_from_one : OneOutcome item-from-kinds.ps item-from-kinds.r item_from.Post
item_from_one κs a x y v w p q = (alike p q, refl)
