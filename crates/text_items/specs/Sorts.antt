-- The numbers by which the definitions know the sorts of line and of item.
use Rattle.std.specs.Prelude.{ℕ, cond, eqb}
use Rattle.text_items.specs.Entry.{Entry}
use Rattle.text_items.specs.declared.Entry.{Entry as CodeEntry}
use Rattle.text_items.specs.declared.Sort.{Sort}
use Rattle.text_items.specs.declared.Sort.TheVariants.{Blank, Sheet, Simple, Stepped, Hex}
use Rattle.text_items.specs.declared.Item.{Item}
use Rattle.text_items.specs.declared.Item.TheVariants.{Byte, Pair, Count, Time, Digits}

abbrev pub sort_number : Sort → ℕ
sort_number Blank = 0
sort_number Sheet = 1
sort_number Simple = 2
sort_number Stepped = 3
sort_number Hex = 4

abbrev pub item_number : Item → ℕ
item_number Byte = 1
item_number Pair = 2
item_number Count = 3
item_number Time = 4
item_number Digits = 5

-- what the code's entry says, in numbers
abbrev pub entry_in : CodeEntry → Entry
entry_in e = record { kind = sort_number e.kind; count = e.count; values = e.values }

-- the sort of line, and of item, that a number names; any other number is taken for a blank line, and for a number of 4 bytes
abbrev pub sort_of : ℕ → Sort
sort_of n = cond (eqb n 1) Sheet (cond (eqb n 2) Simple (cond (eqb n 3) Stepped (cond (eqb n 4) Hex Blank)))

abbrev pub item_named : ℕ → Item
item_named n = cond (eqb n 1) Byte (cond (eqb n 2) Pair (cond (eqb n 4) Time (cond (eqb n 5) Digits Count)))
