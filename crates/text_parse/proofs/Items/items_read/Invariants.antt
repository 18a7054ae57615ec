use Prim.Native.Nat.{◌+◌, ◌-◌, ◌≤◌}
use mathlib.Core.Path.{◌≡◌}
use lib.ListN.{length, drop}
use Rattle.text_items.specs.Sorts.{sort_number}
use Rattle.text_parse.specs.Entry.{values_from, items_read}
use Rattle.text_parse.proofs.Items.items_read.Given as goal

abbrev pub invariant-loop-read : goal.invariant-loop-read
invariant-loop-read l =
    (l.read ≤ 261) × (items_read l.line l.start (sort_number l.self.kind) l.self.year l.self.sep ≡ l.read + length (values_from (261 - l.read) (drop l.at l.line) (sort_number l.self.kind) l.read l.self.year l.self.sep))
