use Prim.Native.Nat.{◌-◌, ◌≤◌}
use mathlib.Core.Path.{◌≡◌}
use Rattle.text_items.specs.Sorts.{sort_number}
use Rattle.text_parse.specs.Entry.{gathered}
use Rattle.text_parse.proofs.EntryLaws.{going_on}
use Rattle.text_parse.proofs.Items.gather.Given as goal

abbrev pub invariant-loop-k : goal.invariant-loop-k
invariant-loop-k l = (l.k ≤ 261) × (gathered l.line l.start (sort_number l.self.kind) l.self.year l.self.sep ≡ going_on (261 - l.k) l.line l.at (sort_number l.self.kind) l.k l.self.year l.self.sep l.values)
