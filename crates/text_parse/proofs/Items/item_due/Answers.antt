-- Where the line has ended no item follows, and elsewhere the second test of the definition decides. Assumes nothing.
use mathlib.Core.Path.{sym, ap, ◌∙◌}
use mathlib.Core.Bool.{not}
use lib.Dec.{ltb}
use Rattle.text_parse.specs.Entry.{item_due}
use Rattle.text_parse.proofs.Items.item_due.Goals as goal

pub returns-then-not-ends_here : goal.returns-then-not-ends_here
unfolding item_due
returns-then-not-ends_here c =
    let goes = sym c.ends_here.ensures ∙ c.if-not-ends_here.true in
    rw (item_due, goes) (ap (ltb c.args.k) c.most_of.ensures)

pub returns-else-not-ends_here : goal.returns-else-not-ends_here
unfolding item_due
returns-else-not-ends_here c =
    let ended = sym c.ends_here.ensures ∙ c.if-not-ends_here.false in
    rw (item_due, ended) (ap not c.if-not-ends_here.false)
