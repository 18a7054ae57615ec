-- An end before the start is 0 minutes after it, which is short; else the test is the definition's. Assumes nothing.
use borrow.Author.Rules.{rules}
use Rattle.annex.specs.Times.{is_short}
use Rattle.annex.proofs.is_short.Goals as goal

pub returns : goal.returns
unfolding is_short
returns c = search rules
