-- Each set's word is the byte string of its arm; no set named is std. Assumes nothing.
use Rattle.report.proofs.with_set.Goals as goal

pub returns-in-All : goal.returns-in-All
returns-in-All c = rw c.in-All.is c.with_words.ensures

pub returns-in-Std : goal.returns-in-Std
returns-in-Std c = rw c.in-Std.is c.with_words-in-Std.ensures

pub returns-in-Unnamed : goal.returns-in-Unnamed
returns-in-Unnamed c = rw c.in-Unnamed.is c.with_words-in-Unnamed.ensures
