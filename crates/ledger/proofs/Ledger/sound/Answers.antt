-- Each part of the test is its definition's, joined in the same order. Assumes nothing.
use mathlib.Core.Bool.{◌&&◌}
use lib.Dec.{leb}
use Rattle.codes.specs.Ranges.{most_events}
use Rattle.ledger.specs.Sound.{sound_ledger}
use Rattle.ledger.proofs.Ledger.sound.Goals as goal

pub returns : goal.returns
unfolding sound_ledger
returns c =
    let l = c.args.self in
    λ i. c.sheet_sound.ensures i && leb l.events most_events && leb l.short l.events && c.rows_within.ensures i
