-- Each word is there and fits its field, by what is required. Assumes nothing.
use mathlib.Core.List.{[], ◌∷◌}
use lib.Dec.{eqb}
use Rattle.c_words.specs.Words.{word, ledger_in}
use Rattle.c_words.proofs.ledger_in.Goals as goal

pub returns : goal.returns
unfolding ledger_in
returns c =
    let ws = c.args.words.now in
    λ i.
    record {
      sheet = record { there = eqb (word ws 0) 1; year = word ws 1; totals = word ws 2 ∷ word ws 3 ∷ word ws 4 ∷ [] };
      events = word ws 5;
      short = word ws 6;
      rows = c.rows_in.ensures i;
    }
