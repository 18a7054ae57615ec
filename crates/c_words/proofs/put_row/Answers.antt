-- Three cells, one after the other. Assumes nothing.
use Prim.Native.Nat.{◌+◌}
use mathlib.Core.Path.{ap, ◌∙◌}
use lib.ListN.{get_or}
use Rattle.ledger.specs.Ledger.{no_cell}
use Rattle.c_words.specs.Inside.{put_cell}
use Rattle.c_words.proofs.put_row.Goals as goal

pub returns : goal.returns
returns c =
    let a = c.args in
    c.put_cell-3.ensures ∙
    ap (λ ws. put_cell ws (a.at + 4) (get_or a.cells 2 no_cell)) c.put_cell-2.ensures ∙
    ap (λ ws. put_cell (put_cell ws (a.at + 2) (get_or a.cells 1 no_cell)) (a.at + 4) (get_or a.cells 2 no_cell)) c.put_cell.ensures
