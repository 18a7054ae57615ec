-- A space, then the figure of the index with two decimals. Assumes nothing.
use mathlib.Core.Path.{◌≡◌, refl}
use Rattle.index.specs.Index.{shown_index}
use Rattle.index.proofs.NumberLaws.{decimal_is}
use Rattle.report.proofs.with_index.Goals as goal

pub returns : goal.returns
returns c =
    let a = c.args in
    let shown : c.decimal_of.result ≡ shown_index a.ledger a.index a.level a.set 2 = decimal_is _ _ _ _ _ _ c.decimal_of.ensures in
    rw (c.with_figure.ensures, shown, c.with_byte.ensures) refl
