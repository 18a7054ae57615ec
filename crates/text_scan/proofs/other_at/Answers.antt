-- The place is the library's. Assumes nothing.
use Prim.Native.Nat.{ℕ}
use Rattle.std.proofs.Common.{rules, tests}
use Rattle.std.proofs.lemmas.Iterator.{YieldsList-from_slice}
use Rattle.std.proofs.lemmas.Iterator.Search.{position_from_yields_List}
use Rattle.text_scan.specs.Scan.{is_other}
use Rattle.text_scan.proofs.ScanLaws.{first_told}
use Rattle.text_scan.proofs.other_at.Goals as goal

pub returns : goal.returns
returns c =
    let a = c.args in
    let test = (λ (b : ℕ). is_other b a.sep) in
    first_told test a.gap.now c.position.result
    (position_from_yields_List test _ _ c.position.result c.position.ensures.ran (YieldsList-from_slice a.gap.now cc) (λ x b q k. search (rules, tests)))
