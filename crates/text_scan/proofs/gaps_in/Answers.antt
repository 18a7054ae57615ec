-- The gaps in front end at the first byte that is none, whose place is the library's. Assumes nothing.
use Prim.Native.Nat.{ℕ}
use mathlib.Core.Path.{◌∙◌}
use mathlib.Core.Bool.{not}
use Rattle.std.proofs.Common.{rules, tests}
use Rattle.std.proofs.lemmas.Iterator.{YieldsList-from_slice}
use Rattle.std.proofs.lemmas.Iterator.Search.{position_from_yields_List}
use Rattle.text_scan.specs.Scan.{is_gap}
use Rattle.text_scan.proofs.ScanLaws.{first_told, first_or, gaps_are}
use Rattle.text_scan.proofs.gaps_in.Goals as goal

pub returns : goal.returns
returns c =
    let a = c.args in
    let test = (λ (b : ℕ). not (is_gap b)) in
    let place = position_from_yields_List test _ _ c.position.result c.position.ensures.ran (YieldsList-from_slice a.s.now cc) (λ x b q k. search (rules, tests)) in
    c.unwrap_or.ensures ∙ first_or test a.s.now c.position.result (first_told test a.s.now c.position.result place) ∙ gaps_are a.s.now
