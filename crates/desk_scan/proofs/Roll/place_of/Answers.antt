-- The library's search is that of the definition. Assumes nothing.
use mathlib.Core.Path.{◌≡◌, ◌∙◌, sym}
use lib.Dec.{eqb}
use borrow.Author.Tests.{tests}
use Rattle.std.proofs.Common.{rules, cond, ltb, length, Some, None}
use Rattle.std.proofs.lemmas.Iterator.{YieldsList-from_slice}
use Rattle.std.proofs.lemmas.Iterator.Search.{position_from_yields_List}
use Rattle.desk_scan.specs.Desk.{slot_count}
use Rattle.desk_scan.proofs.SearchLaws.{place_searched}
use Rattle.desk_scan.proofs.Roll.place_of.Goals as goal

pub returns : goal.returns
returns c =
    let t = c.args.self.now.numbers in
    let v = c.args.number in
    let n : length t ≡ slot_count = search rules in
    let e = sym (place_searched v t) in
    position_from_yields_List (eqb v) _ _ _ c.position.ensures.ran (YieldsList-from_slice t cc) (λ x b q k. search (rules, tests)) ∙
    (λ i. cond (ltb (e i) (n i)) (Some (e i)) None)
