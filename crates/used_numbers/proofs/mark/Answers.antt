-- Number 0, a byte past the map's end and a number that is marked leave the map, as `marked_with` does there; else the bit is unset, so that adding it
-- to its byte neither wraps nor carries, and sets this bit alone.
use Prim.Native.Nat.{◌+◌, ◌/◌, ◌%◌, ◌<◌}
use mathlib.Core.Path.{ap, sym, ◌∙◌}
use lib.ListN.{get_or, set}
use native.Mathlib.Omega.{arith}
use Rattle.used_numbers.specs.Marks.{marked_with}
use Rattle.used_numbers.proofs.BitLaws.{one_shifted}
use Rattle.used_numbers.proofs.MarkLaws.{marked_with_zero, marked_with_past, marked_with_again, marked_with_adds, marking_fits}
use Rattle.used_numbers.proofs.mark.Goals as goal

pub returns-then-number-eq0 : goal.returns-then-number-eq0
returns-then-number-eq0 c =
    let m = c.args.map.now in
    sym (ap (marked_with m) c.if-number-eq0.true ∙ marked_with_zero m)

pub returns-then-map-at : goal.returns-then-map-at
returns-then-map-at c =
    let a = c.args in
    sym (marked_with_past a.map.now a.number c.if-map-at.true)

pub returns-then-is_marked : goal.returns-then-is_marked
returns-then-is_marked c =
    let a = c.args in
    sym (marked_with_again a.map.now a.number (sym c.is_marked.ensures ∙ c.if-is_marked.true))

pub overflow_add-map : goal.overflow_add-map
overflow_add-map c =
    let a = c.args in
    let l : get_or a.map.now (a.number / 8) 0 < 256 = omega (arith, c.slice_known-2-1.given (a.number / 8)) in
    let f = marking_fits a.map.now a.number l (sym c.is_marked.ensures ∙ c.if-is_marked.false) in
    record { fits = rw (one_shifted (a.number % 8) (omega arith)) f }

pub returns : goal.returns
returns c =
    let a = c.args in
    ap (λ b. set a.map.now (a.number / 8) (get_or a.map.now (a.number / 8) 0 + b)) (one_shifted (a.number % 8) (omega arith)) ∙
    sym (marked_with_adds a.map.now a.number c.if-number-eq0.false (sym c.is_marked.ensures ∙ c.if-is_marked.false))
