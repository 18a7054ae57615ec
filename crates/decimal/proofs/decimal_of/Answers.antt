-- The whole part by one division, and a long division of what it leaves. A last rest of half the divisor or more adds one unit,
-- which is what `rounded` says of it.
use borrow.Author.Rules.{rules}
use Prim.Native.Nat.{◌<◌, ◌^◌}
use mathlib.Core.Path.{◌≡◌, ap, sym, ◌∙◌}
use native.Mathlib.Omega.{arith}
use native.Mathlib.Nat.{mod-lt}
use Rattle.std.specs.Prelude.{Ok}
use Rattle.decimal.specs.Decimal.{decimally}
use Rattle.decimal.proofs.DivisionLaws.{quotient_has_room}
use Rattle.decimal.proofs.RoundLaws.{below_half_cut_off, half_carried, no_bottom_17, too_many_18, else_shown}
use Rattle.decimal.proofs.NumberLaws.{shown_numbers_lem}
use Rattle.decimal.proofs.decimal_of.Goals as goal

pub returns-then-d-eq0 : goal.returns-then-d-eq0
returns-then-d-eq0 c =
    let a = c.args in
    ap decimally (sym (no_bottom_17 a.f a.digits c.if-d-eq0.true)) ∙ shown_numbers_lem a.f a.digits

pub returns-then-digits-gt6 : goal.returns-then-digits-gt6
returns-then-digits-gt6 c =
    let a = c.args in
    ap decimally (sym (too_many_18 a.f a.digits c.if-d-eq0.false c.if-digits-gt6.true)) ∙ shown_numbers_lem a.f a.digits

pub divide-x-requires : goal.divide-x-requires
divide-x-requires c = (mod-lt c.args.f.top (omega arith), search rules)

pub carried-requires : goal.carried-requires
carried-requires c =
    let a = c.args in
    let r = c.divide-x.result in
    let x = c.divide-x.ensures in
    let f : r.digits < 10 ^ a.digits = x.fits in
    let g : r.power ≡ 10 ^ a.digits = x.power in
    (omega arith, omega arith, quotient_has_room a.f.top a.f.bottom r.rest (omega arith) x.less (omega arith))

pub returns-then-d-x : goal.returns-then-d-x
returns-then-d-x c =
    let a = c.args in
    let x = c.divide-x in
    ap decimally
    (ap Ok (c.carried.ensures ∙ sym (half_carried a.f a.digits x.result x.ensures (omega arith))) ∙
    sym (else_shown a.f a.digits (omega arith) (omega arith))) ∙
    shown_numbers_lem a.f a.digits

pub returns : goal.returns
returns c =
    let a = c.args in
    let x = c.divide-x in
    ap decimally
    (ap Ok (sym (below_half_cut_off a.f a.digits x.result x.ensures (omega arith))) ∙
    sym (else_shown a.f a.digits (omega arith) (omega arith))) ∙
    shown_numbers_lem a.f a.digits
