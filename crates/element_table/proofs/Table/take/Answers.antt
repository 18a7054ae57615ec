-- A refused record hands the table back. Of an accepted one each field is in its range, so that an outage's minutes do not wrap and are counted in its
-- element's row, and a stock is told there. Assumes nothing.
use Prim.Native.Nat.{ℕ}
use mathlib.Core.Path.{◌≡◌, sym, ap, ◌∙◌, subst⁻¹}
use mathlib.Core.List.{List}
use native.Mathlib.Omega.{arith}
use borrow.Author.Rules.{rules}
use Rattle.std.specs.Prelude.{Ok, Err}
use Rattle.std.proofs.lemmas.Result.{err_from_is_err_and}
use Rattle.wire.specs.Frame.{kind_of}
use Rattle.refusals.specs.declared.Refusal.{Refusal}
use Rattle.refusals.specs.Refusals.{number_of}
use Rattle.refusals.proofs.NumberLaws.{no_refusal_0}
use Rattle.element_codes.specs.Elements.{row_of}
use Rattle.element_row.specs.Row.{RowSound}
use Rattle.element_rules.specs.Fields.{code_in}
use Rattle.element_table.specs.declared.Table.{Table}
use Rattle.element_table.specs.Table.{filed_in, row_or}
use Rattle.element_table.specs.Rules.{row_named, answer_of}
use Rattle.element_table.specs.Kind.{number_of_kind}
use Rattle.element_table.specs.Take.{accepted_at, taken_of}
use Rattle.element_table.proofs.BoundLaws.{sound_row}
use Rattle.element_table.proofs.ExactlyThen.{exactly_outage, exactly_stock}
use Rattle.element_table.proofs.RefusedLaws.{accepted_after, refused_hands_back}
use Rattle.element_table.proofs.Table.take.Goals as goal

module _ (t : Table) (s : List ℕ) where
  refused : (r : Refusal) → number_of r ≡ answer_of t s → filed_in t (Err r) ≡ taken_of t s
  refused r e = λ i. record { answer = e i; table = sym (refused_hands_back t s (λ z. no_refusal_0 r (e ∙ z))) i }

  accepted : (kind : ℕ) (next : Table) → 0 ≡ answer_of t s → kind_of s ≡ kind → next ≡ accepted_at kind t s → filed_in t (Ok next) ≡ taken_of t s
  accepted kind next e k is =
      let after = is ∙ ap (λ n. accepted_at n t s) (sym k) ∙ sym (accepted_after t s (sym e)) in
      λ i. record { answer = e i; table = after i }

pub overflow_sub-minutes : goal.overflow_sub-minutes
overflow_sub-minutes c =
    let outage-kind : kind_of c.args.bytes.now ≡ 4 = c.in_ok-kind.ensures.kind ∙ ap number_of_kind c.in-Outage.is in
    let ordered = ((exactly_outage c.args.self c.args.bytes.now outage-kind).0 (sym c.in_ok-kind.ensures.answer)).ordered in
    omega (arith, ordered, c.u32_at.ensures, c.u32_at-in-Outage.ensures)

pub with_outage-requires : goal.with_outage-requires
with_outage-requires c =
    let row_is : c.row_of-at.result ≡ row_of (code_in c.args.bytes.now) = c.row_of-at.ensures ∙ ap row_of c.u16_at.ensures in
    let row_named : c.row_at-row.result ≡ row_named c.args.self c.args.bytes.now = c.row_at-row.ensures ∙ ap (row_or c.args.self.rows) row_is in
    let outage-kind : kind_of c.args.bytes.now ≡ 4 = c.in_ok-kind.ensures.kind ∙ ap number_of_kind c.in-Outage.is in
    let sound = ((exactly_outage c.args.self c.args.bytes.now outage-kind).0 (sym c.in_ok-kind.ensures.answer)).sound in
    let bounds = subst⁻¹ RowSound row_named (sound_row c.args.self sound _) in
    (bounds.outages, omega (arith, bounds.outages, bounds.minutes))

pub with_stock-requires : goal.with_stock-requires
with_stock-requires c =
    let stock-kind : kind_of c.args.bytes.now ≡ 5 = c.in_ok-kind.ensures.kind ∙ ap number_of_kind c.in-Stock.is in
    let unit = ((exactly_stock c.args.self c.args.bytes.now stock-kind).0 (sym c.in_ok-kind.ensures.answer)).unit in
    omega (arith, unit, c.byte_at.ensures)

pub returns-in_err-kind : goal.returns-in_err-kind
returns-in_err-kind c =
    let p = err_from_is_err_and c.from_residual.result c.from_residual.ensures.1 in
    rw (p.1, p.2) (refused c.args.self c.args.bytes.now _ c.in_err-kind.ensures.answer)

pub returns-in-Sheet : goal.returns-in-Sheet
returns-in-Sheet c =
    let sheet-kind : kind_of c.args.bytes.now ≡ 1 = c.in_ok-kind.ensures.kind ∙ ap number_of_kind c.in-Sheet.is in
    accepted c.args.self c.args.bytes.now 1 _ c.in_ok-kind.ensures.answer sheet-kind (search rules)

pub returns-in-Outage : goal.returns-in-Outage
returns-in-Outage c =
    let outage-kind : kind_of c.args.bytes.now ≡ 4 = c.in_ok-kind.ensures.kind ∙ ap number_of_kind c.in-Outage.is in
    accepted c.args.self c.args.bytes.now 4 _ c.in_ok-kind.ensures.answer outage-kind (search rules)

pub returns-in-Stock : goal.returns-in-Stock
returns-in-Stock c =
    let stock-kind : kind_of c.args.bytes.now ≡ 5 = c.in_ok-kind.ensures.kind ∙ ap number_of_kind c.in-Stock.is in
    accepted c.args.self c.args.bytes.now 5 _ c.in_ok-kind.ensures.answer stock-kind (search rules)
