use Rattle.std.proofs.Common.{◌≡◌, ◌+◌, Bor, List, ℕ, ap, sym, ◌∙◌, subst, arith}
use Rattle.std.specs.Prelude.{Option, Ok}
use Rattle.wire.specs.Book.{after_at}
use Rattle.reader.specs.Reader.{which_in}
use Rattle.book_cases.proofs.CountLaws.{Come, come_on, counted_fewer, record_there, ended}
use Rattle.book_cases.proofs.count_records.Goals as goal

pub records-smaller : goal.records-smaller
records-smaller c =
    let i = c.records.invariant in
    let zero = record_there c.args.book.now _ _ _ _ _ c.in-Ok-Some.is c.in-Ok-Some.field-0-is c.next.ensures.0 i.1 in
    let l = counted_fewer c.args.book.now c.records.count c.records.reader.at i.0 zero in
    omega (arith, l)

pub records-preserved : goal.records-preserved
records-preserved c =
    let i = c.records.invariant in
    let e = c.next.ensures in
    let book = c.args.book.now in
    let at = c.records.reader.at in
    let zero = record_there book _ _ _ _ _ c.in-Ok-Some.is c.in-Ok-Some.field-0-is e.0 i.1 in
    let stop = subst (λ b. c.next.new.self.at ≡ after_at b at) i.1 e.3 in
    (subst (Come book (c.records.count + 1)) (sym stop) (come_on book c.records.count at i.0 zero), ap (λ r. r.now) e.2 ∙ i.1)

pub returns-in-Ok-None : goal.returns-in-Ok-None
returns-in-Ok-None c =
    let i = c.records.invariant in
    let e = c.next.ensures in
    let told : which_in c.next.result ≡ 1 = ap which_in c.in-Ok-None.is ∙ ap (λ (o : Option (Bor (List ℕ))). which_in (Ok o)) c.in-Ok-None.field-0-is in
    ended c.args.book.now _ _ _ _ 1 i.0 i.1 e.3 (sym told ∙ e.0) (λ z. let no : ⊥ = omega (arith, z) in no)

pub returns-in-Err : goal.returns-in-Err
returns-in-Err c =
    let i = c.records.invariant in
    let e = c.next.ensures in
    let told : which_in c.next.result ≡ 2 = ap which_in c.in-Err.is in
    ended c.args.book.now _ _ _ _ 2 i.0 i.1 e.3 (sym told ∙ e.0) (λ z. let no : ⊥ = omega (arith, z) in no)
