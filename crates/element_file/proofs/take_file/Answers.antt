-- An unsound table is refused and nothing is read. Else the mark is cleared, the records are run through, and a broken length counts as one refusal. Assumes
-- nothing.
use Prim.Native.Nat.{◌+◌}
use mathlib.Core.Path.{◌≡◌, sym, ap, ◌∙◌, refl}
use mathlib.Core.Bool.{false}
use native.Mathlib.Omega.{arith}
use Rattle.std.proofs.lemmas.Result.{err_from_is_err_and}
use Rattle.records.proofs.RunLaws.{broken_counts, one_at_most_broken}
use Rattle.element_table.specs.declared.Table.{Table}
use Rattle.element_table.specs.Table.{seen_as}
use Rattle.element_file.specs.Yearly.{passed_in, pass_of}
use Rattle.element_file.proofs.RunLaws.{begun_marked, begun_refused, file_unread, file_told, few_refused}
use Rattle.element_file.proofs.take_file.Goals as goal

pub returns-in_err-begun : goal.returns-in_err-begun
returns-in_err-begun c =
    let a = c.args in
    let h = begun_refused a.table _ c.in_err-begun.ensures in
    let p = err_from_is_err_and c.from_residual.result c.from_residual.ensures.1 in
    rw (p.1, p.2) ((λ i. record { answer = h.1 i; table = a.table; refused = 0; broken = false }) ∙ sym (file_unread a.table a.file.now h.0))

pub overflow_add-result : goal.overflow_add-result
overflow_add-result c =
    let a = c.args in
    let marked = begun_marked a.table c.in_ok-begun.begun c.in_ok-begun.ensures in
    let ran : passed_in c.take_records-run.result ≡ pass_of (seen_as false a.table) a.file.now =
    c.take_records-run.ensures ∙ ap (λ (t : Table). pass_of t a.file.now) marked.1 in
    omega (arith, few_refused a.table a.file.now _ ran, one_at_most_broken c.take_records-run.result.broken, c.from.ensures)

pub returns : goal.returns
returns c =
    let a = c.args in
    let r = c.take_records-run.result in
    let marked = begun_marked a.table c.in_ok-begun.begun c.in_ok-begun.ensures in
    let ran : passed_in r ≡ pass_of (seen_as false a.table) a.file.now =
    c.take_records-run.ensures ∙ ap (λ (t : Table). pass_of t a.file.now) marked.1 in
    (λ i. record { answer = 0; table = r.table; refused = r.refused + (c.from.ensures ∙ broken_counts r.broken) i; broken = r.broken }) ∙
    file_told a.table a.file.now (passed_in r) ran marked.0 r.broken refl
