-- The last digit stands behind the digits of the tenth, which is smaller. Assumes nothing.
use Rattle.std.proofs.Common.{rules, ap, ◌∙◌, sym, [], ℕ, ◌+◌, List, ◌∷◌, ◌/◌, ◌%◌}
use Rattle.text.specs.declared.Text.{Text}
use Rattle.text.specs.Text.{pushed_all, number_text}
use Rattle.text.proofs.TextLaws.{pushed_all_append, number_ends, number_unrolls}
use Rattle.text.proofs.Text.+with_number.Goals as goal

pub returns-then-n-lt10 : goal.returns-then-n-lt10
returns-then-n-lt10 t c = c.with_byte.ensures ∙ ap (pushed_all c.args.self) (sym (number_ends c.args.n c.if-n-lt10.true))

pub returns : goal.returns
returns t c =
    let a = c.args in
    let last : List ℕ = (48 + a.n % 10) ∷ [] in
    c.with_byte-2.ensures ∙
    ap (λ (s : Text). pushed_all s last) c.with_number.ensures ∙
    sym (pushed_all_append a.self (number_text (a.n / 10)) last) ∙
    ap (pushed_all a.self) (sym (number_unrolls a.n c.if-n-lt10.false (search rules)))
