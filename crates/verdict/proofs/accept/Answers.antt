-- Short or not, by the test that `is_short` is: the two laws of an event's verdict. Assumes nothing.
use mathlib.Core.Path.{◌≡◌, sym, ◌∙◌}
use mathlib.Core.Bool.{true, false}
use Rattle.annex.specs.Times.{is_short}
use Rattle.verdict.proofs.VerdictLaws.{event_short, event_counted}
use Rattle.verdict.proofs.accept.Goals as goal

pub returns-then-is_short : goal.returns-then-is_short
returns-then-is_short c =
    let a = c.args in
    let e : is_short a.head.t0 a.end ≡ true = sym c.is_short.ensures ∙ c.if-is_short.true in
    (λ i. record { answer = 0; sheet = a.sheet; number = a.head.number; events = 1; short = 1; row = c.row_of.ensures i; figures = c.none.ensures i }) ∙
    sym (event_short a.sheet a.head a.end a.figures e)

pub returns : goal.returns
returns c =
    let a = c.args in
    let e : is_short a.head.t0 a.end ≡ false = sym c.is_short.ensures ∙ c.if-is_short.false in
    (λ i. record { answer = 0; sheet = a.sheet; number = a.head.number; events = 1; short = 0; row = c.row_of.ensures i; figures = a.figures }) ∙
    sym (event_counted a.sheet a.head a.end a.figures e)
