-- At the end of the loop its runs are the line's (`runs-split`).
use Rattle.std.proofs.Common.{ap, ◌∙◌, rules}
use borrow.Author.Tests.{tests}
use Rattle.cases.specs.Runs.{turns_in}
use Rattle.cases.proofs.SplitLaws.{runs-split}
use Rattle.cases.proofs.numbers_by_turns.Goals as goal

pub returns-clause-values : goal.returns-clause-values
returns-clause-values c =
    c.loop-digits.invariant.4 ∙ ap (λ runs. (turns_in runs).values)
    (runs-split c.into_iter-digits-iterator.result c.loop-digits.digits-iterator c.next.new.self c.args.line.now c.loop-digits.yielded c.next.result
    c.loop-digits.yielded_by c.next.ensures.steps c.in-None.is (cc) (cc) (λ x b q k. search (rules, tests)))

pub returns-clause-count : goal.returns-clause-count
returns-clause-count c =
    c.loop-digits.invariant.3 ∙ ap (λ runs. (turns_in runs).count)
    (runs-split c.into_iter-digits-iterator.result c.loop-digits.digits-iterator c.next.new.self c.args.line.now c.loop-digits.yielded c.next.result
    c.loop-digits.yielded_by c.next.ensures.steps c.in-None.is (cc) (cc) (λ x b q k. search (rules, tests)))
