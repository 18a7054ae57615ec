-- At the end of the loop its runs are the line's (`runs-split`): each took the next of twelve places (`told-counted`), or none (`told-passed`).
use Rattle.std.proofs.Common.{◌≡◌, ◌<◌, [], ◌∷◌, ◌++◌, length, min, ap, ◌∙◌, arith, rules}
use borrow.Author.Tests.{tests}
use Rattle.cases.specs.Runs.{runs_in, numbers_in, twelve_of}
use Rattle.cases.proofs.RunLaws.{Told, texts, told-counted, told-passed, told-same}
use Rattle.cases.proofs.SplitLaws.{runs-split}
use Rattle.cases.proofs.first_numbers.Goals as goal
use Rattle.cases.proofs.first_numbers.Goals.{else-not-is_empty-via-then-not-is_empty+else-count-lt12, else-not-is_empty-via-else-not-is_empty}

pub returns-clause-values : goal.returns-clause-values
returns-clause-values c =
    c.loop-digits.invariant.3.1 ∙ ap (λ runs. twelve_of (numbers_in runs))
    (runs-split c.into_iter-digits-iterator.result c.loop-digits.digits-iterator c.next.new.self c.args.line.now c.loop-digits.yielded c.next.result
    c.loop-digits.yielded_by c.next.ensures.steps c.in-None.is (cc) (cc) (λ x b q k. search (rules, tests)))

pub returns-clause-count : goal.returns-clause-count
returns-clause-count c =
    c.loop-digits.invariant.3.0 ∙ ap (λ runs. min 12 (length runs))
    (runs-split c.into_iter-digits-iterator.result c.loop-digits.digits-iterator c.next.new.self c.args.line.now c.loop-digits.yielded c.next.result
    c.loop-digits.yielded_by c.next.ensures.steps c.in-None.is (cc) (cc) (λ x b q k. search (rules, tests)))

pub loop-digits-preserved-then-count-lt12 : goal.loop-digits-preserved-then-count-lt12
loop-digits-preserved-then-count-lt12 c =
    let some : 0 < length c.in-Some.digits.now = search rules in
    let told = told-counted c.loop-digits.yielded c.in-Some.digits _ _ _ some c.if-count-lt12.true c.loop-digits.invariant.3 c.number_of.ensures in
    (search rules, search rules, omega arith, told)

pub loop-digits-preserved : goal.loop-digits-preserved
loop-digits-preserved c =
    let told : Told (runs_in (texts (c.loop-digits.yielded ++ c.in-Some.digits ∷ []))) c.loop-digits.count c.loop-digits.values
    = elim c.else-not-is_empty.branch [
      | else-not-is_empty-via-then-not-is_empty+else-count-lt12 w ↦
          let some : 0 < length c.in-Some.digits.now = search rules in
          told-passed c.loop-digits.yielded c.in-Some.digits _ _ some w.if-count-lt12.false c.loop-digits.invariant.3
      | else-not-is_empty-via-else-not-is_empty w ↦
          let none : length c.in-Some.digits.now ≡ 0 = search rules in
          told-same c.loop-digits.yielded c.in-Some.digits _ _ none c.loop-digits.invariant.3
    ] in
    (search rules, search rules, omega arith, told)
