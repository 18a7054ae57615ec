-- The tests are those of `gap_said`, in the same order; the second separator is looked for past the first, within the gap. Assumes nothing.
use mathlib.Core.Path.{sym, ap, ◌∙◌}
use lib.ListN.{length}
use borrow.Author.Tests.{ltb-true, ltb-false, le-leb, lt-leb}
use Rattle.text_scan.specs.Outcomes.{wrong_in}
use Rattle.text_scan.specs.Scan.{said_at, other_at, separator_place}
use Rattle.text_scan.proofs.ScanLaws.{place_there, place_none, second_there, second_none, gap_other, gap_undue, gap_none, gap_empty, gap_right}
use Rattle.text_scan.proofs.gap_said.Goals as goal

pub returns-in-Some : goal.returns-in-Some
returns-in-Some c =
    let a = c.args in
    let there = place_there (other_at a.gap.now a.sep) a.gap.now c.in-Some.other (sym c.other_at.ensures ∙ c.in-Some.is) in
    ap wrong_in c.at.ensures ∙ ap (said_at 13) there.1 ∙ sym (gap_other a.gap.now a.sep a.due there.0)

pub returns-then-not-due : goal.returns-then-not-due
returns-then-not-due c =
    let a = c.args in
    let same = place_none (other_at a.gap.now a.sep) a.gap.now (sym c.other_at.ensures ∙ c.in_default.is) in
    sym (gap_undue a.gap.now a.sep a.due same c.if-not-due.true)

pub returns-in_default-place_of : goal.returns-in_default-place_of
returns-in_default-place_of c =
    let a = c.args in
    let same = place_none (other_at a.gap.now a.sep) a.gap.now (sym c.other_at.ensures ∙ c.in_default.is) in
    let past = ltb-false (separator_place a.gap.now a.sep) (length a.gap.now) (place_none (separator_place a.gap.now a.sep) a.gap.now (sym c.place_of.ensures ∙ c.in_default-place_of.is)) in
    ap wrong_in c.at-in_default-place_of.ensures ∙ sym (gap_none a.gap.now a.sep a.due same c.if-not-due.false (le-leb (length a.gap.now) (separator_place a.gap.now a.sep) past))

pub returns-in-Some-place_of-2 : goal.returns-in-Some-place_of-2
returns-in-Some-place_of-2 c =
    let a = c.args in
    let same = place_none (other_at a.gap.now a.sep) a.gap.now (sym c.other_at.ensures ∙ c.in_default.is) in
    let first = place_there (separator_place a.gap.now a.sep) a.gap.now c.in-Some-place_of.first (sym c.place_of.ensures ∙ c.in-Some-place_of.is) in
    let one = lt-leb (length a.gap.now) (separator_place a.gap.now a.sep) (ltb-true (separator_place a.gap.now a.sep) (length a.gap.now) first.0) in
    let two = second_there a.gap.now a.sep c.in-Some-place_of.first first.1 c.part.result.now c.part.ensures c.in-Some-place_of-2.more (sym c.place_of-2.ensures ∙ c.in-Some-place_of-2.is) in
    ap wrong_in c.at-in-Some-place_of-2.ensures ∙ ap (said_at 15) two.1 ∙ sym (gap_empty a.gap.now a.sep a.due same c.if-not-due.false one two.0)

pub returns : goal.returns
returns c =
    let a = c.args in
    let same = place_none (other_at a.gap.now a.sep) a.gap.now (sym c.other_at.ensures ∙ c.in_default.is) in
    let first = place_there (separator_place a.gap.now a.sep) a.gap.now c.in-Some-place_of.first (sym c.place_of.ensures ∙ c.in-Some-place_of.is) in
    let one = lt-leb (length a.gap.now) (separator_place a.gap.now a.sep) (ltb-true (separator_place a.gap.now a.sep) (length a.gap.now) first.0) in
    let alone = second_none a.gap.now a.sep c.in-Some-place_of.first first.1 c.part.result.now c.part.ensures (sym c.place_of-2.ensures ∙ c.in_default-place_of-2.is) in
    sym (gap_right a.gap.now a.sep a.due same c.if-not-due.false one alone)
