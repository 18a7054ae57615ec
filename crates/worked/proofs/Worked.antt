-- P1 to P14 come out as 01 says. By computing. Assumes nothing.
use mathlib.Core.Path.{◌≡◌, refl}
use Rattle.base.specs.Lists.{All}
use Rattle.wire.specs.Cut.{cut_in, records_of}
use Rattle.ratio.specs.Lowest.{euclid, gcd_of, lowest_of}
use Rattle.decimal.specs.Decimal.{rounded, decimal_of, shown_of}
use Rattle.codes.specs.Codes.{row_of, level_of, causes, cause_listed, row_held}
use Rattle.annex.specs.Times.{minutes_in, is_short}
use Rattle.annex.specs.Figures.{with_step}
use Rattle.annex.specs.Simple.{simple_figures}
use Rattle.used_numbers.specs.Marks.{marked, marking, marked_with}
use Rattle.verdict.specs.Verdict.{event_verdict}
use Rattle.record.specs.Inside.{answer_at, verdict_at}
use Rattle.record.specs.Verdict.{record_answer, verdict_of}
use Rattle.ledger.specs.Ledger.{added}
use Rattle.ledger.specs.Sound.{sound_ledger}
use Rattle.ledger.specs.Take.{answer_of, ledger_after, map_after}
use Rattle.book.specs.Book.{take_record}
use Rattle.index.specs.Sums.{level_sum}
use Rattle.index.specs.Index.{index_of}
use Rattle.worked.specs.Worked.{Case, cases}

pub worked : All (λ (c : Case). c.computed ≡ c.comes_out) cases
unfolding cut_in records_of euclid gcd_of lowest_of rounded decimal_of shown_of row_of level_of causes cause_listed row_held minutes_in is_short with_step simple_figures marked marking marked_with event_verdict answer_at verdict_at record_answer verdict_of added sound_ledger answer_of ledger_after map_after take_record level_sum index_of
worked = (refl, (refl, (refl, (refl, (refl, (refl, (refl, (refl, (refl, (refl, (refl, (refl, (refl, (refl, (refl, (refl, tt))))))))))))))))
