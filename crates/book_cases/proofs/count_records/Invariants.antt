use Rattle.std.proofs.Common.{◌≡◌, length, ◌-◌}
use Rattle.wire.specs.Cut.{records_from}
use Rattle.book_cases.proofs.CountLaws.{Come}
use Rattle.book_cases.proofs.count_records.Given as goal

-- before the reader's offset as many records were answered as are counted
abbrev pub invariant-records : goal.invariant-records
invariant-records l = Come l.book l.count l.reader.at × (l.reader.book.now ≡ l.book)

abbrev pub decreases-records : goal.decreases-records
decreases-records l = length (records_from l.book 0) - l.count
