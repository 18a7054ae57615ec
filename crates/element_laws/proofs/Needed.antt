-- Two yearly files fed in both orders, and for each condition of the laws the files for which they fail without it. By computing. Assumes nothing.
use Prim.Native.Nat.{ℕ, suc}
use mathlib.Core.Path.{◌≡◌, refl, sym, ap, ◌∙◌}
use mathlib.Core.List.{List, [], ◌∷◌}
use mathlib.Core.Bool.{true, false}
use lib.ListN.{length}
use native.Mathlib.Omega.{arith}
use Rattle.wire.specs.Book.{place_at}
use Rattle.wire.specs.Cut.{cut_in, records_of, stop_in, stop_from, joined}
use Rattle.base.specs.Perm.{swap}
use Rattle.element_codes.specs.Elements.{codes, element_listed, row_of}
use Rattle.element_table.specs.declared.Table.{Table}
use Rattle.element_row.specs.Row.{no_row}
use Rattle.element_table.specs.Table.{begun, sound_table, seen_as}
use Rattle.element_table.specs.Rules.{answer_of}
use Rattle.element_table.specs.Take.{table_after}
use Rattle.records.specs.Records.{is_broken}
use Rattle.element_file.specs.Yearly.{take_record, after_file, AcceptedFile, AcceptedFiles}
use Rattle.element_laws.specs.Tally.{tallied}
use Rattle.element_laws.specs.Turned.{after, Turned, none, both, swap as exchange, then, files_of, SameTable}
use Rattle.element_laws.specs.Join.{table_of, row_in}
use Rattle.element_laws.specs.Needed.{outage, stock, year1, year2, turned1, turned2, as_fed, as_turned, row_one, row_two, after_sheets, sum_in, stocked, sheet_first, sheet_behind, empty, only, ten_pieces, twenty_pieces, holding}

-- the second two files are the first two turned
pub fed_turned : Turned (year1 ∷ year2 ∷ []) (turned2 ∷ turned1 ∷ [])
fed_turned = then exchange (both (after swap) (both (after swap) none))

-- each file is read as the records that it was made of
pub fed_records : (records_of (joined year1) ≡ year1) × (records_of (joined year2) ≡ year2)
unfolding cut_in records_of
fed_records = (refl, refl)

-- a file with so many records, that does not break off, of which none is refused
is_accepted : (t : Table) (file : List ℕ) (k : ℕ) → length (records_of file) ≡ suc k → is_broken file ≡ false → (after_file t file).refused ≡ 0 → AcceptedFile t file
is_accepted t file k n whole all =
    record { some = λ e. let no : suc k ≡ 0 = sym n ∙ ap length e in omega arith; whole = whole; all = all }

-- both orders are accepted, and come to the same table
pub fed_accepted : AcceptedFiles (begun 2) as_fed
unfolding cut_in records_of stop_in stop_from place_at codes element_listed row_of sound_table answer_of table_after take_record
fed_accepted = (
  is_accepted (begun 2) (joined year1) 3 refl refl refl,
  (is_accepted (after_file (begun 2) (joined year1)).table (joined year2) 2 refl refl refl, tt),
)

pub turned_accepted : AcceptedFiles (begun 2) as_turned
unfolding cut_in records_of stop_in stop_from place_at codes element_listed row_of sound_table answer_of table_after take_record
turned_accepted = (
  is_accepted (begun 2) (joined turned2) 2 refl refl refl,
  (is_accepted (after_file (begun 2) (joined turned2)).table (joined turned1) 3 refl refl refl, tt),
)

pub turned_same : SameTable (begun 2) as_fed as_turned
unfolding cut_in records_of stop_in stop_from place_at codes element_listed row_of sound_table answer_of table_after take_record
turned_same = record { accepted = turned_accepted; table = refl }

-- the rows of codes 1, 2 and 3 after the two files: nothing was told of code 3
pub fed_rows : (row_in (table_of 2 as_fed) 0 ≡ row_one) × (row_in (table_of 2 as_fed) 1 ≡ row_two) × (row_in (table_of 2 as_fed) 2 ≡ no_row)
unfolding cut_in records_of stop_in stop_from place_at codes element_listed row_of sound_table answer_of table_after take_record
fed_rows = (refl, refl, refl)

-- and so much the records after the sheets tell of these three
pub fed_tallied : (tallied no_row 0 after_sheets ≡ row_one) × (tallied no_row 1 after_sheets ≡ row_two) × (tallied no_row 2 after_sheets ≡ no_row)
unfolding codes row_of
fed_tallied = (refl, refl, refl)

-- joined: the two files are accepted each by itself, share no stocked code, and the table of both has the sums, as above
pub first_alone : AcceptedFiles (begun 2) (joined year1 ∷ [])
unfolding cut_in records_of stop_in stop_from place_at codes element_listed row_of sound_table answer_of table_after take_record
first_alone = (is_accepted (begun 2) (joined year1) 3 refl refl refl, tt)

pub second_alone : AcceptedFiles (begun 2) (joined year2 ∷ [])
unfolding cut_in records_of stop_in stop_from place_at codes element_listed row_of sound_table answer_of table_after take_record
second_alone = (is_accepted (begun 2) (joined year2) 2 refl refl refl, tt)

pub join_sums : (sum_in 0 ≡ row_one) × (sum_in 1 ≡ row_two) × (sum_in 2 ≡ no_row)
unfolding cut_in records_of stop_in stop_from place_at codes element_listed row_of sound_table answer_of table_after take_record
join_sums = (refl, refl, refl)

-- a stock told twice in a file: in both orders one record is refused, and another amount stays
pub twice_turned : Turned (stocked 10 20 ∷ []) (stocked 20 10 ∷ [])
twice_turned = both (after swap) none

pub twice_differs :
    ((after_file (begun 1) (joined (stocked 10 20))).refused ≡ 1) ×
    ((row_in (table_of 1 (files_of (stocked 10 20 ∷ []))) 0).amount ≡ 10) ×
    ((after_file (begun 1) (joined (stocked 20 10))).refused ≡ 1) ×
    ((row_in (table_of 1 (files_of (stocked 20 10 ∷ []))) 0).amount ≡ 20)
unfolding cut_in records_of stop_in stop_from place_at codes element_listed row_of sound_table answer_of table_after take_record
twice_differs = (refl, refl, refl, refl)

-- the sheet moved behind an outage: the outage is refused 5 and not counted, and with the sheet first it is counted
pub sheet_moved :
    ((after_file (begun 1) sheet_first).refused ≡ 0) ×
    ((row_in (table_of 1 (sheet_first ∷ [])) 0).outages ≡ 1) ×
    (answer_of (seen_as false (begun 1)) (outage 1 100 160) ≡ 5) ×
    ((after_file (begun 1) sheet_behind).refused ≡ 1) ×
    ((row_in (table_of 1 (sheet_behind ∷ [])) 0).outages ≡ 0)
unfolding cut_in records_of stop_in stop_from place_at codes element_listed row_of sound_table answer_of table_after take_record
sheet_moved = (refl, refl, refl, refl, refl)

-- a file without a record, whole and with nothing refused: the mark is set where it is fed first, and cleared where it is fed last
pub empty_turned : Turned (empty ∷ only ∷ []) (only ∷ empty ∷ [])
empty_turned = exchange

pub empty_differs :
    ((after_file (begun 1) (joined empty)).refused ≡ 0) ×
    (is_broken (joined empty) ≡ false) ×
    ((table_of 1 (files_of (empty ∷ only ∷ []))).seen ≡ true) ×
    ((table_of 1 (files_of (only ∷ empty ∷ []))).seen ≡ false)
unfolding cut_in records_of stop_in stop_from place_at codes element_listed row_of sound_table answer_of table_after take_record
empty_differs = (refl, refl, refl, refl)

-- a stocked code that is shared: each file is accepted alone, and after the first one the stock of the second is refused 5
pub each_stocks : AcceptedFiles (begun 1) (ten_pieces ∷ []) × AcceptedFiles (begun 1) (twenty_pieces ∷ [])
unfolding cut_in records_of stop_in stop_from place_at codes element_listed row_of sound_table answer_of table_after take_record
each_stocks = (
  (is_accepted (begun 1) ten_pieces 1 refl refl refl, tt),
  (is_accepted (begun 1) twenty_pieces 1 refl refl refl, tt),
)

pub shared_refused :
    (answer_of (table_of 1 (ten_pieces ∷ [])) (stock 1 0 20) ≡ 5) ×
    ((after_file (table_of 1 (ten_pieces ∷ [])) twenty_pieces).refused ≡ 1) ×
    ((row_in (table_of 1 (ten_pieces ∷ twenty_pieces ∷ [])) 0).amount ≡ 10)
unfolding cut_in records_of stop_in stop_from place_at codes element_listed row_of sound_table answer_of table_after take_record
shared_refused = (refl, refl, refl)

-- one period: the same files under 2 years and under 5 come to the same rows and to two tables, so that one fed under 2 years and the other under 5
-- have no one table with the sums
pub periods_differ :
    ((table_of 2 (joined year1 ∷ [])).period ≡ 2) ×
    ((table_of 5 (joined year2 ∷ [])).period ≡ 5) ×
    ((table_of 2 as_fed).period ≡ 2) ×
    ((table_of 5 as_fed).period ≡ 5) ×
    ((table_of 5 as_fed).rows ≡ (table_of 2 as_fed).rows)
unfolding cut_in records_of stop_in stop_from place_at codes element_listed row_of sound_table answer_of table_after take_record
periods_differ = (refl, refl, refl, refl, refl)

-- a sound table with 65,535 outages of an element: one more is refused 15, and with 65,534 it is accepted
pub full_refused :
    (sound_table (holding 65535) ≡ true) ×
    (answer_of (holding 65535) (outage 1 100 160) ≡ 15) ×
    ((after_file (holding 65535) sheet_first).refused ≡ 1) ×
    (answer_of (holding 65534) (outage 1 100 160) ≡ 0) ×
    ((after_file (holding 65534) sheet_first).refused ≡ 0)
unfolding cut_in records_of stop_in stop_from place_at codes element_listed row_of sound_table answer_of table_after take_record
full_refused = (refl, refl, refl, refl, refl)
