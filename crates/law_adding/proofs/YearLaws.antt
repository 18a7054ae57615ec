-- The worked year (003, 10.2; 01, "Worked year") meets what the theorems ask, and its figures are not 0; there CAIDI does not add. All of it is computed
-- from the year's bytes. Assumes nothing.
use Prim.Native.Nat.{ℕ, ◌-◌}
use Rattle.std.specs.Prelude.{Ok}
use mathlib.Core.Path.{◌≡◌, refl, sym, subst}
use mathlib.Core.List.{List, [], ◌∷◌, ◌++◌, map}
use mathlib.Core.Bool.{true}
use lib.ListN.{replicate}
use native.Mathlib.Omega.{arith}
use Rattle.wire.specs.Book.{place_at}
use Rattle.wire.specs.Cut.{cut_in, records_of, stop_from, stop_in}
use Rattle.ratio.specs.declared.Fraction.{Fraction}
use Rattle.ratio.specs.Lowest.{euclid, gcd_of, lowest_of}
use Rattle.codes.specs.declared.Set.{Set}
use Rattle.codes.specs.declared.Set.TheVariants.{All, Std}
use Rattle.codes.specs.Codes.{rows, row_of, level_of, causes, cause_listed, row_held}
use Rattle.annex.specs.Times.{minutes_in, is_short}
use Rattle.annex.specs.Figures.{customers, half_minutes, with_step}
use Rattle.annex.specs.Simple.{simple_figures}
use Rattle.annex.specs.Annex.{njh, njhtjh2}
use Rattle.annex.specs.Figure.{Off, Halves}
use Rattle.used_numbers.specs.Marks.{marked, marking, marked_with}
use Rattle.verdict.specs.Verdict.{event_verdict}
use Rattle.record.specs.Inside.{answer_at, verdict_at}
use Rattle.record.specs.Verdict.{record_answer, verdict_of}
use Rattle.ledger.specs.declared.Cell.{Cell}
use Rattle.ledger.specs.declared.TypeRow.{TypeRow}
use Rattle.ledger.specs.declared.Ledger.{Ledger}
use Rattle.ledger.specs.Ledger.{no_cell, empty_row, added}
use Rattle.ledger.specs.Sound.{sound_ledger}
use Rattle.ledger.specs.Take.{answer_of, ledger_after, map_after}
use Rattle.book.specs.Book.{take_record}
use Rattle.law_sums.specs.Accepted.{Accepted}
use Rattle.law_sums.specs.Theorem.{events_of, book_ledger}
use Rattle.index.specs.declared.Level.{Level}
use Rattle.index.specs.declared.Level.TheVariants.{NN, VN, VVN, Network}
use Rattle.index.specs.declared.Index.{Index}
use Rattle.index.specs.declared.Index.TheVariants.{Saifi, Saidi, Caidi}
use Rattle.index.specs.Sums.{level_sum, customers_of}
use Rattle.index.specs.Index.{index_of, exactly}
use Rattle.worked.specs.Worked.{year, sheet105, example105}
use Rattle.law_adding.specs.Parts.{types_in, rest, events_hold, alone_of, share_of}
use Rattle.law_adding.specs.Adding.{total_held, IndexAdds, LevelsWeigh, AddsUp, CaidiApart, Multiplies}
use Rattle.law_adding.proofs.AddingTheorem.{accepted_book_adds_up}

abbrev cell : ℕ → ℕ → Cell
cell n h = record { customers = customers n; halves = half_minutes h }

abbrev row : Cell → Cell → Cell → TypeRow
row nn vn vvn = record { levels = nn ∷ vn ∷ vvn ∷ [] }

-- the year's ledger: three events of the types 11 and 13
abbrev pub year_ledger : Ledger
year_ledger =
    record {
      sheet = record { there = true; year = 2009; totals = 1000 ∷ 10 ∷ 1 ∷ [] };
      events = 3;
      short = 0;
      rows =
          row (cell 2000 150000) (cell 10 500) no_cell ∷
          empty_row ∷
          row (cell 1000 8000) (cell 10 80) (cell 1 8) ∷
          replicate (rows - 3) empty_row;
    }

-- every record is accepted, and each cell is as worked out by hand
pub year_is : book_ledger year ≡ year_ledger
unfolding cut_in records_of row_of level_of causes cause_listed minutes_in is_short with_step simple_figures marked marking marked_with event_verdict answer_at verdict_at record_answer verdict_of added sound_ledger answer_of ledger_after map_after take_record
year_is = refl

pub year_accepted : Accepted year
unfolding place_at cut_in records_of stop_from stop_in row_of level_of causes cause_listed minutes_in is_short with_step simple_figures marked marking marked_with event_verdict answer_at verdict_at record_answer verdict_of added sound_ledger answer_of ledger_after map_after take_record
year_accepted = record { whole = refl; all = refl }

pub year_adds_up : AddsUp year
year_adds_up = accepted_book_adds_up year year_accepted

-- customers, half minutes and N of NN, VN, VVN and the network under 'all': the first three add up to the fourth
abbrev four : List Level
four = NN ∷ VN ∷ VVN ∷ Network ∷ []

pub year_customers : map (λ (h : Level). total_held Off (book_ledger year) h All) four ≡ (3000 ∷ 20 ∷ 1 ∷ 3021 ∷ [])
unfolding level_sum row_held
year_customers = rw year_is

pub year_halves : map (λ (h : Level). total_held Halves (book_ledger year) h All) four ≡ (158000 ∷ 580 ∷ 8 ∷ 158588 ∷ [])
unfolding level_sum row_held
year_halves = rw year_is

pub year_served : map (customers_of (book_ledger year).sheet.totals) four ≡ (1000 ∷ 10 ∷ 1 ∷ 1011 ∷ [])
year_served = rw year_is

-- the network under 'std', of the types that 'std' leaves out, and under 'all', from the year's events: customers, then half minutes
pub year_events :
    map (λ (ts : List ℕ). events_hold Off ts Network (events_of year)) (types_in Std ∷ rest ∷ types_in All ∷ []) ≡ (2010 ∷ 1011 ∷ 3021 ∷ [])
unfolding cut_in records_of is_short njh
year_events = refl

pub year_event_halves :
    map (λ (ts : List ℕ). events_hold Halves ts Network (events_of year)) (types_in Std ∷ rest ∷ types_in All ∷ []) ≡ (150500 ∷ 8088 ∷ 158588 ∷ [])
unfolding cut_in records_of is_short njhtjh2
year_event_halves = refl

abbrev over : ℕ → ℕ → Fraction
over top bottom = record { top = top; bottom = bottom }

-- SAIFI and SAIDI of the network under 'all' and 'std', and of the types that 'std' leaves out alone: 1007/337 = 670/337 + 1011/1011, and so on
pub year_saifi :
    (index_of (book_ledger year) Saifi Network All ≡ Ok (over 1007 337)) ×
    (index_of (book_ledger year) Saifi Network Std ≡ Ok (over 670 337)) ×
    (alone_of (book_ledger year) Saifi Network rest ≡ over 1011 1011)
unfolding euclid gcd_of lowest_of row_of row_held sound_ledger level_sum index_of
year_saifi = (rw year_is, rw year_is, rw year_is)

pub year_saidi :
    (index_of (book_ledger year) Saidi Network All ≡ Ok (over 79294 1011)) ×
    (index_of (book_ledger year) Saidi Network Std ≡ Ok (over 75250 1011)) ×
    (alone_of (book_ledger year) Saidi Network rest ≡ over 8088 2022)
unfolding euclid gcd_of lowest_of row_of row_held sound_ledger level_sum index_of
year_saidi = (rw year_is, rw year_is, rw year_is)

-- CAIDI of the network: 79294/3021, 7525/201 and 8088/2022, which is 4. The first is not the sum of the others
pub year_caidi :
    (index_of (book_ledger year) Caidi Network All ≡ Ok (over 79294 3021)) ×
    (index_of (book_ledger year) Caidi Network Std ≡ Ok (over 7525 201)) ×
    (alone_of (book_ledger year) Caidi Network rest ≡ over 8088 2022)
unfolding euclid gcd_of lowest_of row_of row_held sound_ledger level_sum index_of
year_caidi = (rw year_is, rw year_is, rw year_is)

pub caidi_does_not_add : CaidiApart (book_ledger year) Network
unfolding euclid gcd_of lowest_of row_of row_held sound_ledger level_sum index_of
caidi_does_not_add = subst (λ (l : Ledger). CaidiApart l Network) (sym year_is) there
  where
    there : CaidiApart year_ledger Network
    there =
        record {
          all = over 79294 3021;
          std = over 7525 201;
          is_all = refl;
          is_std = refl;
          exists = omega arith;
          apart = omega arith;
        }

-- the year meets what SAIFI and SAIDI ask: somebody is served
network_served : customers_of (book_ledger year).sheet.totals Network ≡ 0 → ⊥
network_served = rw year_is (λ e. omega (arith, e))

pub year_saifi_adds : IndexAdds (book_ledger year) Saifi Network
year_saifi_adds = year_adds_up.saifi Network network_served

pub year_saidi_adds : IndexAdds (book_ledger year) Saidi Network
year_saidi_adds = year_adds_up.saidi Network network_served

-- each level's SAIFI times its N, and the network's: 3 x 1000 + 2 x 10 + 1 x 1 = 1007/337 x 1011
pub year_saifi_weighs : LevelsWeigh (book_ledger year) Saifi All
year_saifi_weighs = year_adds_up.saifi_weighs All network_served

abbrev weighed : Ledger → Index → List Fraction
weighed l index = map (share_of l index All) four

pub year_weighed :
    (weighed (book_ledger year) Saifi ≡ (over 3000 1 ∷ over 20 1 ∷ over 1 1 ∷ over 1018077 337 ∷ [])) ×
    (weighed (book_ledger year) Saidi ≡ (over 79000 1 ∷ over 290 1 ∷ over 4 1 ∷ over 80166234 1011 ∷ []))
unfolding euclid gcd_of lowest_of row_held sound_ledger level_sum index_of
year_weighed = (rw year_is, rw year_is)

-- a level without customers, VVN of example 10.5, adds nothing: 403/75000 x 450000 + 7/500 x 1000 = 304/56375 x 451000
pub example_weighed : weighed (book_ledger (sheet105 ++ example105)) Saifi ≡ (over 181350000 75000 ∷ over 7000 500 ∷ over 0 1 ∷ over 137104000 56375 ∷ [])
unfolding cut_in records_of row_of level_of causes cause_listed minutes_in is_short with_step marked marking marked_with event_verdict answer_at verdict_at record_answer verdict_of added sound_ledger answer_of ledger_after map_after take_record euclid gcd_of lowest_of row_held level_sum index_of
example_weighed = refl

-- CAIDI times SAIFI is SAIDI: 79294/3021 times 1007/337 is 79294/1011
pub year_multiplies : Multiplies (book_ledger year) Network All (over 1007 337) (over 79294 3021)
year_multiplies = record { saidi = over 79294 1011; is_saidi = year_saidi.0; same = refl }

-- SAIFI, SAIDI and CAIDI in the other ways of the identity: nobody of VVN interrupted under 'std'; nobody of VVN served, in a book of a sheet alone; and
-- no sheet, in the book of no bytes
abbrev answers : Ledger → Level → Set → List (List ℕ)
answers l level set = map (λ (index : Index). exactly (index_of l index level set)) (Saifi ∷ Saidi ∷ Caidi ∷ [])

pub year_none_interrupted : answers (book_ledger year) VVN Std ≡ ((0 ∷ 0 ∷ 1 ∷ []) ∷ (0 ∷ 0 ∷ 1 ∷ []) ∷ (17 ∷ []) ∷ [])
unfolding euclid gcd_of lowest_of row_held sound_ledger level_sum index_of
year_none_interrupted = rw year_is

pub sheet_none_served : answers (book_ledger sheet105) VVN All ≡ ((17 ∷ []) ∷ (17 ∷ []) ∷ (17 ∷ []) ∷ [])
unfolding cut_in records_of row_held marked_with answer_at verdict_at record_answer verdict_of added sound_ledger answer_of ledger_after map_after take_record level_sum index_of
sheet_none_served = refl

pub no_bytes_no_sheet : answers (book_ledger []) Network All ≡ ((5 ∷ []) ∷ (5 ∷ []) ∷ (5 ∷ []) ∷ [])
unfolding cut_in records_of sound_ledger index_of
no_bytes_no_sheet = refl
