-- The worked cases of 01 ("Worked year"), P1 to P14, each computed from bytes through the definitions that the contracts cite.
use Rattle.std.specs.Prelude.{ℕ, List, [], ◌∷◌, ◌++◌}
use Rattle.base.specs.Lists.{All}
use Rattle.ratio.specs.declared.Fraction.{Fraction}
use Rattle.decimal.specs.Decimal.{shown_of, decimally}
use Rattle.codes.specs.declared.Set.TheVariants as set
use Rattle.ledger.specs.declared.Ledger.{Ledger}
use Rattle.ledger.specs.Ledger.{empty_ledger, cell_of}
use Rattle.ledger.specs.Take.{answer_of}
use Rattle.book.specs.Book.{BookState, starting, take_record, after_book}
use Rattle.law_sums.specs.Accepted.{zero_map}
use Rattle.index.specs.declared.Level.{Level}
use Rattle.index.specs.declared.Level.TheVariants as level
use Rattle.index.specs.declared.Index.TheVariants as index
use Rattle.index.specs.Sums.{total_of}
use Rattle.index.specs.Index.{index_of, exactly}
use Rattle.worked.specs.Bytes.{three, sheet, codes, simple, times, stepped, step}

-- a case: its number, what is computed, and what 01 says comes out
pub record Case : Type 0 where
  pub number : ℕ
  pub computed : List ℕ
  pub comes_out : List ℕ

-- 003, 10.2: N = 1000, 10, 1. Fault 1 on VVN, 4 minutes, all interrupted; fault 2 on VN, 25 minutes, 1000 and 10; fault 3 on NN, 50 minutes, 1000
abbrev pub fault : ℕ → ℕ → ℕ → List ℕ → List ℕ → List ℕ
fault number typ voltage ts n = simple (codes number typ voltage) ts n n

abbrev pub year : List ℕ
year =
    sheet 2009 (three 1000 10 1) ++
    (fault 1 13 7 (times 100 100 104 104) (three 1000 10 1) ++
    (fault 2 11 5 (times 200 200 225 225) (three 1000 10 0) ++ fault 3 11 1 (times 300 300 350 350) (three 1000 0 0)))

-- the ledger of a whole book, taken from an empty ledger and an all-zero map
abbrev pub ledger_of : List ℕ → Ledger
ledger_of book = (after_book empty_ledger zero_map book).ledger

-- customers and halves of a level or the network
abbrev pub totals : Ledger → Level → List ℕ
totals l lv = (total_of l.rows lv set.All).customers.0 ∷ (total_of l.rows lv set.All).halves.0 ∷ []

-- one record after a sheet: the answer, events, short events, and customers and halves of the cell of type 11 on a level
abbrev pub after_sheet : List ℕ → BookState
after_sheet s = take_record (starting empty_ledger zero_map) s

abbrev pub taken : List ℕ → List ℕ → ℕ → List ℕ
taken s bytes lv =
    answer_of (after_sheet s).ledger (after_sheet s).map bytes ∷
    (take_record (after_sheet s) bytes).ledger.events ∷
    (take_record (after_sheet s) bytes).ledger.short ∷
    (cell_of (take_record (after_sheet s) bytes).ledger 0 lv).customers.0 ∷
    (cell_of (take_record (after_sheet s) bytes).ledger 0 lv).halves.0 ∷ []

-- P7, P8 and P13 under N = 450000, 1000, 0
abbrev pub sheet105 : List ℕ
sheet105 = sheet 2009 (three 450000 1000 0)

-- 003, 10.5, as a VN event: T0 = 0, times 84, 87, 167, 174
abbrev pub example105 : List ℕ
example105 =
    stepped (codes 1 11 5) 0 4
    (step 84 (three 62 0 0) ++ (step 87 (three 2418 14 0) ++ (step 167 (three 62 0 0) ++ step 174 (three 2418 14 0))))

-- an NN event of n1, then n2 customers
abbrev pub on_nn : List ℕ → ℕ → ℕ → List ℕ
on_nn ts n1 n2 = simple (codes 1 11 1) ts (three n1 0 0) (three n2 0 0)

abbrev pub in_one_step : ℕ → List ℕ
in_one_step minutes = stepped (codes 1 11 1) 0 1 (step minutes (three 5 0 0))

-- "P13 VN event, T0 = 0, steps at 10 (NN 10, VN 0) and 20 (NN 0, VN 5)"
abbrev pub example13 : List ℕ
example13 = stepped (codes 1 11 5) 0 2 (step 10 (three 10 0 0) ++ step 20 (three 0 5 0))

abbrev pub eighth : Fraction
eighth = record { top = 1; bottom = 8 }

abbrev pub cases : List Case
cases =
    (record { number = 1; computed = totals (ledger_of year) level.NN; comes_out = 3000 ∷ 158000 ∷ [] }) ∷
    (record { number = 2; computed = totals (ledger_of year) level.VN; comes_out = 20 ∷ 580 ∷ [] }) ∷
    (record { number = 3; computed = totals (ledger_of year) level.VVN; comes_out = 1 ∷ 8 ∷ [] }) ∷
    (record { number = 4; computed = exactly (index_of (ledger_of year) index.Saifi level.Network set.All); comes_out = 0 ∷ 1007 ∷ 337 ∷ [] }) ∷
    (record { number = 5; computed = exactly (index_of (ledger_of year) index.Saidi level.Network set.All); comes_out = 0 ∷ 79294 ∷ 1011 ∷ [] }) ∷
    (record { number = 6; computed = exactly (index_of (ledger_of year) index.Caidi level.Network set.All); comes_out = 0 ∷ 79294 ∷ 3021 ∷ [] }) ∷
    (record { number = 7; computed = taken sheet105 example105 0; comes_out = 0 ∷ 1 ∷ 0 ∷ 2418 ∷ 68696 ∷ [] }) ∷
    (record { number = 8; computed = taken sheet105 example105 1; comes_out = 0 ∷ 1 ∷ 0 ∷ 14 ∷ 280 ∷ [] }) ∷
    (record { number = 9; computed = taken sheet105 (on_nn (times 0 10 15 20) 3 2) 0; comes_out = 0 ∷ 1 ∷ 0 ∷ 3 ∷ 105 ∷ [] }) ∷
    (record { number = 10; computed = taken sheet105 (on_nn (times 0 0 3 3) 5 5) 0; comes_out = 0 ∷ 1 ∷ 1 ∷ 0 ∷ 0 ∷ [] }) ∷
    (record { number = 10; computed = taken sheet105 (in_one_step 3) 0; comes_out = 0 ∷ 1 ∷ 1 ∷ 0 ∷ 0 ∷ [] }) ∷
    (record { number = 11; computed = taken sheet105 (on_nn (times 0 0 4 4) 5 5) 0; comes_out = 0 ∷ 1 ∷ 0 ∷ 5 ∷ 40 ∷ [] }) ∷
    (record { number = 11; computed = taken sheet105 (in_one_step 4) 0; comes_out = 0 ∷ 1 ∷ 0 ∷ 5 ∷ 40 ∷ [] }) ∷
    (record { number = 12; computed = taken sheet105 (on_nn (times 0 0 10 10) 0 1) 0; comes_out = 13 ∷ 0 ∷ 0 ∷ 0 ∷ 0 ∷ [] }) ∷
    (record { number = 13; computed = totals (ledger_of (sheet105 ++ example13)) level.Network; comes_out = 15 ∷ 300 ∷ [] }) ∷
    (record { number = 14; computed = decimally (shown_of eighth 2); comes_out = 0 ∷ 0 ∷ 13 ∷ [] }) ∷ []
