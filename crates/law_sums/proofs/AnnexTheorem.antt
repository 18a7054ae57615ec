-- The theorem *accepted events add exactly the annex* (01, "What one event adds"; 003, 4.3.1): whatever records are taken, in whatever state, each cell
-- grows by the annex's sum over the accepted events that count in it, just their numbers are marked, and the sheet is the first. No soundness is asked: an unsound ledger refuses every record. Assumes nothing.
use Prim.Native.Nat.{ℕ, ◌+◌, ◌<◌}
use mathlib.Core.Path.{◌≡◌, refl, sym, ap, ◌∙◌}
use mathlib.Core.List.{List, [], ◌∷◌, map}
use mathlib.Core.Bool.{Bool, true, false, ◌&&◌, ◌||◌, not, cond}
use lib.ListN.{length, get_or, get_or-replicate}
use lib.Dec.{eqb}
use native.Mathlib.Nat.{add-zero, zero-add}
use native.Mathlib.Omega.{arith}
use borrow.Author.Tests.{eqb-true, eqb-false}
use Rattle.base.specs.Lists.{listed, sum, keep}
use Rattle.base.proofs.TestLaws.{Tested, holds, fails, test}
use Rattle.wire.specs.Frame.{kind_of}
use Rattle.wire.specs.Cut.{records_of}
use Rattle.codes.specs.Codes.{rows, levels}
use Rattle.annex.specs.declared.Figures.{Figures}
use Rattle.annex.specs.Times.{is_short}
use Rattle.annex.specs.Figures.{nothing}
use Rattle.annex.specs.Figure.{Figure, Off, Halves, given, figure_at}
use Rattle.annex.specs.Annex.{simple, stepped, start_of, end_of, short_event, figures_of}
use Rattle.annex.proofs.FoldLaws.{nothing_gives, figures_given}
use Rattle.fields.specs.declared.Sheet.{Sheet}
use Rattle.fields.specs.Fields.{sheet_in, no_sheet, head_in, simple_in, steps_in}
use Rattle.fields.proofs.TestLaws.{listed_row}
use Rattle.verdict.specs.Verdict.{sheet_verdict, event_verdict}
use Rattle.record.specs.Verdict.{accepted_at}
use Rattle.ledger.specs.declared.TypeRow.{TypeRow}
use Rattle.ledger.specs.declared.Ledger.{Ledger}
use Rattle.ledger.specs.Ledger.{empty_ledger, no_cell, empty_row, no_row, held, held_in, added, Shaped}
use Rattle.ledger.specs.Take.{answer_of, ledger_after}
use Rattle.ledger.proofs.CellLaws.{added_sheet, added_held, empty_shaped}
use Rattle.ledger.proofs.TakeLaws.{accepted_verdict, accepted_adds, refused_hands_back, shape_kept}
use Rattle.book.specs.Book.{BookState, starting, take_record, take_all}
use Rattle.law_sums.specs.Accepted.{zero_map, Accepted, event_in, row_in, event_at, accepted_of, is_sheet, accepted_events, accepted_sheets, short_ones, sum_of, numbers_of, all_marked, sheet_by}
use Rattle.law_sums.specs.Theorem.{refused_ones, Adds, events_of, sheets_of, IsSum}
use Rattle.law_sums.proofs.NobodyLaws.{events_nobody, sums_nobody}
use Rattle.law_sums.proofs.StateLaws.{event_verdict_lem, accepted_listed, records_mark, records_marked, records_sheet, zero_unmarked}
use Rattle.base.proofs.SumLaws.{sum_kept, sum_of_ones, count_kept}

-- the ledger with a sheet put in
abbrev with_sheet : Ledger → Sheet → Ledger
with_sheet l next = record { sheet = next; events = l.events; short = l.short; rows = l.rows }

accepted_row : (l : Ledger) (m s : List ℕ) → answer_of l m s ≡ 0 → eqb (kind_of s) 1 ≡ false → row_in s < rows
accepted_row l m s a k = listed_row (head_in s) (accepted_listed l m s a k)

-- a number of the ledger that no sheet changes, and that an event raises by what it counts: all the accepted events together raise it by their sum
module _
    (value : Ledger → ℕ)
    (counts : List ℕ → ℕ)
    (by-sheet : (l : Ledger) (next : Sheet) → value (with_sheet l next) ≡ value l)
    (by-event : (l : Ledger) (s : List ℕ) → Shaped l → row_in s < rows → value (added l (event_at l.sheet s)) ≡ value l + counts s)
  where
    by_record :
        (l : Ledger) (m s : List ℕ) →
        Shaped l →
        value (ledger_after l m s) ≡ value l + cond (eqb (answer_of l m s) 0 && not (eqb (kind_of s) 1)) (counts s) 0
    by_record l m s n = go (test (eqb (answer_of l m s) 0)) (test (eqb (kind_of s) 1))
      where
        go :
            Tested (eqb (answer_of l m s) 0) →
            Tested (eqb (kind_of s) 1) →
            value (ledger_after l m s) ≡ value l + cond (eqb (answer_of l m s) 0 && not (eqb (kind_of s) 1)) (counts s) 0
        go (fails e) k = rw e (ap value (refused_hands_back l m s (eqb-false _ _ e)).0 ∙ sym (add-zero (value l)))
        go (holds e) (holds k) =
            let a : answer_of l m s ≡ 0 = eqb-true _ _ e in
            let v : accepted_at (kind_of s) s l.sheet ≡ sheet_verdict (sheet_in s) = rw k in
            rw (e, k) (
            ap value ((accepted_adds l m s a).0 ∙ ap (added l) (accepted_verdict l m s a ∙ v) ∙ added_sheet l (sheet_in s)) ∙
            by-sheet l (sheet_in s) ∙
            sym (add-zero (value l))
            )
        go (holds e) (fails k) =
            let a : answer_of l m s ≡ 0 = eqb-true _ _ e in
            rw (e, k) (
            ap value ((accepted_adds l m s a).0 ∙ ap (added l) (accepted_verdict l m s a ∙ event_verdict_lem s l.sheet k)) ∙
            by-event l s n (accepted_row l m s a k)
            )

    by_records :
        (st : BookState) (ss : List (List ℕ)) →
        Shaped st.ledger →
        value (take_all st ss).ledger ≡ value st.ledger + sum (map counts (accepted_events st ss))
    unfolding take_record
    by_records st [] n = sym (add-zero _)
    by_records st (s ∷ ss) n =
        by_records (take_record st s) ss (shape_kept st.ledger st.map s n) ∙
        ap (λ x. x + sum (map counts (accepted_events (take_record st s) ss))) (by_record st.ledger st.map s n) ∙
        one_more (eqb (answer_of st.ledger st.map s) 0 && not (eqb (kind_of s) 1)) (value st.ledger) s (accepted_events (take_record st s) ss)
      where
        one_more :
            (t : Bool) (before : ℕ) (s : List ℕ) (es : List (List ℕ)) →
            before + cond t (counts s) 0 + sum (map counts es) ≡ before + sum (map counts (cond t (s ∷ es) es))
        one_more true before s es = omega arith
        one_more false before s es = omega arith

-- an event starts at its head's T0, however it is told
event_start : (s : List ℕ) → start_of (event_in s) ≡ (head_in s).t0
event_start s = go (eqb (kind_of s) 2)
  where
    go : (t : Bool) → start_of (cond t (simple (simple_in s)) (stepped (head_in s).t0 (steps_in s))) ≡ (head_in s).t0
    go true = refl
    go false = refl

event_short : (s : List ℕ) → is_short (head_in s).t0 (end_of (event_in s)) ≡ short_event (event_in s)
event_short s = ap (λ t. is_short t (end_of (event_in s))) (sym (event_start s))

-- an event's row counts it, where it is not short
abbrev counts_in : ℕ → List ℕ → Bool
counts_in row s = eqb (row_in s) row && not (short_event (event_in s))

module _ (l : Ledger) (s : List ℕ) where
  abbrev after : Ledger
  after = added l (event_at l.sheet s)

  abbrev shown : Bool → Figures
  shown short = cond short nothing (figures_of (event_in s))

  -- what a figure adds to a cell: nothing where the row is another, or where the event is short
  if_counted :
      (figure : Figures → ℕ) (x : ℕ) →
      figure nothing ≡ 0 →
      figure (figures_of (event_in s)) ≡ x →
      (row : ℕ) →
      cond (eqb (row_in s) row) (figure (shown (is_short (head_in s).t0 (end_of (event_in s))))) 0 ≡ cond (counts_in row s) x 0
  if_counted figure x z e row =
      ap (λ short. cond (eqb (row_in s) row) (figure (shown short)) 0) (event_short s) ∙ go (eqb (row_in s) row) (short_event (event_in s))
    where
      go : (here short : Bool) → cond here (figure (shown short)) 0 ≡ cond (here && not short) x 0
      go true true = z
      go true false = e
      go false short = refl

  event_cell :
      Shaped l → row_in s < rows → (x : Figure) (row h : ℕ) → h < levels → held_in x after row h ≡ held_in x l row h + cond (counts_in row s) (given x h (event_in s)) 0
  unfolding event_verdict
  event_cell n b x row h c =
      added_held l (event_at l.sheet s) n b x row h c ∙
      ap (λ y. held_in x l row h + y) (if_counted (λ f. figure_at x f h) (given x h (event_in s)) (nothing_gives x h c) (figures_given x (event_in s) h c) row)

  event_counted : after.events ≡ l.events + 1
  unfolding added event_verdict
  event_counted = refl

  event_counted_short : after.short ≡ l.short + cond (short_event (event_in s)) 1 0
  unfolding added event_verdict
  event_counted_short = ap (λ short. l.short + cond short 1 0) (event_short s)

refused_counted : (st : BookState) (ss : List (List ℕ)) → (take_all st ss).refused ≡ st.refused + length (refused_ones st ss)
unfolding take_record
refused_counted st [] = sym (add-zero _)
refused_counted st (s ∷ ss) =
    refused_counted (take_record st s) ss ∙ one_more (eqb (answer_of st.ledger st.map s) 0) st.refused (refused_ones (take_record st s) ss)
  where
    one_more : (t : Bool) (before : ℕ) (rs : List (List ℕ)) → before + cond t 0 1 + length rs ≡ before + length (cond t rs (s ∷ rs))
    one_more true before rs = omega arith
    one_more false before rs = omega arith

-- any records, taken from any state whose ledger has all its rows and levels, add the annex's sums over those accepted
pub adds_exactly : (st : BookState) (ss : List (List ℕ)) → Shaped st.ledger → Adds st ss
adds_exactly st ss n =
    record {
      cells =
          λ x row h r c.
          by_records
          (λ l. held_in x l row h)
          (λ s. cond (counts_in row s) (given x h (event_in s)) 0)
          (λ l next. refl)
          (λ l s n b. event_cell l s n b x row h c)
          st ss n ∙
          ap (λ y. held_in x st.ledger row h + y) (sum_kept (counts_in row) (λ s. given x h (event_in s)) es);
      nobody = events_nobody st ss;
      events =
          by_records (λ l. l.events) (λ s. 1) (λ l next. refl) (λ l s n b. event_counted l s) st ss n ∙
          ap (λ x. st.ledger.events + x) (sum_of_ones es);
      short =
          by_records (λ l. l.short) (λ s. cond (short_event (event_in s)) 1 0) (λ l next. refl) (λ l s n b. event_counted_short l s) st ss n ∙
          ap (λ x. st.ledger.short + x) (count_kept (λ s. short_event (event_in s)) es);
      refused = refused_counted st ss;
      map = records_mark st ss;
      marks = records_marked st ss;
      sheet = records_sheet st ss;
    }
  where
    es : List (List ℕ)
    es = accepted_events st ss

-- a cell whose customers have not grown has the half minutes that it had
pub cell_nobody :
    (st : BookState) (ss : List (List ℕ)) →
    Shaped st.ledger →
    (row h : ℕ) →
    row < rows →
    h < levels →
    held_in Off (take_all st ss).ledger row h ≡ held_in Off st.ledger row h →
    held_in Halves (take_all st ss).ledger row h ≡ held_in Halves st.ledger row h
cell_nobody st ss n row h r c same =
    let adds : Adds st ss = adds_exactly st ss n in
    let none : sum_of Off row h (accepted_events st ss) ≡ 0 = omega (arith, same, adds.cells Off row h r c) in
    omega (arith, adds.cells Halves row h r c, sums_nobody row h (accepted_events st ss) c adds.nobody none)

-- of a book's bytes
pub book_adds_exactly : (l : Ledger) (m book : List ℕ) → Shaped l → Adds (starting l m) (records_of book)
book_adds_exactly l m book n = adds_exactly (starting l m) (records_of book) n

-- where no record is refused, the accepted records that pass a test are all those that do
pub all_accepted : (f : List ℕ → Bool) (st : BookState) (ss : List (List ℕ)) → length (refused_ones st ss) ≡ 0 → accepted_of f st ss ≡ keep f ss
all_accepted f st [] z = refl
all_accepted f st (s ∷ ss) z = go (eqb (answer_of st.ledger st.map s) 0) z (all_accepted f (take_record st s) ss)
  where
    refused : List (List ℕ)
    refused = refused_ones (take_record st s) ss

    taken : List (List ℕ)
    taken = accepted_of f (take_record st s) ss

    go :
        (t : Bool) →
        length (cond t refused (s ∷ refused)) ≡ 0 →
        (length refused ≡ 0 → taken ≡ keep f ss) →
        cond (t && f s) (s ∷ taken) taken ≡ cond (f s) (s ∷ keep f ss) (keep f ss)
    go true z h = ap (λ es. cond (f s) (s ∷ es) es) (h z)
    go false z h = absurd (omega (arith, z))

empty_held : (x : Figure) (row h : ℕ) → row < rows → h < levels → held_in x empty_ledger row h ≡ 0
empty_held x row h r c =
    ap (held x) (ap (λ (t : TypeRow). get_or t.levels h no_cell) (get_or-replicate rows row empty_row no_row r) ∙ get_or-replicate levels h no_cell no_cell c) ∙ none x
  where
    none : (x : Figure) → held x no_cell ≡ 0
    none Off = refl
    none Halves = refl

-- of an accepted book: each cell is the annex's sum over all its events
pub accepted_book_adds : (book : List ℕ) → Accepted book → IsSum book
accepted_book_adds book accepted =
    record {
      all = all;
      cells =
          λ x row h r c.
          adds.cells x row h r c ∙
          ap (λ y. y + sum_of x row h es) (empty_held x row h r c) ∙
          zero-add (sum_of x row h es) ∙
          ap (sum_of x row h) all;
      events = adds.events ∙ zero-add (length es) ∙ ap length all;
      short = adds.short ∙ zero-add (length (short_ones es)) ∙ ap (λ es. length (short_ones es)) all;
      map = adds.map ∙ ap (all_marked zero_map) all;
      marks =
          λ v b.
          adds.marks v b ∙ ap (λ (t : Bool). t || listed v (numbers_of es)) (zero_unmarked v) ∙ ap (λ (es : List (List ℕ)). listed v (numbers_of es)) all;
      sheet = adds.sheet ∙ ap (sheet_by no_sheet) sheets;
    }
  where
    es : List (List ℕ)
    es = accepted_events (starting empty_ledger zero_map) (records_of book)

    adds : Adds (starting empty_ledger zero_map) (records_of book)
    adds = book_adds_exactly empty_ledger zero_map book empty_shaped

    none_refused : length (refused_ones (starting empty_ledger zero_map) (records_of book)) ≡ 0
    none_refused = sym (zero-add _) ∙ sym adds.refused ∙ accepted.all

    all : es ≡ events_of book
    all = all_accepted (λ (s : List ℕ). not (is_sheet s)) (starting empty_ledger zero_map) (records_of book) none_refused

    sheets : accepted_sheets (starting empty_ledger zero_map) (records_of book) ≡ sheets_of book
    sheets = all_accepted is_sheet (starting empty_ledger zero_map) (records_of book) none_refused
