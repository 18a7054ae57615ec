-- The annex's sums over a day: where records are all accepted one after the other, the sums are over all their events; and a day that leaves nothing open is its
-- complete records so taken (`day_in_records`). Assumes nothing.
use Prim.Native.Nat.{ℕ, ◌+◌, ◌<◌}
use mathlib.Core.Path.{◌≡◌, sym, ap, ◌∙◌}
use mathlib.Core.List.{List}
use mathlib.Core.Bool.{not}
use lib.ListN.{length}
use native.Mathlib.Nat.{zero-add}
use Rattle.base.specs.Lists.{All, keep, Bytes}
use Rattle.codes.specs.Codes.{rows, levels}
use Rattle.annex.specs.Figure.{Figure}
use Rattle.ledger.specs.declared.Ledger.{Ledger}
use Rattle.ledger.specs.Ledger.{held_in, Shaped}
use Rattle.book.specs.Book.{BookState, starting, take_all}
use Rattle.law_sums.specs.Accepted as sums
use Rattle.law_sums.specs.Theorem.{refused_ones, Adds}
use Rattle.law_sums.proofs.AnnexTheorem.{adds_exactly, all_accepted}
use Rattle.desk_days.specs.Day.{State, Arrival, bytes_of, after_all}
use Rattle.desk_days.specs.Story.{empty_day, NothingOpen}
use Rattle.desk_days.proofs.StepByStep.{day_in_records}
use Rattle.desk_sums.specs.Sums.{complete_of, events_in, DayAdds}

-- records that are all accepted
module _
    (l : Ledger)
    (m : List ℕ)
    (ss : List (List ℕ))
    (end : State)
    (shaped : Shaped l)
    (day : take_all (starting l m) ss ≡ record { ledger = end.ledger; map = end.map; refused = 0 })
  where
    adds : Adds (starting l m) ss
    adds = adds_exactly (starting l m) ss shaped

    none_refused : length (refused_ones (starting l m) ss) ≡ 0
    none_refused = sym (zero-add _) ∙ sym adds.refused ∙ ap (λ (st : BookState). st.refused) day

    taken : sums.accepted_events (starting l m) ss ≡ events_in ss
    taken = all_accepted (λ (s : List ℕ). not (sums.is_sheet s)) (starting l m) ss none_refused

    sheets : sums.accepted_sheets (starting l m) ss ≡ keep sums.is_sheet ss
    sheets = all_accepted sums.is_sheet (starting l m) ss none_refused

    -- each cell grows by the annex's sum over the records' events, and events and short events by how many of them there are;
    -- the sheet is the one there, or else that of the first sheet record, and the events' numbers are marked
    pub all_cells : (x : Figure) (row h : ℕ) → row < rows → h < levels → held_in x end.ledger row h ≡ held_in x l row h + sums.sum_of x row h (events_in ss)
    all_cells x row h r c =
        ap (λ (st : BookState). held_in x st.ledger row h) (sym day) ∙
        adds.cells x row h r c ∙
        ap (λ (es : List (List ℕ)). held_in x l row h + sums.sum_of x row h es) taken

    pub all_counted : end.ledger.events ≡ l.events + length (events_in ss)
    all_counted =
        ap (λ (st : BookState). st.ledger.events) (sym day) ∙ adds.events ∙ ap (λ (es : List (List ℕ)). l.events + length es) taken

    pub all_short : end.ledger.short ≡ l.short + length (sums.short_ones (events_in ss))
    all_short =
        ap (λ (st : BookState). st.ledger.short) (sym day) ∙
        adds.short ∙
        ap (λ (es : List (List ℕ)). l.short + length (sums.short_ones es)) taken

    pub all_sheet : end.ledger.sheet ≡ sums.sheet_by l.sheet (keep sums.is_sheet ss)
    all_sheet = ap (λ (st : BookState). st.ledger.sheet) (sym day) ∙ adds.sheet ∙ ap (sums.sheet_by l.sheet) sheets

    pub all_marks : end.map ≡ sums.all_marked m (events_in ss)
    all_marks = ap (λ (st : BookState). st.map) (sym day) ∙ adds.map ∙ ap (sums.all_marked m) taken

module _
    (l : Ledger)
    (m : List ℕ)
    (as' : List Arrival)
    (shaped : Shaped l)
    (bytes : All (λ (a : Arrival). Bytes (bytes_of a)) as')
    (free : NothingOpen (after_all (empty_day l m) as').desk)
  where
    abbrev end : State
    end = after_all (empty_day l m) as'

    abbrev complete : List (List ℕ)
    complete = complete_of l m as'

    day : take_all (starting l m) complete ≡ record { ledger = end.ledger; map = end.map; refused = 0 }
    day = day_in_records l m as' bytes free

    -- from an empty desk, arrivals of bytes that leave nothing open add the annex's sums over the events of the day's complete records
    pub day_adds : DayAdds l m as'
    day_adds =
        record {
          cells = all_cells l m complete end shaped day;
          events = all_counted l m complete end shaped day;
          short = all_short l m complete end shaped day;
          sheet = all_sheet l m complete end shaped day;
          map = all_marks l m complete end shaped day;
        }
