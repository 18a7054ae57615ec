-- The theorem *the desk adds exactly the annex*: a day that leaves nothing open is its closed outages taken as complete records (`step_by_step`), these are
-- all accepted and add the annex's sums (`adds_exactly`), and each tells the very outage that was built up (`closed_told`). Assumes nothing.
use Prim.Native.Nat.{ℕ, ◌+◌, ◌<◌}
use mathlib.Core.Path.{◌≡◌, refl, ap, ◌∙◌}
use mathlib.Core.List.{List, [], ◌∷◌, map, foldl}
use mathlib.Core.Bool.{Bool, true, false, ◌&&◌, not, cond}
use lib.ListN.{length}
use lib.Dec.{eqb}
use native.Mathlib.Omega.{arith}
use Rattle.base.specs.Lists.{All, sum, keep, Bytes}
use Rattle.base.proofs.ListLaws.{all_kept}
use Rattle.codes.specs.Codes.{rows, levels, row_of}
use Rattle.annex.specs.Annex.{njhtjh2, short_event}
use Rattle.annex.specs.Figure.{Figure, Halves, given}
use Rattle.used_numbers.specs.Marks.{marked_with}
use Rattle.ledger.specs.declared.Ledger.{Ledger}
use Rattle.ledger.specs.Ledger.{held_in, Shaped}
use Rattle.book.specs.Book.{starting, take_all}
use Rattle.law_sums.specs.Accepted as sums
use Rattle.law_people.specs.People.{halves_of_all}
use Rattle.law_people.proofs.PeopleLaws.{by_customer}
use Rattle.desk_days.specs.Day.{message}
use Rattle.desk_days.specs.Story.{SteppedEvent, stepped_event_in, event_for, closings, record_of, NothingOpen}
use Rattle.desk_days.proofs.StepByStep.{step_by_step, closed_told, message_bytes}
use Rattle.desk_sums.specs.Sums.{end_of, deeds_of, closed_events, told, counted_in, short_ones, sum_of, AllAgree, with_number, DeskAdds, events_in}
use Rattle.desk_sums.proofs.DayLaws.{all_cells, all_counted, all_short, all_sheet, all_marks}

-- outages and the records that tell them
module _ (f : ℕ → SteppedEvent) where
  abbrev Tells : ℕ → Type 0
  Tells v = stepped_event_in (record_of (f v)) ≡ f v

  abbrev records : List ℕ → List (List ℕ)
  records vs = map (λ (v : ℕ). record_of (f v)) vs

  -- they are events, and no sheets
  all_events : (vs : List ℕ) → events_in (records vs) ≡ records vs
  all_events [] = refl
  all_events (v ∷ vs) = ap (λ (rs : List (List ℕ)). record_of (f v) ∷ rs) (all_events vs)

  no_sheets : (vs : List ℕ) → keep sums.is_sheet (records vs) ≡ []
  no_sheets [] = refl
  no_sheets (v ∷ vs) = no_sheets vs

  same_length : (vs : List ℕ) → length (records vs) ≡ length (map f vs)
  same_length [] = refl
  same_length (v ∷ vs) = omega (arith, same_length vs)

  same_marks : (m vs : List ℕ) → All Tells vs → foldl sums.with_number m (records vs) ≡ foldl with_number m (map f vs)
  same_marks m [] t = refl
  same_marks m (v ∷ vs) t =
      ap (λ (e : SteppedEvent). foldl sums.with_number (marked_with m e.head.number) (records vs)) t.0 ∙
      same_marks (with_number m (f v)) vs t.1

  same_sums : (x : Figure) (row h : ℕ) (vs : List ℕ) → All Tells vs → sums.sum_of x row h (records vs) ≡ sum_of x row h (map f vs)
  same_sums x row h [] t = refl
  same_sums x row h (v ∷ vs) t =
      go (counts (stepped_event_in (record_of (f v)))) (same_sums x row h vs t.1) ∙
      ap (λ (b : Bool). total (cond b (f v ∷ counted_in row (map f vs)) (counted_in row (map f vs)))) (ap counts t.0)
    where
      counts : SteppedEvent → Bool
      counts e = eqb (row_of e.head.typ) row && not (short_event (told e))

      total : List SteppedEvent → ℕ
      total es = sum (map (λ (e : SteppedEvent). given x h (told e)) es)

      taken : List (List ℕ) → ℕ
      taken ss = sum (map (λ (s : List ℕ). given x h (sums.event_in s)) ss)

      go :
          (b : Bool) →
          taken (sums.counted_in row (records vs)) ≡ total (counted_in row (map f vs)) →
          taken (cond b (record_of (f v) ∷ sums.counted_in row (records vs)) (sums.counted_in row (records vs))) ≡
          total (cond b (f v ∷ counted_in row (map f vs)) (counted_in row (map f vs)))
      go true e = λ i. given x h (told (t.0 i)) + e i
      go false e = e

  same_short : (vs : List ℕ) → All Tells vs → length (sums.short_ones (records vs)) ≡ length (short_ones (map f vs))
  same_short [] t = refl
  same_short (v ∷ vs) t =
      go (short_event (told (stepped_event_in (record_of (f v))))) (same_short vs t.1) ∙
      ap (λ (b : Bool). length (cond b (f v ∷ short_ones (map f vs)) (short_ones (map f vs)))) (ap (λ (e : SteppedEvent). short_event (told e)) t.0)
    where
      go :
          (b : Bool) →
          length (sums.short_ones (records vs)) ≡ length (short_ones (map f vs)) →
          length (cond b (record_of (f v) ∷ sums.short_ones (records vs)) (sums.short_ones (records vs))) ≡
          length (cond b (f v ∷ short_ones (map f vs)) (short_ones (map f vs)))
      go true e = omega (arith, e)
      go false e = e

-- half customer-minutes are twice the minutes of the customers, outage by outage
customers_sum :
    (h : ℕ) (customers : SteppedEvent → List (List Bool)) (es : List SteppedEvent) →
    AllAgree h customers es →
    sum (map (λ (e : SteppedEvent). njhtjh2 h (told e)) es) ≡
    sum (map (λ (e : SteppedEvent). halves_of_all e.head.t0 e.steps (customers e)) es)
customers_sum h customers [] a = refl
customers_sum h customers (e ∷ es) a =
    λ i. by_customer h e.head.t0 e.steps (customers e) a.0 i + customers_sum h customers es a.1 i

module _
    (l : Ledger)
    (m : List ℕ)
    (rs : List (List ℕ))
    (shaped : Shaped l)
    (bytes : All Bytes rs)
    (free : NothingOpen (end_of l m rs).desk)
  where
    abbrev vs : List ℕ
    vs = closings (deeds_of l m rs)

    abbrev outage : ℕ → SteppedEvent
    outage = event_for (deeds_of l m rs)

    abbrev closed : List (List ℕ)
    closed = records outage vs

    day : take_all (starting l m) closed ≡ record { ledger = (end_of l m rs).ledger; map = (end_of l m rs).map; refused = 0 }
    day = step_by_step l m rs bytes free

    tells : All (Tells outage) vs
    tells = go vs (closed_told l m (map message rs) (message_bytes rs bytes))
      where
        go :
            (vs : List ℕ) →
            All (λ (v : ℕ). Bytes (record_of (outage v)) × (stepped_event_in (record_of (outage v)) ≡ outage v)) vs →
            All (Tells outage) vs
        go [] a = tt
        go (v ∷ vs) a = (a.0.1, go vs a.1)

    events : events_in closed ≡ closed
    events = all_events outage vs

    grown : (x : Figure) (row h : ℕ) → row < rows → h < levels → held_in x (end_of l m rs).ledger row h ≡ held_in x l row h + sum_of x row h (closed_events l m rs)
    grown x row h r c =
        all_cells l m closed (end_of l m rs) shaped day x row h r c ∙
        ap (λ (n : ℕ). held_in x l row h + n) (ap (sums.sum_of x row h) events ∙ same_sums outage x row h vs tells)

    -- from an empty desk, messages of bytes that leave nothing open add the annex's sums over the closed outages
    pub desk_adds : DeskAdds l m rs
    desk_adds =
        record {
          cells = grown;
          customers =
              λ row h r c customers agree.
              grown Halves row h r c ∙
              ap (λ (n : ℕ). held_in Halves l row h + n)
              (customers_sum h customers (counted_in row (closed_events l m rs)) (all_kept _ _ (closed_events l m rs) agree));
          events =
              all_counted l m closed (end_of l m rs) shaped day ∙
              ap (λ (n : ℕ). l.events + n) (ap length events ∙ same_length outage vs);
          short =
              all_short l m closed (end_of l m rs) shaped day ∙
              ap (λ (n : ℕ). l.short + n) (ap (λ (es : List (List ℕ)). length (sums.short_ones es)) events ∙ same_short outage vs tells);
          sheet = all_sheet l m closed (end_of l m rs) shaped day ∙ ap (sums.sheet_by l.sheet) (no_sheets outage vs);
          map = all_marks l m closed (end_of l m rs) shaped day ∙ ap (sums.all_marked m) events ∙ same_marks outage m vs tells;
        }
