-- Where a level has no customers, none of an accepted book's events interrupts any: a count above the level's customers is refused (11), and the sheet is
-- the same from the first event on. Assumes nothing.
use Prim.Native.Nat.{ℕ, ◌+◌, ◌<◌, ◌≤◌}
use mathlib.Core.Path.{◌≡◌, refl, sym, ap, subst, ◌∙◌}
use mathlib.Core.Logic.{◌⊎◌, inl, inr, ⊎_elim}
use mathlib.Core.List.{List, [], ◌∷◌, map}
use mathlib.Core.Bool.{true, false, ◌&&◌, ◌||◌, not, cond, true≢false}
use lib.ListN.{length, get_or}
use lib.Dec.{eqb, ltb}
use native.Mathlib.Omega.{arith}
use borrow.Author.Tests.{eqb-true, eqb-false, eq-eqb, ltb-false, not-false}
use Rattle.base.specs.Lists.{All, any, largest, sum}
use Rattle.base.proofs.ChainLaws.{each_fails}
use Rattle.base.proofs.TestLaws.{Tested, holds, fails, test, or_left, or_right}
use Rattle.base.proofs.SumLaws.{sum_none}
use Rattle.wire.specs.Frame.{kind_of}
use Rattle.wire.specs.Cut.{records_of}
use Rattle.codes.specs.declared.Set.{Set}
use Rattle.codes.specs.Codes.{levels}
use Rattle.annex.specs.declared.Simple.{Simple}
use Rattle.annex.specs.declared.Step.{Step}
use Rattle.annex.specs.Annex.{Event, simple, stepped, counts_of, weighed, njh, njhtjh2}
use Rattle.annex.specs.Figure.{Figure, Off, Halves, given}
use Rattle.annex.proofs.FoldLaws.{each_level_lem}
use Rattle.used_numbers.specs.Marks.{map_size}
use Rattle.fields.specs.declared.Sheet.{Sheet}
use Rattle.fields.specs.Fields.{head_in, simple_in, steps_in}
use Rattle.limits.specs.Limits.{exceeding}
use Rattle.record.specs.Rules.{sheet_missing_or_second, count_too_large}
use Rattle.record.proofs.FairLaws.{kind_taken}
use Rattle.ledger.specs.declared.Ledger.{Ledger}
use Rattle.ledger.specs.Ledger.{empty_ledger, added}
use Rattle.ledger.specs.Sound.{sound_ledger}
use Rattle.ledger.specs.Take.{answer_of, ledger_after}
use Rattle.ledger.proofs.TakeLaws.{accepted_sound, accepted_adds, refused_hands_back}
use Rattle.ledger.proofs.SoundLaws.{verdict_fits}
use Rattle.ledger.proofs.ExactlyThen.{accepted_rules}
use Rattle.book.specs.Book.{BookState, starting, take_record, take_all}
use Rattle.law_sums.specs.Accepted.{zero_map, Accepted, event_in, accepted_events}
use Rattle.law_sums.specs.Theorem.{events_of, book_ledger}
use Rattle.law_sums.proofs.AnnexTheorem.{accepted_book_adds}
use Rattle.index.specs.declared.Level.{Level}
use Rattle.index.specs.declared.Level.TheVariants.{NN, VN, VVN, Network}
use Rattle.index.specs.Sums.{customers_of}
use Rattle.law_adding.specs.Parts.{types_in, counted, events_hold}
use Rattle.law_adding.specs.Adding.{TotalsAre, NobodyOff}

-- ---- one event

each_figure : (P : Figure → Type 0) → P Off → P Halves → (x : Figure) → P x
each_figure P p q Off = p
each_figure P p q Halves = q

-- an event interrupts nobody of level h
abbrev None : ℕ → Event → Type 0
None h e = (x : Figure) → given x h e ≡ 0

module _ (totals : List ℕ) (h : ℕ) (b : h < levels) (z : get_or totals h 0 ≡ 0) where
  -- counts that do not exceed the levels' customers
  no_count : (counts : List ℕ) → exceeding totals counts ≡ false → get_or counts h 0 ≡ 0
  no_count counts e = let l : get_or counts h 0 ≤ get_or totals h 0 = within h b in omega arith
    where
      k : All (λ b. b ≡ false) (ltb (get_or totals 0 0) (get_or counts 0 0) ∷ ltb (get_or totals 1 0) (get_or counts 1 0) ∷ ltb (get_or totals 2 0) (get_or counts 2 0) ∷ [])
      k =
          each_fails
          (ltb (get_or totals 0 0) (get_or counts 0 0))
          (ltb (get_or totals 1 0) (get_or counts 1 0) ∷ ltb (get_or totals 2 0) (get_or counts 2 0) ∷ [])
          e

      within : (h : ℕ) → h < levels → get_or counts h 0 ≤ get_or totals h 0
      within =
          each_level_lem (λ h. get_or counts h 0 ≤ get_or totals h 0) (ltb-false _ _ k.0) (ltb-false _ _ k.1.0) (ltb-false _ _ k.1.1.0)

  simple_none : (e : Simple) → (exceeding totals e.n1 || exceeding totals e.n2) ≡ false → None h (simple e)
  unfolding njh njhtjh2
  simple_none e c =
      let first : get_or e.n1 h 0 ≡ 0 = no_count e.n1 (or_left (exceeding totals e.n1) (exceeding totals e.n2) c) in
      let second : get_or e.n2 h 0 ≡ 0 = no_count e.n2 (or_right (exceeding totals e.n1) (exceeding totals e.n2) c) in
      each_figure (λ x. given x h (simple e) ≡ 0) first (rw (first, second) (omega arith))

  steps_none :
      (ss : List Step) →
      any (λ (st : Step). exceeding totals st.counts) ss ≡ false →
      (largest (counts_of h ss) ≡ 0) × ((before : ℕ) → weighed h before ss ≡ 0)
  steps_none [] c = (refl, λ before. refl)
  steps_none (st ∷ ss) c =
      let rest = any (λ (st : Step). exceeding totals st.counts) ss in
      let here : get_or st.counts h 0 ≡ 0 = no_count st.counts (or_left (exceeding totals st.counts) rest c) in
      let later = steps_none ss (or_right (exceeding totals st.counts) rest c) in
      (omega (arith, here, later.0), λ before. rw here (omega (arith, later.1 st.time)))

  stepped_none : (t0 : ℕ) (ss : List Step) → any (λ (st : Step). exceeding totals st.counts) ss ≡ false → None h (stepped t0 ss)
  unfolding njh njhtjh2
  stepped_none t0 ss c = let n = steps_none ss c in each_figure (λ x. given x h (stepped t0 ss) ≡ 0) n.0 (omega (arith, n.1 t0))

-- an accepted event has a sheet, and interrupts nobody of a level without customers
module _ (l : Ledger) (m s : List ℕ) (a : answer_of l m s ≡ 0) (k : eqb (kind_of s) 1 ≡ false) where
  by_kind : (P : Type 0) → (kind_of s ≡ 2 → P) → (kind_of s ≡ 3 → P) → P
  by_kind P two three = go (kind_taken (kind_of s) (accepted_rules l m s a 3))
    where
      go : (kind_of s ≡ 1) ⊎ ((kind_of s ≡ 2) ⊎ (kind_of s ≡ 3)) → P
      go (inl e) = absurd (true≢false (sym (eq-eqb (kind_of s) 1 e) ∙ k))
      go (inr (inl e)) = two e
      go (inr (inr e)) = three e

  sheet_there : l.sheet.there ≡ true
  sheet_there =
      by_kind (l.sheet.there ≡ true)
      (λ e. not-false l.sheet.there (subst (λ n. sheet_missing_or_second n l.sheet ≡ false) e missing))
      (λ e. not-false l.sheet.there (subst (λ n. sheet_missing_or_second n l.sheet ≡ false) e missing))
    where
      missing : sheet_missing_or_second (kind_of s) l.sheet ≡ false
      missing = accepted_rules l m s a 5

  event_none : (h : ℕ) → h < levels → get_or l.sheet.totals h 0 ≡ 0 → None h (event_in s)
  event_none h b z =
      by_kind (None h (event_in s))
      (λ e.
      subst (λ n. None h (event n)) (sym e)
      (simple_none l.sheet.totals h b z (simple_in s) (subst (λ n. count_too_large n s l.sheet ≡ false) e large)))
      (λ e.
      subst (λ n. None h (event n)) (sym e)
      (stepped_none l.sheet.totals h b z (head_in s).t0 (steps_in s) (subst (λ n. count_too_large n s l.sheet ≡ false) e large)))
    where
      event : ℕ → Event
      event kind = cond (eqb kind 2) (simple (simple_in s)) (stepped (head_in s).t0 (steps_in s))

      large : count_too_large (kind_of s) s l.sheet ≡ false
      large = accepted_rules l m s a 11

-- ---- a book's events, under one sheet

-- a sheet that is there stays the same, by one record and by all
record_keeps : (l : Ledger) (m s : List ℕ) → l.sheet.there ≡ true → (ledger_after l m s).sheet ≡ l.sheet
unfolding added
record_keeps l m s t = go (test (eqb (answer_of l m s) 0))
  where
    go : Tested (eqb (answer_of l m s) 0) → (ledger_after l m s).sheet ≡ l.sheet
    go (holds e) =
        ⊎_elim
        (λ same. ap (λ (n : Ledger). n.sheet) (accepted_adds l m s a).0 ∙ same.0)
        (λ first. absurd (true≢false (sym t ∙ first.0)))
        (verdict_fits l m s sound).fair.goes_on
      where
        a : answer_of l m s ≡ 0
        a = eqb-true _ _ e

        sound : sound_ledger l ≡ true
        sound = not-false (sound_ledger l) (or_right (not (eqb (length m) map_size)) (not (sound_ledger l)) (accepted_sound l m s a))
    go (fails e) = ap (λ (n : Ledger). n.sheet) (refused_hands_back l m s (eqb-false _ _ e)).0

sheet_kept : (st : BookState) (ss : List (List ℕ)) → st.ledger.sheet.there ≡ true → (take_all st ss).ledger.sheet ≡ st.ledger.sheet
unfolding take_record
sheet_kept st [] t = refl
sheet_kept st (s ∷ ss) t =
    let one = record_keeps st.ledger st.map s t in
    sheet_kept (take_record st s) ss (ap (λ (sheet : Sheet). sheet.there) one ∙ t) ∙ one

-- of all the accepted events, by the customers of the last sheet
none_among :
    (h : ℕ) →
    h < levels →
    (st : BookState) (ss : List (List ℕ)) →
    get_or (take_all st ss).ledger.sheet.totals h 0 ≡ 0 →
    All (λ (s : List ℕ). None h (event_in s)) (accepted_events st ss)
none_among h b st [] z = tt
none_among h b st (s ∷ ss) z =
    go (test (eqb (answer_of st.ledger st.map s) 0)) (test (eqb (kind_of s) 1)) (none_among h b (take_record st s) ss z)
  where
    others : List (List ℕ)
    others = accepted_events (take_record st s) ss

    Nones : List (List ℕ) → Type 0
    Nones es = All (λ (s : List ℕ). None h (event_in s)) es

    go :
        Tested (eqb (answer_of st.ledger st.map s) 0) →
        Tested (eqb (kind_of s) 1) →
        Nones others →
        Nones (cond (eqb (answer_of st.ledger st.map s) 0 && not (eqb (kind_of s) 1)) (s ∷ others) others)
    go (fails e) k n = rw e n
    go (holds e) (holds k) n = rw (e, k) n
    go (holds e) (fails k) n =
        let a : answer_of st.ledger st.map s ≡ 0 = eqb-true _ _ e in
        let same = sheet_kept st (s ∷ ss) (sheet_there st.ledger st.map s a k) in
        rw (e, k) (
          event_none st.ledger st.map s a k h b (subst (λ (sheet : Sheet). get_or sheet.totals h 0 ≡ 0) same z),
          n,
        )

module _ (book : List ℕ) (accepted : Accepted book) where
  module _ (h : ℕ) (b : h < levels) (z : get_or (book_ledger book).sheet.totals h 0 ≡ 0) where
    nones : All (λ (s : List ℕ). None h (event_in s)) (events_of book)
    nones =
        subst (All (λ (s : List ℕ). None h (event_in s))) (accepted_book_adds book accepted).all
        (none_among h b (starting empty_ledger zero_map) (records_of book) z)

    none_given : (x : Figure) (ts : List ℕ) → sum (map (λ (s : List ℕ). given x h (event_in s)) (counted ts (events_of book))) ≡ 0
    none_given x ts = sum_none (λ (s : List ℕ). None h (event_in s)) (λ (s : List ℕ). given x h (event_in s)) _ (λ s n. n x) (events_of book) nones

  no_events_off :
      (x : Figure) (level : Level) (ts : List ℕ) → customers_of (book_ledger book).sheet.totals level ≡ 0 → events_hold x ts level (events_of book) ≡ 0
  no_events_off x NN ts z = none_given 0 (omega arith) z x ts
  no_events_off x VN ts z = none_given 1 (omega arith) z x ts
  no_events_off x VVN ts z = none_given 2 (omega arith) z x ts
  no_events_off x Network ts z =
      let nn : get_or (book_ledger book).sheet.totals 0 0 ≡ 0 = omega arith in
      let vn : get_or (book_ledger book).sheet.totals 1 0 ≡ 0 = omega arith in
      let vvn : get_or (book_ledger book).sheet.totals 2 0 ≡ 0 = omega arith in
      λ i. none_given 0 (omega arith) nn x ts i + none_given 1 (omega arith) vn x ts i + none_given 2 (omega arith) vvn x ts i

  -- where a level, or the network, has no customers, and the ledger's totals are the events' sums, nobody is interrupted
  pub none_off : (level : Level) (set : Set) → TotalsAre book level set → customers_of (book_ledger book).sheet.totals level ≡ 0 → NobodyOff (book_ledger book) level set
  none_off level set are z x = are x ∙ no_events_off x level (types_in set) z
