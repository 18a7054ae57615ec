-- Calls go on from one to the next: the words that an accepted call leaves hold the very ledger that the call behind it handed back, for that ledger's
-- numbers fit the words again. Assumes nothing.
use Prim.Native.Nat.{ℕ, ◌+◌, ◌≤◌}
use mathlib.Core.Path.{◌≡◌, refl, ap, ◌∙◌, subst⁻¹}
use mathlib.Core.Logic.{◌⊎◌, inl, inr}
use mathlib.Core.List.{List, [], ◌∷◌}
use mathlib.Core.Bool.{Bool, true, false, ◌&&◌, not, cond}
use lib.ListN.{length, get_or}
use lib.Dec.{leb, eqb}
use native.Mathlib.Omega.{arith}
use borrow.Author.Tests.{eqb-true, eqb-false, leb-true, not-false}
use Rattle.base.proofs.TestLaws.{Tested, holds, fails, test, and_left, and_right, or_right}
use Rattle.wire.specs.Frame.{kind_of}
use Rattle.wire.specs.Cut.{records_of}
use Rattle.codes.specs.Codes as codes
use Rattle.codes.specs.Ranges.{most_events, most_customers}
use Rattle.annex.specs.Times.{is_short}
use Rattle.annex.specs.Simple.{simple_figures}
use Rattle.annex.specs.Stepped.{last_time, stepped_figures}
use Rattle.used_numbers.specs.Marks.{map_size}
use Rattle.fields.specs.Fields.{sheet_in, head_in, simple_in, steps_in}
use Rattle.fields.specs.declared.Sheet.{Sheet}
use Rattle.fields.specs.Tests.{in_range}
use Rattle.verdict.specs.Verdict.{Verdict, sheet_verdict, event_verdict}
use Rattle.record.specs.Verdict.{accepted_at, verdict_of}
use Rattle.ledger.specs.declared.Ledger.{Ledger}
use Rattle.ledger.specs.Ledger.{empty_ledger, added}
use Rattle.ledger.specs.Sound.{sound_ledger}
use Rattle.ledger.specs.Take.{unsound, answer_of, ledger_after}
use Rattle.ledger.proofs.CellLaws.{added_shaped, empty_shaped}
use Rattle.ledger.proofs.LedgerLaws.{sound_short}
use Rattle.ledger.proofs.TakeLaws.{accepted_sound, accepted_verdict, accepted_adds, refused_hands_back}
use Rattle.ledger.proofs.SoundLaws.{verdict_fits}
use Rattle.book.specs.Book.{Read}
use Rattle.book.specs.Book.{BookState, starting, take_record, take_all, read_of}
use Rattle.book.proofs.RunLaws.{read_nothing, read_through}
use Rattle.slot.specs.declared.Slot.{Slot}
use Rattle.desk_rules.specs.Rules.{look_at}
use Rattle.desk_rules.specs.Plan.{ledger_closed}
use Rattle.desk_rules.specs.Serve.{message_answer, ledger_served}
use Rattle.desk_rules.proofs.MessageLaws.{close_right, opened, stepped, closed, refused_same, accepted_kind}
use Rattle.c_words.specs.Words.{words_fit, ledger_in, words_of, Fitting}
use Rattle.c_words.proofs.WordsBack.{words_back, held_fits}
use Rattle.c_words.proofs.LentLaws.{accepted_is}
use Rattle.temelyak.specs.Calls.{is_pair, empty_answer, empty_words, take_answer, take_words, book_answer, book_words, serve_answer, serve_words, Holds}
use Rattle.temelyak.proofs.CallLaws.{behind_accepts, into_accepts}

-- ---- a sheet's numbers

-- a sheet whose numbers fit
pub record SheetFits (s : Sheet) : Type 0 where
  pub year : s.year ≤ 65535
  pub levels : length s.totals ≡ codes.levels
  pub nn : get_or s.totals 0 0 ≤ 4294967295
  pub vn : get_or s.totals 1 0 ≤ 4294967295
  pub vvn : get_or s.totals 2 0 ≤ 4294967295

sheet_of_lem : (l : Ledger) → Fitting l → SheetFits l.sheet
sheet_of_lem l f = record { year = f.year; levels = f.totals; nn = f.nn; vn = f.vn; vvn = f.vvn }

in_range_fits : (s : Sheet) → length s.totals ≡ codes.levels → in_range s ≡ true → SheetFits s
in_range_fits s n e =
    let low = leb 2000 s.year in
    let high = leb s.year 2099 in
    let a = leb (get_or s.totals 0 0) most_customers in
    let b = leb (get_or s.totals 1 0) most_customers in
    let c = leb (get_or s.totals 2 0) most_customers in
    let e₃ = and_left (low && high && a && b) c e in
    let e₂ = and_left (low && high && a) b e₃ in
    let e₁ = and_left (low && high) a e₂ in
    record {
      year = omega (arith, leb-true s.year 2099 (and_right low high e₁));
      levels = n;
      nn = omega (arith, leb-true (get_or s.totals 0 0) most_customers (and_right (low && high) a e₂));
      vn = omega (arith, leb-true (get_or s.totals 1 0) most_customers (and_right (low && high && a) b e₃));
      vvn = omega (arith, leb-true (get_or s.totals 2 0) most_customers (and_right (low && high && a && b) c e));
    }

-- what a verdict adds, where its sheet fits and there is room
added_fits : (l : Ledger) (v : Verdict) → Fitting l → SheetFits v.sheet → l.events + v.events ≤ most_events → l.short + v.short ≤ most_events → Fitting (added l v)
unfolding added
added_fits l v f s events short =
    record {
      year = s.year;
      totals = s.levels;
      nn = s.nn;
      vn = s.vn;
      vvn = s.vvn;
      events = events;
      short = short;
      shaped = added_shaped l v f.shaped;
    }

-- ---- the ledgers that are handed back

sound_of : (l : Ledger) (m : List ℕ) → unsound l m ≡ false → sound_ledger l ≡ true
sound_of l m u = not-false (sound_ledger l) (or_right (not (eqb (length m) map_size)) (not (sound_ledger l)) u)

-- an accepted record's sheet is the ledger's or its own, with three totals either way
pick : (a b : Bool) (x y z : Verdict) → length x.sheet.totals ≡ codes.levels → length y.sheet.totals ≡ codes.levels → length z.sheet.totals ≡ codes.levels → length (cond a x (cond b y z)).sheet.totals ≡ codes.levels
pick true b x y z h i j = h
pick false true x y z h i j = i
pick false false x y z h i j = j

three_totals : (kind : ℕ) (s : List ℕ) (sheet : Sheet) → length sheet.totals ≡ codes.levels → length (accepted_at kind s sheet).sheet.totals ≡ codes.levels
unfolding event_verdict
three_totals kind s sheet n =
    pick (eqb kind 1) (eqb kind 2) (sheet_verdict (sheet_in s))
    (event_verdict sheet (head_in s) (simple_in s).t3 (simple_figures (simple_in s)))
    (event_verdict sheet (head_in s) (last_time (head_in s).t0 (steps_in s)) (stepped_figures (head_in s).t0 (steps_in s)))
    refl n n

module _ (l : Ledger) (m s : List ℕ) (f : Fitting l) where
  abbrev verdict : Verdict
  verdict = verdict_of s l.sheet m l.events

  accepted_fits : answer_of l m s ≡ 0 → Fitting (added l verdict)
  accepted_fits a =
      let sound = sound_of l m (accepted_sound l m s a) in
      let fair = (verdict_fits l m s sound).fair in
      let levels : length verdict.sheet.totals ≡ codes.levels = ap (λ (v : Verdict). length v.sheet.totals) (accepted_verdict l m s a) ∙ three_totals (kind_of s) s l.sheet f.totals in
      added_fits l verdict f (go levels fair.goes_on) fair.room (omega (arith, sound_short l sound, fair.short, fair.room))
    where
      go : length verdict.sheet.totals ≡ codes.levels →
          ((verdict.sheet ≡ l.sheet) × ((l.sheet.there ≡ true) ⊎ (verdict.events ≡ 0))) ⊎ ((l.sheet.there ≡ false) × (verdict.sheet.there ≡ true) × (in_range verdict.sheet ≡ true) × (verdict.events ≡ 0)) →
          SheetFits verdict.sheet
      go n (inl (same, still)) = subst⁻¹ SheetFits same (sheet_of_lem l f)
      go n (inr (none, there, range, still)) = in_range_fits verdict.sheet n range

  -- a ledger that fits the words fits them after a record, and so it does after a book and after a message
  pub taken_fits : Fitting (ledger_after l m s)
  taken_fits = go (test (eqb (answer_of l m s) 0))
    where
      go : Tested (eqb (answer_of l m s) 0) → Fitting (ledger_after l m s)
      go (holds e) = let a : answer_of l m s ≡ 0 = eqb-true (answer_of l m s) 0 e in subst⁻¹ Fitting (accepted_adds l m s a).0 (accepted_fits a)
      go (fails e) = subst⁻¹ Fitting (refused_hands_back l m s (eqb-false (answer_of l m s) 0 e)).0 f

record_fits : (st : BookState) (s : List ℕ) → Fitting st.ledger → Fitting (take_record st s).ledger
unfolding take_record
record_fits st s f = taken_fits st.ledger st.map s f

run_fits : (st : BookState) (ss : List (List ℕ)) → Fitting st.ledger → Fitting (take_all st ss).ledger
run_fits st [] f = f
run_fits st (s ∷ ss) f = run_fits (take_record st s) ss (record_fits st s f)

pub read_fits : (l : Ledger) (m b : List ℕ) → Fitting l → Fitting (read_of l m b).ledger
read_fits l m b f = go (test (unsound l m))
  where
    go : Tested (unsound l m) → Fitting (read_of l m b).ledger
    go (holds u) = subst⁻¹ (λ (r : Read). Fitting r.ledger) (read_nothing l m b u).0 f
    go (fails u) = subst⁻¹ (λ (r : Read). Fitting r.ledger) (read_through l m b u).0 (run_fits (starting l m) (records_of b) f)

one_at_most : (t : Bool) → cond t 1 0 ≤ 1
one_at_most true = omega arith
one_at_most false = omega arith

module _ (l : Ledger) (m : List ℕ) (d : List Slot) (s : List ℕ) (f : Fitting l) where
  closed_fits : message_answer l m d s ≡ 0 → kind_of s ≡ 18 → Fitting (ledger_closed (look_at d s) l)
  unfolding event_verdict
  closed_fits a k =
      let c = close_right l m d s a k in
      let slot = (look_at d s).slot in
      let short = sound_short l (sound_of l m c.ledger_sound) in
      added_fits l (event_verdict l.sheet slot.head slot.last slot.figures) f (sheet_of_lem l f) (omega (arith, c.room)) (omega (arith, c.room, short, one_at_most (is_short slot.head.t0 slot.last)))

  pub served_fits : Fitting (ledger_served l m d s)
  served_fits = go (test (eqb (message_answer l m d s) 0))
    where
      by_kind : message_answer l m d s ≡ 0 → (kind_of s ≡ 16) ⊎ ((kind_of s ≡ 17) ⊎ (kind_of s ≡ 18)) → Fitting (ledger_served l m d s)
      by_kind a (inl k) = subst⁻¹ Fitting (opened l m d s a k).ledger f
      by_kind a (inr (inl k)) = subst⁻¹ Fitting (stepped l m d s a k).ledger f
      by_kind a (inr (inr k)) = subst⁻¹ Fitting (closed l m d s a k).ledger (closed_fits a k)

      go : Tested (eqb (message_answer l m d s) 0) → Fitting (ledger_served l m d s)
      go (holds e) = let a : message_answer l m d s ≡ 0 = eqb-true (message_answer l m d s) 0 e in by_kind a (accepted_kind l m d s a)
      go (fails e) = subst⁻¹ Fitting (refused_same l m d s (eqb-false (message_answer l m d s) 0 e)).0 f

-- ---- the words that an accepted call leaves

written_holds : (us : List ℕ) (l : Ledger) → Fitting l → us ≡ words_of l → Holds us l
written_holds us l f e = subst⁻¹ (λ us. Holds us l) e (words_back l f)

-- where a call answers 0, the words that it leaves fit, and hold the ledger that the call behind it hands back
pub empty_goes_on : (header : ℕ) (ws : List ℕ) → empty_answer header ws ≡ 0 → Holds (empty_words header ws) empty_ledger
unfolding empty_words
empty_goes_on header ws a =
    let none : Fitting empty_ledger = record { year = omega arith; totals = refl; nn = omega arith; vn = omega arith; vvn = omega arith; events = omega arith; short = omega arith; shaped = empty_shaped } in
    written_holds (empty_words header ws) empty_ledger none (accepted_is (empty_answer header ws) (words_of empty_ledger) ws a)

pub take_goes_on : (header : ℕ) (ws m s : List ℕ) → take_answer header ws m s ≡ 0 → Holds (take_words header ws m s) (ledger_after (ledger_in ws) m s)
unfolding take_words take_answer
take_goes_on header ws m s a =
    let behind = behind_accepts header (words_fit ws) (answer_of (ledger_in ws) m s) a in
    written_holds (take_words header ws m s) (ledger_after (ledger_in ws) m s) (taken_fits (ledger_in ws) m s (held_fits ws behind.1))
    (accepted_is (take_answer header ws m s) (words_of (ledger_after (ledger_in ws) m s)) ws a)

pub book_goes_on : (header : ℕ) (ws m b out : List ℕ) → book_answer header ws m b out ≡ 0 → Holds (book_words header ws m b out) (read_of (ledger_in ws) m b).ledger
unfolding book_words book_answer
book_goes_on header ws m b out a =
    let behind = into_accepts header (is_pair out) (words_fit ws) (read_of (ledger_in ws) m b).answer a in
    written_holds (book_words header ws m b out) (read_of (ledger_in ws) m b).ledger (read_fits (ledger_in ws) m b (held_fits ws behind.2))
    (accepted_is (book_answer header ws m b out) (words_of (read_of (ledger_in ws) m b).ledger) ws a)

pub serve_goes_on : (header : ℕ) (ws m : List ℕ) (d : List Slot) (s : List ℕ) → serve_answer header ws m d s ≡ 0 → Holds (serve_words header ws m d s) (ledger_served (ledger_in ws) m d s)
unfolding serve_words serve_answer
serve_goes_on header ws m d s a =
    let behind = behind_accepts header (words_fit ws) (message_answer (ledger_in ws) m d s) a in
    written_holds (serve_words header ws m d s) (ledger_served (ledger_in ws) m d s) (served_fits (ledger_in ws) m d s (held_fits ws behind.1))
    (accepted_is (serve_answer header ws m d s) (words_of (ledger_served (ledger_in ws) m d s)) ws a)
