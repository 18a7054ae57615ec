-- How the loop over a book's records goes: the run of records' laws, with a ledger that stays sound and a map that keeps its size. Assumes nothing.
use Prim.Native.Nat.{ℕ, ◌+◌, ◌≤◌}
use mathlib.Core.Path.{◌≡◌, refl, sym, ap, ◌∙◌, subst, subst⁻¹, subst₃}
use mathlib.Core.List.{List}
use mathlib.Core.Bool.{Bool, true, false, cond, not}
use lib.ListN.{length}
use lib.Dec.{ltb, eqb}
use native.Mathlib.Omega.{arith}
use native.Mathlib.Nat.{add-zero}
use borrow.Author.Tests.{eq-eqb}
use Rattle.std.specs.Prelude.{Ok, Err}
use Rattle.base.proofs.TestLaws.{or_both}
use Rattle.wire.specs.declared.Place.TheVariants.{Record}
use Rattle.wire.specs.Book.{place_at, which_at, part_of}
use Rattle.wire.specs.Cut.{stop_from}
use Rattle.records.specs.Records.{one_if_refused, is_broken}
use Rattle.records.proofs.TakeLaws as all
use Rattle.records.proofs.TakeLaws.{one_at_most, refusal_counts}
use Rattle.records.proofs.RunLaws as run
use Rattle.codes.specs.Codes.{rows}
use Rattle.used_numbers.specs.Marks.{marked_with, map_size}
use Rattle.used_numbers.proofs.MarkLaws.{marked_with_zero, marked_with_size}
use Rattle.refusals.specs.declared.Refusal.{Refusal}
use Rattle.refusals.specs.Refusals.{number_of}
use Rattle.verdict.specs.declared.Accepted.{Accepted}
use Rattle.verdict.specs.Verdict.{Verdict, refused_with}
use Rattle.verdict.specs.Judged.{accepted_verdict, judged}
use Rattle.record.specs.Verdict.{verdict_of}
use Rattle.record.proofs.JudgeLaws.{verdict_answer}
use Rattle.ledger.specs.declared.Ledger.{Ledger}
use Rattle.ledger.specs.Ledger.{added}
use Rattle.ledger.specs.Sound.{sound_ledger}
use Rattle.ledger.specs.Inside.{Fits}
use Rattle.ledger.specs.Take.{unsound, answer_of}
use Rattle.ledger.proofs.CellLaws.{added_rows, added_refused}
use Rattle.ledger.proofs.LedgerLaws.{sound_kept}
use Rattle.ledger.proofs.TakeLaws.{take_judged, answer_judged}
use Rattle.ledger.proofs.SoundLaws.{verdict_fits}
use Rattle.book.specs.Book.{Pass, BookState, starting, take_record, after_book, pass_of, read_of, map_read}

-- a sound ledger with a map of the right size is not refused 1
pub sound_taken : (l : Ledger) (m : List ℕ) → sound_ledger l ≡ true → length m ≡ map_size → unsound l m ≡ false
sound_taken l m s z = or_both (not (eqb (length m) map_size)) (not (sound_ledger l)) (ap not (eq-eqb (length m) map_size z)) (ap not s)

-- the state after a record, by its verdict
pub record_judged :
    (l : Ledger) (m : List ℕ) (r : ℕ) (s : List ℕ) → unsound l m ≡ false →
    take_record (record { ledger = l; map = m; refused = r }) s ≡
    record {
      ledger = added l (verdict_of s l.sheet m l.events);
      map = marked_with m (verdict_of s l.sheet m l.events).number;
      refused = r + one_if_refused (verdict_of s l.sheet m l.events).answer;
    }
unfolding take_record
record_judged l m r s u =
    let t = take_judged l m s u in
    let a : answer_of l m s ≡ (verdict_of s l.sheet m l.events).answer =
    answer_judged l m s u ∙ sym (verdict_answer s l.sheet m l.events) in
    λ i. record { ledger = t.0 i; map = t.1 i; refused = r + one_if_refused (a i) }

-- how the refused records are counted
abbrev pub refused_in : BookState → ℕ
refused_in st = st.refused

abbrev pub answer_in : BookState → List ℕ → ℕ
answer_in st s = answer_of st.ledger st.map s

-- a record adds 1 to them where it is refused, and else 0
pub refused_counted : (st : BookState) (s : List ℕ) → refused_in (take_record st s) ≡ refused_in st + one_if_refused (answer_in st s)
unfolding take_record
refused_counted st s = refl

-- of a book at most as many records are refused as it has bytes
pub refused_below : (l : Ledger) (m book : List ℕ) → (after_book l m book).refused ≤ length book
refused_below l m book = omega (arith, all.refused_below take_record refused_in answer_in refused_counted (starting l m) book)

-- at a turn of the loop over the records of a book, begun from ledger l₀ and map m₀: ledger l, map m, r refused records so far, and the offset of what
-- stands next
pub record Going (l₀ : Ledger) (m₀ book : List ℕ) (l : Ledger) (m : List ℕ) (r at : ℕ) : Type 0 where
  pub on : run.Going take_record refused_in (starting l₀ m₀) book (record { ledger = l; map = m; refused = r }) at
  pub sound : sound_ledger l ≡ true
  pub size : length m ≡ map_size
  pub rows_there : length l.rows ≡ rows

module _ (l₀ : Ledger) (m₀ book : List ℕ) where
  -- the loop begins at offset 0 with a sound ledger of all rows and a map of 8,192 bytes
  pub going_begins : sound_ledger l₀ ≡ true → length m₀ ≡ map_size → length l₀.rows ≡ rows → Going l₀ m₀ book l₀ m₀ 0 0
  going_begins s z n = record { on = run.going_begins take_record refused_in (starting l₀ m₀) book; sound = s; size = z; rows_there = n }

  module _ (l : Ledger) (m : List ℕ) (r at : ℕ) (g : Going l₀ m₀ book l m r at) where
    -- the verdict on the record that stands next is added, and its number marked
    module _ {start end : ℕ} (is : place_at book at ≡ Record start end) where
      pub going_on_lem :
          (v : Verdict) →
          v ≡ verdict_of (part_of book start end) l.sheet m l.events →
          Going l₀ m₀ book (added l v) (marked_with m v.number) (r + one_if_refused v.answer) end
      going_on_lem v judged-here =
          let s = part_of book start end in
          let step = record_judged l m r s (sound_taken l m g.sound g.size) in
          record {
            on =
                run.going_on_lem take_record refused_in (starting l₀ m₀) book _ at g.on is _
                ((λ i. record { ledger = added l (judged-here i); map = marked_with m (judged-here i).number; refused = r + one_if_refused (judged-here i).answer }) ∙ sym step)
                (omega (arith, one_at_most v.answer));
            sound = sound_kept l v (subst (Fits l) (sym judged-here) (verdict_fits l m s g.sound));
            size = marked_with_size m v.number ∙ g.size;
            rows_there = added_rows l v ∙ g.rows_there;
          }

      -- what an accepted record adds fits the ledger
      pub accepted_fits : (a : Accepted) → judged l.sheet (Ok a) ≡ verdict_of (part_of book start end) l.sheet m l.events → Fits l (accepted_verdict a)
      accepted_fits a here = subst (Fits l) (sym here) (verdict_fits l m (part_of book start end) g.sound)

      pub going_accepted :
          (a : Accepted) →
          judged l.sheet (Ok a) ≡ verdict_of (part_of book start end) l.sheet m l.events →
          Going l₀ m₀ book (added l (accepted_verdict a)) (marked_with m a.number) r end
      going_accepted a here =
          subst (λ (n : ℕ). Going l₀ m₀ book (added l (accepted_verdict a)) (marked_with m a.number) n end) (add-zero r)
          (going_on_lem (accepted_verdict a) here)

      -- a refused one marks and adds nothing, and is counted
      pub going_refused :
          (refusal : Refusal) →
          judged l.sheet (Err refusal) ≡ verdict_of (part_of book start end) l.sheet m l.events →
          Going l₀ m₀ book l m (r + 1) end
      going_refused refusal here =
          subst₃ (λ l₁ m₁ n. Going l₀ m₀ book l₁ m₁ n end)
          (added_refused l (number_of refusal))
          (marked_with_zero m)
          (ap (λ (n : ℕ). r + n) (refusal_counts refusal))
          (going_on_lem (refused_with l.sheet (number_of refusal)) here)

    -- where no record stands the run is over
    pub going_ends :
        (which_at book at ≡ 0 → ⊥) →
        (record { ledger = l; refused = r; stop = at; which = cond (ltb at (length book)) 2 1 } ≡ pass_of l₀ m₀ book) × (m ≡ (after_book l₀ m₀ book).map)
    going_ends over =
        let e = run.going_ends take_record refused_in (starting l₀ m₀) book _ at g.on over in (
          (λ i. record { ledger = (e.0 i).ledger; refused = (e.0 i).refused; stop = e.1 i; which = cond (ltb (e.1 i) (length book)) 2 1 }) ∙
              (λ i. record { ledger = (after_book l₀ m₀ book).ledger; refused = (after_book l₀ m₀ book).refused; stop = stop_from book 0; which = run.ends_told book i }),
          ap (λ (st : BookState). st.map) e.0,
        )

-- the two ways that a whole book goes
module _ (l : Ledger) (m book : List ℕ) where
  -- an unsound ledger or a map of another size: answer 1, and ledger and map as they were
  pub read_nothing :
      unsound l m ≡ true →
      (read_of l m book ≡ record { answer = 1; ledger = l; refused = 0; broken = false }) × (map_read l m book ≡ m)
  unfolding read_of map_read
  read_nothing u = (rw u, rw u)

  -- else answer 0, and what the whole records come to, with a broken length counted as one refusal more
  pub read_through :
      unsound l m ≡ false →
      (read_of l m book ≡
      record {
        answer = 0;
        ledger = (after_book l m book).ledger;
        refused = (after_book l m book).refused + cond (is_broken book) 1 0;
        broken = is_broken book;
      }) ×
      (map_read l m book ≡ (after_book l m book).map)
  unfolding read_of map_read
  read_through u = (rw u, rw u)

  -- what is told of the book after its run
  module _ (pass : Pass) (ran : pass ≡ pass_of l m book) where
    pub few_refused : pass.refused ≤ length book
    few_refused = subst⁻¹ (λ (r : Pass). r.refused ≤ length book) ran (refused_below l m book)

    pub read_told :
        unsound l m ≡ false →
        (b : Bool) → pass.which ≡ cond b 2 1 →
        record { answer = 0; ledger = pass.ledger; refused = pass.refused + cond b 1 0; broken = b } ≡ read_of l m book
    read_told u b e =
        let same : b ≡ is_broken book = sym (run.which_tells b) ∙ ap (λ (n : ℕ). eqb n 2) (sym e) ∙ ap (λ (r : Pass). eqb r.which 2) ran in
        (λ i. record { answer = 0; ledger = (ran i).ledger; refused = (ran i).refused + cond (same i) 1 0; broken = same i }) ∙ sym (read_through u).0
