-- How the loop over a file's records goes, by the run of records' laws; and a sound table stays sound as a file is read. Assumes nothing.
use Prim.Native.Nat.{ℕ, ◌+◌, ◌≤◌}
use mathlib.Core.Path.{◌≡◌, refl, sym, ap, ◌∙◌, subst, subst⁻¹}
use mathlib.Core.List.{List}
use mathlib.Core.Bool.{Bool, true, false, cond}
use lib.ListN.{length}
use lib.Dec.{ltb, eqb}
use native.Mathlib.Omega.{arith}
use native.Mathlib.Nat.{add-zero}
use borrow.Author.Tests.{eq-eqb, ne_eqb}
use Rattle.std.specs.Prelude.{Ok, Err}
use Rattle.base.proofs.TestLaws.{Tested, holds, fails, test}
use Rattle.wire.specs.declared.Place.TheVariants.{Record}
use Rattle.wire.specs.Book.{place_at, which_at, part_of}
use Rattle.wire.specs.Cut.{records_of, stop_from}
use Rattle.records.specs.Records.{one_if_refused, is_broken}
use Rattle.records.proofs.TakeLaws as all
use Rattle.records.proofs.TakeLaws.{one_at_most, refusal_counts}
use Rattle.records.proofs.RunLaws as run
use Rattle.element_table.specs.declared.Table.{Table}
use Rattle.refusals.specs.declared.Refusal.{Refusal}
use Rattle.refusals.specs.Refusals.{number_of}
use Rattle.refusals.proofs.NumberLaws.{no_refusal_0}
use Rattle.element_table.specs.Table.{Filed}
use Rattle.element_table.specs.Table.{filed_in, sound_table, seen_as, file_begun}
use Rattle.element_table.specs.Rules.{answer_of}
use Rattle.element_table.specs.Take.{taken_of}
use Rattle.element_table.proofs.AnswerLaws.{file_begins}
use Rattle.element_table.proofs.ExactlyThen.{file_exactly_0}
use Rattle.element_table.proofs.SoundLaws.{marked_sound, sound_stays_sound}
use Rattle.element_file.specs.Yearly.{Pass, Reading, FileState, starting, take_record, take_all, after_records, after_file, pass_of, file_of}

-- how the refused records are counted
abbrev pub refused_in : FileState → ℕ
refused_in st = st.refused

abbrev pub answer_in : FileState → List ℕ → ℕ
answer_in st s = answer_of st.table s

-- a record counts as one refused more where its answer is not 0, and else as none
pub refused_counted : (st : FileState) (s : List ℕ) → refused_in (take_record st s) ≡ refused_in st + one_if_refused (answer_in st s)
unfolding take_record
refused_counted st s = refl

-- no more records are refused than there are bytes
pub refused_below : (t : Table) (bytes : List ℕ) → (after_records t bytes).refused ≤ length bytes
refused_below t bytes = omega (arith, all.refused_below take_record refused_in answer_in refused_counted (starting t) bytes)

-- at a turn of the loop over the records of some bytes, begun from table t₀: table t, r refused records so far, and the offset of what stands next
module _ (t₀ : Table) (bytes : List ℕ) where
  abbrev pub Going : Table → ℕ → ℕ → Type 0
  Going t r at = run.Going take_record refused_in (starting t₀) bytes (record { table = t; refused = r }) at

  module _ (t : Table) (r at : ℕ) (g : Going t r at) where
    -- the record that stands next is taken, and what it came to is filed
    module _ {start end : ℕ} (is : place_at bytes at ≡ Record start end) where
      pub going_on_lem : (filed : Filed) → filed ≡ taken_of t (part_of bytes start end) → Going filed.table (r + one_if_refused filed.answer) end
      unfolding take_record
      going_on_lem filed same =
          run.going_on_lem take_record refused_in (starting t₀) bytes _ at g is _
          (λ i. record { table = (same i).table; refused = r + one_if_refused (same i).answer })
          (omega (arith, one_at_most filed.answer))

      pub going_accepted : (next : Table) → record { answer = 0; table = next } ≡ taken_of t (part_of bytes start end) → Going next r end
      going_accepted next same = subst (λ (n : ℕ). Going next n end) (add-zero r) (going_on_lem (record { answer = 0; table = next }) same)

      pub going_refused : (refusal : Refusal) → record { answer = number_of refusal; table = t } ≡ taken_of t (part_of bytes start end) → Going t (r + 1) end
      going_refused refusal same =
          subst (λ (n : ℕ). Going t (r + n) end) (refusal_counts refusal) (going_on_lem (record { answer = number_of refusal; table = t }) same)

    -- where no record stands the run is over
    pub going_ends : (which_at bytes at ≡ 0 → ⊥) → record { table = t; refused = r; stop = at; which = cond (ltb at (length bytes)) 2 1 } ≡ pass_of t₀ bytes
    going_ends over =
        let e = run.going_ends take_record refused_in (starting t₀) bytes _ at g over in
        (λ i. record { table = (e.0 i).table; refused = (e.0 i).refused; stop = e.1 i; which = cond (ltb (e.1 i) (length bytes)) 2 1 }) ∙
        (λ i. record { table = (after_records t₀ bytes).table; refused = (after_records t₀ bytes).refused; stop = stop_from bytes 0; which = run.ends_told bytes i })

-- how a file was begun: of a sound table, whose mark is then cleared, and else not at all
module _ (t : Table) where
  pub begun_marked : (next : Table) → filed_in t (Ok next) ≡ file_begun t → (sound_table t ≡ true) × (next ≡ seen_as false t)
  begun_marked next is =
      let s = (file_exactly_0 t).0 (ap (λ (f : Filed). f.answer) (sym is)) in
      (s, ap (λ (f : Filed). f.table) (is ∙ file_begins t s))

  begins_none : sound_table t ≡ false → file_begun t ≡ record { answer = 1; table = t }
  unfolding file_begun
  begins_none u = rw u

  pub begun_refused : (refusal : Refusal) → filed_in t (Err refusal) ≡ file_begun t → (sound_table t ≡ false) × (number_of refusal ≡ 1)
  begun_refused refusal is = go (test (sound_table t))
    where
      go : Tested (sound_table t) → (sound_table t ≡ false) × (number_of refusal ≡ 1)
      go (holds s) = absurd (no_refusal_0 refusal (ap (λ (f : Filed). f.answer) is ∙ (file_exactly_0 t).1 s))
      go (fails u) = (u, ap (λ (f : Filed). f.answer) is ∙ ap (λ (f : Filed). f.answer) (begins_none u))

-- sound stays sound, over any records
pub record_sound : (st : FileState) (s : List ℕ) → sound_table st.table ≡ true → sound_table (take_record st s).table ≡ true
unfolding take_record
record_sound st s e = sound_stays_sound st.table s e

pub run_sound : (st : FileState) (ss : List (List ℕ)) → sound_table st.table ≡ true → sound_table (take_all st ss).table ≡ true
run_sound = all.all_keep take_record (λ (st : FileState). sound_table st.table ≡ true) record_sound

-- how a whole file goes: unread, or run through to its end or to a broken length
module _ (t : Table) (file : List ℕ) where
  pub file_unread : sound_table t ≡ false → file_of t file ≡ record { answer = 1; table = t; refused = 0; broken = false }
  unfolding file_of
  file_unread u = rw u

  pub file_through :
      sound_table t ≡ true →
      file_of t file ≡
      record {
        answer = 0;
        table = (after_file t file).table;
        refused = (after_file t file).refused + cond (is_broken file) 1 0;
        broken = is_broken file;
      }
  unfolding file_of
  file_through s = rw s

  -- a sound table is sound after any file, whole or broken
  pub reading_sound : sound_table t ≡ true → sound_table (file_of t file).table ≡ true
  reading_sound s =
      ap (λ (r : Reading). sound_table r.table) (file_through s) ∙
      run_sound (starting (seen_as false t)) (records_of file) (marked_sound t false ∙ s)

  module _ (pass : Pass) (ran : pass ≡ pass_of (seen_as false t) file) where
    -- no more records of the file are refused than it has bytes
    pub few_refused : pass.refused ≤ length file
    few_refused = subst⁻¹ (λ (r : Pass). r.refused ≤ length file) ran (refused_below (seen_as false t) file)

    broken_here : is_broken file ≡ eqb pass.which 2
    broken_here = ap (λ (r : Pass). eqb r.which 2) (sym ran)

    module _ (s : sound_table t ≡ true) where
      by_run : (b : Bool) → eqb pass.which 2 ≡ b → record { answer = 0; table = pass.table; refused = pass.refused + cond b 1 0; broken = b } ≡ file_of t file
      by_run b e =
          let same : b ≡ is_broken file = sym (broken_here ∙ e) in
          (λ i. record { answer = 0; table = (ran i).table; refused = (ran i).refused + cond (same i) 1 0; broken = same i }) ∙ sym (file_through s)

      -- what is told of the file after its run: a broken length is one refusal more, and else nothing is added
      pub file_told : (b : Bool) → pass.which ≡ cond b 2 1 → record { answer = 0; table = pass.table; refused = pass.refused + cond b 1 0; broken = b } ≡ file_of t file
      file_told b e = by_run b (ap (λ (n : ℕ). eqb n 2) e ∙ run.which_tells b)

      pub file_broken : pass.which ≡ 2 → record { answer = 0; table = pass.table; refused = pass.refused + 1; broken = true } ≡ file_of t file
      file_broken two = by_run true (eq-eqb pass.which 2 two)

      pub file_whole : (pass.which ≡ 2 → ⊥) → record { answer = 0; table = pass.table; refused = pass.refused; broken = false } ≡ file_of t file
      file_whole other =
          (λ i. record { answer = 0; table = pass.table; refused = sym (add-zero pass.refused) i; broken = false }) ∙
          by_run false (ne_eqb pass.which 2 other)
