-- The code's step is the step over lists: an inflow that holds a reading in pieces holds the reading with one piece more afterwards, so that
-- `pieces_whole` speaks of the code; what is held, where a record can still follow, leaves room in a buffer of 65,535 bytes or more; and any run of calls
-- (begin, pieces, finish) comes to what the whole file comes to in one call. Assumes nothing.
use mathlib.Core.Path.{◌≡◌, refl, sym, ap, ◌∙◌, subst}
use Prim.Native.Nat.{ℕ, ◌+◌, ◌<◌, ◌≤◌}
use native.Mathlib.Omega.{arith}
use native.Mathlib.Nat.{add-zero}
use mathlib.Core.Bool.{Bool, true, false, not, cond}
use mathlib.Core.List.{List}
use lib.Dec.{eqb}
use lib.ListN.{length, get_or, take, drop}
use borrow.Author.Tests.{eq-eqb}
use Rattle.wire.specs.Cut.{records_of, joined}
use Rattle.records.specs.Records.{is_broken}
use Rattle.records.specs.Pieces.{most_refused, Pieces, beginning, fed, fed_all}
use Rattle.records.specs.Calls.{Call, pieces_of, after_calls, Answered}
use Rattle.records.proofs.AnswerLaws.{end_goes_on}
use Rattle.records.proofs.HeldLaws.{Holding, begins_holding, held_on_lem, held_whole, held_room, stays_fit}
use Rattle.records.proofs.CallLaws.{GoesOn, calls_hold}
use Rattle.element_table.specs.declared.Table.{Table}
use Rattle.element_table.specs.Table.{Filed}
use Rattle.element_table.specs.Table.{sound_table, seen_as}
use Rattle.element_table.proofs.AnswerLaws.{file_begins, file_refused}
use Rattle.element_table.proofs.SoundLaws.{marked_sound}
use Rattle.element_file.specs.Yearly.{Reading, FileState, starting, take_record, after_file, file_of}
use Rattle.element_file.proofs.RunLaws.{record_sound, run_sound, file_through, refused_below}
use Rattle.element_pieces.specs.declared.Inflow.{Inflow}
use Rattle.element_pieces.specs.Inflow.{Flowed, fresh, begun_of, reading_of, flow_answer, finish_answer, buffer_after, flowed_of, taker, finished_of}
use Rattle.element_pieces.proofs.FlowLaws.{flow_refused, flowed_on, table_sound, buffer_long}

module _ (f : Inflow) (b : List ℕ) (filled : ℕ) (u : flow_answer f b filled ≡ 0) where
  -- the inflow after a call holds the reading with one piece more
  pub flow_holds :
      (p : Pieces FileState) →
      Holding take_record (reading_of f) b p →
      f.held ≤ filled →
      Holding take_record (reading_of (flowed_of f b filled).flow) (buffer_after f b filled) (fed take_record p (drop f.held (take filled b)))
  flow_holds p h within =
      let e = flowed_on f b filled u in
      coe 0 1 (i. Holding take_record (reading_of (e.0 i).flow) (e.1 i) (fed take_record p (drop f.held (take filled b))))
      (held_on_lem take_record (reading_of f) b filled p h within (buffer_long f b filled u))

  -- an inflow whose bytes are not dead holds fewer than 65,535 after a call
  pub flow_has_room : ((i : ℕ) → get_or b i 0 < 256) → (flowed_of f b filled).flow.dead ≡ false → (flowed_of f b filled).flow.held < 65535
  flow_has_room bytes after =
      let e = (flowed_on f b filled u).0 in
      let room = held_room take_record (reading_of f) b filled (buffer_long f b filled u) bytes (ap (λ (r : Flowed). r.flow.dead) e ∙ after) in
      omega (arith, room, ap (λ (r : Flowed). r.flow.held) e)

  -- a call that was answered 0 leaves the table sound and the buffer its size: a next one is refused only for its count of refused records (252) or for a
  -- `filled` past the buffer (253), and the end only for the count
  abbrev Fit : Flowed → List ℕ → Type 0
  Fit r b₁ = (sound_table r.flow.table ≡ true) × (length b₁ ≡ length b)

  pub flow_stays_fit : Fit (flowed_of f b filled) (buffer_after f b filled)
  flow_stays_fit =
      let e = flowed_on f b filled u in
      coe 0 1 (i. Fit (e.0 i) (e.1 i))
      (stays_fit take_record (λ (st : FileState). sound_table st.table ≡ true) record_sound (reading_of f) b filled (buffer_long f b filled u) (table_sound f b filled u))

-- an inflow that begins holds nothing; it is begun with the mark cleared
pub begun_holding :
    (t : Table) (b : List ℕ) →
    sound_table t ≡ true →
    ((begun_of t).answer ≡ 0) × Holding take_record (reading_of (begun_of t).flow) b (beginning (starting (seen_as false t)))
begun_holding t b s =
    let e = file_begins t s in (
      ap (λ (x : Filed). x.answer) e,
      subst (λ (x : Filed). Holding take_record (reading_of (fresh x.table)) b (beginning (starting (seen_as false t)))) (sym e)
          (begins_holding take_record (starting (seen_as false t)) b),
    )

-- with an unsound table none is begun, no piece is taken, and there is no outcome
pub none_begun : (t : Table) → sound_table t ≡ false → begun_of t ≡ record { answer = 1; flow = fresh t }
none_begun t s = ap (λ (x : Filed). record { answer = x.answer; flow = fresh x.table }) (file_refused t s)

pub none_taken : (f : Inflow) (b : List ℕ) (filled : ℕ) → sound_table f.table ≡ false → (flowed_of f b filled ≡ record { answer = 1; flow = f }) × (buffer_after f b filled ≡ b)
unfolding flowed_of buffer_after
none_taken f b filled s = (rw s, rw s)

pub none_finished : (f : Inflow) → sound_table f.table ≡ false → finished_of f ≡ record { answer = 1; table = f.table; refused = f.refused; broken = false }
unfolding finished_of
none_finished f s = rw s

-- the outcome after all pieces is that of reading the whole file
module _
    (t : Table)
    (ps : List (List ℕ))
    (f : Inflow)
    (b : List ℕ)
    (h : Holding take_record (reading_of f) b (fed_all take_record (beginning (starting (seen_as false t))) ps))
  where
    state_whole : (reading_of f).state ≡ after_file t (joined ps)
    state_whole = (held_whole take_record (starting (seen_as false t)) ps (reading_of f) b h).0

    abbrev Outcome : FileState → Bool → Reading
    Outcome st broken = record { answer = 0; table = st.table; refused = st.refused + cond broken 1 0; broken = broken }

    finish_either : (broken : Bool) → eqb f.held 0 ≡ not broken → finish_answer f ≡ 0 → finished_of f ≡ Outcome (reading_of f).state broken
    unfolding finished_of
    finish_either true e a = let z = eq-eqb (finish_answer f) 0 a in rw (z, e)
    finish_either false e a =
        let z = eq-eqb (finish_answer f) 0 a in
        rw (z, e) (λ i. record { answer = 0; table = f.table; refused = sym (add-zero f.refused) i; broken = false })

    -- the table of a file that was taken into a sound one is sound
    table_whole : sound_table t ≡ true → sound_table f.table ≡ true
    table_whole s = ap (λ (st : FileState). sound_table st.table) state_whole ∙ run_sound (starting (seen_as false t)) (records_of (joined ps)) (marked_sound t false ∙ s)

    -- where the table was sound and at most 2^62 records were refused, the outcome is that of the whole file in one call
    pub finish_whole : f.refused ≤ most_refused → sound_table t ≡ true → finished_of f ≡ file_of t (joined ps)
    finish_whole few s =
        finish_either (is_broken (joined ps)) (held_whole take_record (starting (seen_as false t)) ps (reading_of f) b h).1
        (end_goes_on (sound_table f.table) f.refused (table_whole s) few) ∙
        ap (λ (st : FileState). Outcome st (is_broken (joined ps))) state_whole ∙
        sym (file_through t (joined ps) s)

    -- of a file of at most 2^62 bytes no more records are refused than that
    pub count_fits : length (joined ps) ≤ most_refused → f.refused ≤ most_refused
    count_fits short =
        let same : f.refused ≡ (after_file t (joined ps)).refused = ap (λ (st : FileState). st.refused) state_whole in
        omega (arith, refused_below (seen_as false t) (joined ps))

-- any run of calls
pub goes_on : GoesOn take_record taker reading_of
goes_on =
    record {
      holds = λ f. refl;
      next = λ f c zero. let e = flowed_on f c.buffer c.filled zero in λ i. reading_of (sym e.0 i).flow;
      left = λ f c zero. sym (flowed_on f c.buffer c.filled zero).1;
      room = λ f c zero. buffer_long f c.buffer c.filled zero;
    }

-- a call that is refused changes nothing
pub stays : (f : Inflow) (c : Call) → (taker.answer f c ≡ 0 → ⊥) → (taker.next f c ≡ f) × (taker.left f c ≡ c.buffer)
stays f c not-zero = let e = flow_refused f c.buffer c.filled not-zero in (λ i. (sym e.0 i).flow, sym e.1)

module _ (t : Table) (b : List ℕ) (cs : List Call) where
  abbrev pub begun : Inflow
  begun = (begun_of t).flow

  abbrev pub file : List ℕ
  file = joined (pieces_of taker begun cs)

  -- the outcome is that of the whole file, where it has at most 2^62 bytes
  pub calls_whole : sound_table t ≡ true → Answered taker begun b cs → length file ≤ most_refused → finished_of (after_calls taker begun cs) ≡ file_of t file
  calls_whole sound answered short =
      let ps = pieces_of taker begun cs in
      let (b₁, h) = calls_hold take_record taker reading_of goes_on begun b cs _ (begun_holding t b sound).1 answered in
      finish_whole t ps (after_calls taker begun cs) b₁ h (count_fits t ps (after_calls taker begun cs) b₁ h short) sound
