-- The three ways that the taking of a piece goes: refused, nothing to take any more, taken. Assumes nothing.
use mathlib.Core.Path.{◌≡◌, sym, ap, ◌∙◌}
use Prim.Native.Nat.{ℕ, ◌+◌, ◌≤◌}
use native.Mathlib.Nat.{add-zero}
use native.Mathlib.Omega.{arith}
use mathlib.Core.Bool.{Bool, true, false, not, cond}
use mathlib.Core.List.{List}
use lib.Dec.{eqb}
use lib.ListN.{length, take, length-take}
use borrow.Author.Tests.{eq-eqb, ne_eqb}
use Rattle.std.specs.Prelude.{Result}
use Rattle.base.proofs.TestLaws.{Tested, holds, fails, test}
use Rattle.wire.specs.Cut.{records_of, stop_from}
use Rattle.records.specs.Pieces.{piece_answer, most_refused, dead_rest, moved, Held, held_after, held_on, buffer_on}
use Rattle.refusals.specs.declared.Refusal.{Refusal}
use Rattle.refusals.specs.Refusals.{answer_in}
use Rattle.records.proofs.AnswerLaws.{piece_clear}
use Rattle.records.proofs.HeldLaws.{on_dead, on_more}
use Rattle.element_table.specs.Table.{sound_table}
use Rattle.element_file.specs.Yearly.{FileState, starting, take_record, take_all, after_records}
use Rattle.element_file.proofs.RunLaws.{refused_below}
use Rattle.element_file.proofs.AppendLaws.{refused_before, before_all}
use Rattle.element_pieces.specs.declared.Inflow.{Inflow}
use Rattle.element_pieces.specs.Inflow.{Flowed, reading_of, flow_of, flow_answer, buffer_after, flowed_of, finish_answer, finished_of}

module _ (f : Inflow) (b : List ℕ) (filled : ℕ) where
  -- what the call came to: its answer and the buffer
  abbrev pub Comes : Flowed → List ℕ → Type 0
  Comes r b₁ = (r ≡ flowed_of f b filled) × (b₁ ≡ buffer_after f b filled)

  -- what is answered, by what is asked of the table
  pub flow_told :
      (x : Result (Unit {0}) Refusal) (sound : Bool) →
      answer_in x ≡ piece_answer sound f.refused (length b) filled →
      sound ≡ sound_table f.table →
      answer_in x ≡ flow_answer f b filled
  flow_told x sound told is = told ∙ ap (λ (s : Bool). piece_answer s f.refused (length b) filled) is

  -- a piece that is refused: its number is answered, and inflow and buffer are as they were
  pub flow_refused : (flow_answer f b filled ≡ 0 → ⊥) → Comes (record { answer = flow_answer f b filled; flow = f }) b
  unfolding flowed_of buffer_after
  flow_refused z = let u = ne_eqb (flow_answer f b filled) 0 z in (sym (rw u), sym (rw u))

  module _ (a : flow_answer f b filled ≡ 0) where
    -- a piece that is not refused: the reading goes on
    pub flowed_on : Comes (record { answer = 0; flow = flow_of (held_on take_record (reading_of f) b filled) }) (buffer_on (reading_of f) b filled)
    unfolding flowed_of buffer_after
    flowed_on = (sym (rw a), sym (rw a))

    -- where no record can follow what is held, nothing is taken: inflow and buffer are as they were
    pub flow_over : f.dead ≡ true → Comes (record { answer = 0; flow = f }) b
    flow_over d =
        let e = on_dead take_record (reading_of f) b filled d in
        (ap (λ (h : Held FileState). record { answer = 0; flow = flow_of h }) (sym e.0) ∙ flowed_on.0, sym e.1 ∙ flowed_on.1)

    -- what is not refused
    clear_piece : (sound_table f.table ≡ true) × (f.refused ≤ most_refused) × (filled ≤ length b)
    clear_piece = piece_clear (sound_table f.table) f.refused (length b) filled a

    pub table_sound : sound_table f.table ≡ true
    table_sound = clear_piece.0

    pub refused_few : f.refused ≤ most_refused
    refused_few = clear_piece.1

    pub buffer_long : filled ≤ length b
    buffer_long = clear_piece.2

    -- no more records of the piece are refused than the buffer has bytes
    pub refused_of_piece : (after_records f.table (take filled b)).refused ≤ length b
    refused_of_piece = omega (arith, refused_below f.table (take filled b), length-take filled b)

    -- the run from the inflow's state, by the run from none refused
    ran_is : take_all (reading_of f).state (records_of (take filled b)) ≡ refused_before f.refused (after_records f.table (take filled b))
    ran_is =
        (λ i. take_all (record { table = f.table; refused = sym (add-zero f.refused) i }) (records_of (take filled b))) ∙
        before_all f.refused (starting f.table) (records_of (take filled b))

    -- where a record can follow, those in the piece are taken, the refused counted to those before, and what is left over moved to the front
    pub flow_taken :
        f.dead ≡ false →
        Comes
        (record {
          answer = 0;
          flow =
              record {
                table = (after_records f.table (take filled b)).table;
                refused = f.refused + (after_records f.table (take filled b)).refused;
                held = held_after b filled;
                dead = dead_rest (moved b (stop_from (take filled b) 0) filled) (held_after b filled);
              };
        })
        (moved b (stop_from (take filled b) 0) filled)
    flow_taken d =
        let e = on_more take_record (reading_of f) b filled d in
        let h : _ ≡ held_on take_record (reading_of f) b filled =
        (λ i.
        record {
          state = sym ran_is i;
          held = held_after b filled;
          dead = dead_rest (moved b (stop_from (take filled b) 0) filled) (held_after b filled);
        }) ∙
        sym e.0 in
        (ap (λ (h : Held FileState). record { answer = 0; flow = flow_of h }) h ∙ flowed_on.0, sym e.1 ∙ flowed_on.1)

-- the end: refused, or what is held is a broken length
module _ (f : Inflow) where
  pub finish_refused : (finish_answer f ≡ 0 → ⊥) → record { answer = finish_answer f; table = f.table; refused = f.refused; broken = false } ≡ finished_of f
  unfolding finished_of
  finish_refused z = let u = ne_eqb (finish_answer f) 0 z in sym (rw u)

  told_either : finish_answer f ≡ 0 → Tested (eqb f.held 0) → record { answer = 0; table = f.table; refused = f.refused + cond (not (eqb f.held 0)) 1 0; broken = not (eqb f.held 0) } ≡ finished_of f
  unfolding finished_of
  told_either a (holds e) =
      let z = eq-eqb (finish_answer f) 0 a in
      rw (z, e) (λ i. record { answer = 0; table = f.table; refused = add-zero f.refused i; broken = false })
  told_either a (fails e) = let z = eq-eqb (finish_answer f) 0 a in rw (z, e)

  pub finish_told : finish_answer f ≡ 0 → record { answer = 0; table = f.table; refused = f.refused + cond (not (eqb f.held 0)) 1 0; broken = not (eqb f.held 0) } ≡ finished_of f
  finish_told a = told_either a (test (eqb f.held 0))
