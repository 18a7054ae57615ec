-- All the pieces that have come are one run of bytes, and the end of the inflow is what `element_file` answers to them: 2^40 turns of 65,536 bytes are fewer than
-- 2^62, so that their refused records are counted. Into an unsound table nothing is read. Assumes nothing.
use Prim.Native.Nat.{ℕ}
use mathlib.Core.Path.{◌≡◌, refl, sym, ap, ◌∙◌, subst, subst⁻¹}
use mathlib.Core.Bool.{true, false}
use mathlib.Core.List.{List, []}
use native.Mathlib.Omega.{arith}
use Rattle.std.specs.Prelude.{Result, Ok, Err}
use Rattle.std.specs.Result.{IsOk}
use Rattle.base.proofs.TestLaws.{Tested, holds, fails, test}
use Rattle.wire.specs.Cut.{joined}
use Rattle.refusals.specs.declared.Refusal.{Refusal}
use Rattle.refusals.proofs.NumberLaws.{no_refusal_0}
use Rattle.element_table.specs.declared.Table.{Table}
use Rattle.element_table.specs.Table.{Filed, sound_table, seen_as}
use Rattle.element_table.proofs.AnswerLaws.{file_begins}
use Rattle.element_table.proofs.ExactlyThen.{file_exactly_0}
use Rattle.element_file.specs.declared.Reading.{Reading as Read}
use Rattle.element_file.specs.Yearly.{Reading, FileState, reading_in, starting, take_record, file_of}
use Rattle.element_file.proofs.RunLaws.{file_unread, file_through}
use Rattle.records.specs.Pieces.{Held}
use Rattle.refill.specs.Arrive.{most_turns, Arrived}
use Rattle.element_pieces.specs.declared.Inflow.{Inflow}
use Rattle.element_pieces.specs.Inflow.{fresh, Flowed, flowed_in, begun_of, reading_of, finished_in, finished_of}
use Rattle.element_pieces.proofs.LinkLaws.{begun_holding, none_begun, finish_whole, count_fits}

module _ (t : Table) where
  -- where a file is not begun
  pub unread : (refusal : Refusal) → flowed_in (fresh t) (Err refusal) ≡ begun_of t → reading_in t (Err refusal) ≡ file_of t []
  unread refusal e = go (test (sound_table t))
    where
      go : Tested (sound_table t) → reading_in t (Err refusal) ≡ file_of t []
      go (holds s) = absurd (no_refusal_0 refusal (ap (λ (x : Flowed). x.answer) e ∙ (file_exactly_0 t).1 s))
      go (fails u) = (λ i. record { answer = ((e ∙ none_begun t u) i).answer; table = t; refused = 0; broken = false }) ∙ sym (file_unread t [] u)

  module _ (begun : Inflow) (e : flowed_in (fresh t) (Ok begun) ≡ begun_of t) where
    table_sound : sound_table t ≡ true
    table_sound = (file_exactly_0 t).0 (ap (λ (x : Flowed). x.answer) (sym e))

    -- where it is begun nothing has come yet
    pub begun_arrived : (b : List ℕ) → Arrived take_record (starting (seen_as false t)) (reading_of begun) b 0
    begun_arrived b =
        subst⁻¹ (λ (x : Flowed). Arrived take_record (starting (seen_as false t)) (reading_of x.flow) b 0) e
        (record { pieces = []; holds = (begun_holding t b table_sound).1; few = omega arith })

    -- its mark is cleared, and nothing is refused
    state_begun : (reading_of begun).state ≡ starting (seen_as false t)
    state_begun = ap (λ (x : Flowed). (reading_of x.flow).state) e ∙ ap (λ (x : Filed). (reading_of (fresh x.table)).state) (file_begins t table_sound)

    -- so it begins where it is itself, and what comes from there comes from the table
    pub begun_here : (b : List ℕ) → Arrived take_record (reading_of begun).state (reading_of begun) b 0
    begun_here b = subst⁻¹ (λ (st : FileState). Arrived take_record st (reading_of begun) b 0) state_begun (begun_arrived b)

    pub from_begun : (h : Held FileState) (b : List ℕ) (turns : ℕ) → Arrived take_record (reading_of begun).state h b turns → Arrived take_record (starting (seen_as false t)) h b turns
    from_begun h b turns = subst (λ (st : FileState). Arrived take_record st h b turns) state_begun

    -- where pieces came in at most 2^40 turns, the end of the inflow is what some bytes come to, read as one file
    module _ (f : Inflow) (b : List ℕ) (a : Arrived take_record (starting (seen_as false t)) (reading_of f) b most_turns) where
      pub arrived_whole : (bytes : List ℕ) × (finished_of f ≡ file_of t bytes)
      arrived_whole =
          let few = count_fits t a.pieces f b a.holds (omega (arith, a.few)) in
          (joined a.pieces, finish_whole t a.pieces f b a.holds few table_sound)

      answered_0 : (x : Result Read Refusal) → finished_in f x ≡ finished_of f → (finished_in f x).answer ≡ 0
      answered_0 x is = let w = arrived_whole in ap (λ (r : Reading). r.answer) (is ∙ w.1 ∙ file_through t w.0 table_sound)

      -- it is not refused
      pub is_read : (x : Result Read Refusal) → finished_in f x ≡ finished_of f → IsOk x
      is_read (Ok r) is = refl
      is_read (Err refusal) is = absurd (no_refusal_0 refusal (answered_0 (Err refusal) is))

      pub read_is :
          (x : Result Read Refusal) → finished_in f x ≡ finished_of f →
          (reading : Read) → x ≡ Ok reading →
          ((bytes : List ℕ) × (reading_in t (Ok reading) ≡ file_of t bytes))
      read_is x e reading is = let w = arrived_whole in (w.0, ap (finished_in f) (sym is) ∙ e ∙ w.1)
