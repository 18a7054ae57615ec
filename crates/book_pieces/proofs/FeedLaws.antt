-- The three ways that the taking of a piece goes: refused, nothing to take any more, taken. Assumes nothing.
use mathlib.Core.Path.{◌≡◌, sym, ap, ◌∙◌}
use Prim.Native.Nat.{ℕ, ◌+◌, ◌≤◌}
use native.Mathlib.Nat.{add-zero}
use native.Mathlib.Omega.{arith}
use mathlib.Core.Bool.{Bool, true, false, ◌&&◌, not, cond}
use mathlib.Core.List.{List}
use lib.Dec.{eqb}
use lib.ListN.{length, take, length-take}
use borrow.Author.Tests.{eqb-true, eq-eqb, ne_eqb}
use Rattle.std.specs.Prelude.{Result}
use Rattle.base.proofs.TestLaws.{Tested, holds, fails, test, and_left, and_right}
use Rattle.wire.specs.Cut.{records_of, stop_from}
use Rattle.records.specs.Pieces.{piece_answer, most_refused, dead_rest, moved, Held, held_after, buffer_on}
use Rattle.refusals.specs.declared.Refusal.{Refusal}
use Rattle.refusals.specs.Refusals.{answer_in}
use Rattle.records.proofs.AnswerLaws.{piece_clear}
use Rattle.records.proofs.HeldLaws.{on_dead, on_more}
use Rattle.used_numbers.specs.Marks.{map_size}
use Rattle.ledger.specs.Sound.{sound_ledger}
use Rattle.book.specs.Book.{BookState, starting, take_record, take_all, after_book}
use Rattle.book.proofs.RunLaws.{refused_below}
use Rattle.book.proofs.AppendLaws.{refused_before, before_all}
use Rattle.book_pieces.specs.declared.Feed.{Feed}
use Rattle.book_pieces.specs.Feed.{Fed, reading_of, feed_of, fed_answer, read_on, buffer_fed, map_fed, fed_of, finish_answer, finished_of}

module _ (f : Feed) (m b : List ℕ) (filled : ℕ) where
  -- what the call came to: its answer, the map and the buffer
  abbrev pub Comes : Fed → List ℕ → List ℕ → Type 0
  Comes r m₁ b₁ = (r ≡ fed_of f m b filled) × (m₁ ≡ map_fed f m b filled) × (b₁ ≡ buffer_fed f m b filled)

  -- what is answered, by what is asked of the ledger
  pub fed_told :
      (x : Result (Unit {0}) Refusal) (sound : Bool) →
      answer_in x ≡ piece_answer (eqb (length m) map_size && sound) f.refused (length b) filled →
      sound ≡ sound_ledger f.ledger →
      answer_in x ≡ fed_answer f m b filled
  fed_told x sound told is = told ∙ ap (λ (s : Bool). piece_answer (eqb (length m) map_size && s) f.refused (length b) filled) is

  -- a piece that is refused leaves the feed, the map and the buffer as they were
  pub feed_refused : (fed_answer f m b filled ≡ 0 → ⊥) → Comes (record { answer = fed_answer f m b filled; feed = f }) m b
  unfolding fed_of map_fed buffer_fed
  feed_refused z = let u = ne_eqb (fed_answer f m b filled) 0 z in (sym (rw u), sym (rw u), sym (rw u))

  module _ (a : fed_answer f m b filled ≡ 0) where
    -- a piece that is not refused: the reading goes on
    pub fed_on :
        Comes (record { answer = 0; feed = feed_of (read_on f m b filled) }) (read_on f m b filled).state.map (buffer_on (reading_of f m) b filled)
    unfolding fed_of map_fed buffer_fed
    fed_on = (sym (rw a), sym (rw a), sym (rw a))

    -- where no record can follow what is held, the feed, the map and the buffer stay as they were
    pub feed_over : f.dead ≡ true → Comes (record { answer = 0; feed = f }) m b
    feed_over d =
        let e = on_dead take_record (reading_of f m) b filled d in (
          ap (λ (h : Held BookState). record { answer = 0; feed = feed_of h }) (sym e.0) ∙ fed_on.0,
          ap (λ (h : Held BookState). h.state.map) (sym e.0) ∙ fed_on.1,
          sym e.1 ∙ fed_on.2,
        )

    -- what is not refused
    clear_piece : (eqb (length m) map_size && sound_ledger f.ledger) ≡ true × (f.refused ≤ most_refused) × (filled ≤ length b)
    clear_piece = piece_clear (eqb (length m) map_size && sound_ledger f.ledger) f.refused (length b) filled a

    -- where a piece is not refused: the map has its size, the ledger is sound, the refused are few enough, the bytes told are in the buffer
    pub map_long : length m ≡ map_size
    map_long = eqb-true (length m) map_size (and_left (eqb (length m) map_size) (sound_ledger f.ledger) clear_piece.0)

    pub ledger_sound : sound_ledger f.ledger ≡ true
    ledger_sound = and_right (eqb (length m) map_size) (sound_ledger f.ledger) clear_piece.0

    pub refused_few : f.refused ≤ most_refused
    refused_few = clear_piece.1

    pub buffer_long : filled ≤ length b
    buffer_long = clear_piece.2

    -- and no more of its records are refused than the buffer has bytes
    pub refused_of_piece : (after_book f.ledger m (take filled b)).refused ≤ length b
    refused_of_piece = omega (arith, refused_below f.ledger m (take filled b), length-take filled b)

    -- the run from the feed's state, by the run from none refused
    ran_is : take_all (reading_of f m).state (records_of (take filled b)) ≡ refused_before f.refused (after_book f.ledger m (take filled b))
    ran_is =
        (λ i. take_all (record { ledger = f.ledger; map = m; refused = sym (add-zero f.refused) i }) (records_of (take filled b))) ∙
        before_all f.refused (starting f.ledger m) (records_of (take filled b))

    -- where a record can follow, the records of the bytes told are taken, and what is left over stands at the buffer's front
    pub feed_taken :
        f.dead ≡ false →
        Comes
        (record {
          answer = 0;
          feed =
              record {
                ledger = (after_book f.ledger m (take filled b)).ledger;
                refused = f.refused + (after_book f.ledger m (take filled b)).refused;
                held = held_after b filled;
                dead = dead_rest (moved b (stop_from (take filled b) 0) filled) (held_after b filled);
              };
        })
        (after_book f.ledger m (take filled b)).map
        (moved b (stop_from (take filled b) 0) filled)
    feed_taken d =
        let e = on_more take_record (reading_of f m) b filled d in
        let h : _ ≡ read_on f m b filled =
        (λ i.
        record {
          state = sym ran_is i;
          held = held_after b filled;
          dead = dead_rest (moved b (stop_from (take filled b) 0) filled) (held_after b filled);
        }) ∙
        sym e.0 in (
          ap (λ (h : Held BookState). record { answer = 0; feed = feed_of h }) h ∙ fed_on.0,
          ap (λ (h : Held BookState). h.state.map) h ∙ fed_on.1,
          sym e.1 ∙ fed_on.2,
        )

-- the end: refused, or what is held is a broken length
module _ (f : Feed) where
  pub finish_refused : (finish_answer f ≡ 0 → ⊥) → record { answer = finish_answer f; ledger = f.ledger; refused = f.refused; broken = false } ≡ finished_of f
  unfolding finished_of
  finish_refused z = let u = ne_eqb (finish_answer f) 0 z in sym (rw u)

  told_either : finish_answer f ≡ 0 → Tested (eqb f.held 0) → record { answer = 0; ledger = f.ledger; refused = f.refused + cond (not (eqb f.held 0)) 1 0; broken = not (eqb f.held 0) } ≡ finished_of f
  unfolding finished_of
  told_either a (holds e) =
      let z = eq-eqb (finish_answer f) 0 a in
      rw (z, e) (λ i. record { answer = 0; ledger = f.ledger; refused = add-zero f.refused i; broken = false })
  told_either a (fails e) = let z = eq-eqb (finish_answer f) 0 a in rw (z, e)

  pub finish_told : finish_answer f ≡ 0 → record { answer = 0; ledger = f.ledger; refused = f.refused + cond (not (eqb f.held 0)) 1 0; broken = not (eqb f.held 0) } ≡ finished_of f
  finish_told a = told_either a (test (eqb f.held 0))
