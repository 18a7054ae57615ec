-- All the pieces that have come are one run of bytes, and the end of the feed is what `book` answers to them: 2^40 turns of 65,536 bytes are fewer than 2^62,
-- so that their refused records are counted. Assumes nothing.
use Prim.Native.Nat.{ℕ}
use mathlib.Core.Path.{◌≡◌, refl, sym, ap, ◌∙◌, subst, subst⁻¹}
use mathlib.Core.Bool.{true, false, ◌||◌, not}
use mathlib.Core.List.{List}
use native.Mathlib.Omega.{arith}
use lib.ListN.{length, replicate, length-replicate}
use borrow.Author.Tests.{eq-eqb}
use Rattle.std.specs.Prelude.{Result, Ok, Err}
use Rattle.std.specs.Result.{IsOk}
use Rattle.wire.specs.Cut.{joined}
use Rattle.used_numbers.specs.Marks.{map_size}
use Rattle.refusals.specs.declared.Refusal.{Refusal}
use Rattle.refusals.proofs.NumberLaws.{no_refusal_0}
use Rattle.ledger.specs.Ledger.{empty_ledger}
use Rattle.ledger.specs.Sound.{sound_ledger}
use Rattle.ledger.specs.Take.{unsound}
use Rattle.book.specs.declared.Read.{Read as Outcome}
use Rattle.book.specs.Book.{Read, BookState, starting, take_record, read_in, read_of}
use Rattle.book.proofs.RunLaws.{read_through}
use Rattle.records.specs.Pieces.{Held}
use Rattle.refill.specs.Arrive.{most_turns, Arrived}
use Rattle.refill.proofs.ArriveLaws.{arrives_none}
use Rattle.book_pieces.specs.declared.Feed.{Feed}
use Rattle.book_pieces.specs.Feed.{begun_of, reading_of, finished_in, finished_of}
use Rattle.book_pieces.proofs.LinkLaws.{finish_whole, count_fits}

abbrev pub zeros : List ℕ
zeros = replicate map_size 0

empty_sound : unsound empty_ledger zeros ≡ false
unfolding sound_ledger
empty_sound = λ i. not (eq-eqb (length zeros) map_size (length-replicate {A = ℕ} map_size 0) i) || not true

-- a feed from the empty ledger and map, after at most 2^40 turns, ends as the reading of some bytes as one book does
pub arrived_whole :
    (f : Feed) (m b : List ℕ) →
    Arrived take_record (starting empty_ledger zeros) (reading_of f m) b most_turns →
    ((bytes : List ℕ) × (finished_of f ≡ read_of empty_ledger zeros bytes))
arrived_whole f m b a =
    let few = count_fits empty_ledger zeros a.pieces f m b a.holds (omega (arith, a.few)) in
    (joined a.pieces, finish_whole empty_ledger zeros a.pieces f m b a.holds few empty_sound)

module _ (f : Feed) (m : List ℕ) (begun : f ≡ begun_of empty_ledger) (unused : m ≡ zeros) where
  -- a feed that begins from the empty ledger, with an all-zero map, has had no turn
  pub begun_arrived : (b : List ℕ) → Arrived take_record (starting empty_ledger zeros) (reading_of f m) b 0
  begun_arrived b =
      coe 1 0 (i. Arrived take_record (starting empty_ledger zeros) (reading_of (begun i) (unused i)) b 0) (arrives_none take_record (starting empty_ledger zeros) b)

  -- so it begins where it is itself, and what comes from there comes from the empty ledger
  state_begun : (reading_of f m).state ≡ starting empty_ledger zeros
  state_begun = λ i. (reading_of (begun i) (unused i)).state

  pub begun_here : (b : List ℕ) → Arrived take_record (reading_of f m).state (reading_of f m) b 0
  begun_here b = subst⁻¹ (λ (st : BookState). Arrived take_record st (reading_of f m) b 0) state_begun (begun_arrived b)

  pub from_empty : (h : Held BookState) (b : List ℕ) (turns : ℕ) → Arrived take_record (reading_of f m).state h b turns → Arrived take_record (starting empty_ledger zeros) h b turns
  from_empty h b turns = subst (λ (st : BookState). Arrived take_record st h b turns) state_begun

-- and such a feed is never refused at the end
module _ (f : Feed) (m b : List ℕ) (a : Arrived take_record (starting empty_ledger zeros) (reading_of f m) b most_turns) where
  module _ (x : Result Outcome Refusal) (e : finished_in f x ≡ finished_of f) where
    answered_0 : (finished_in f x).answer ≡ 0
    answered_0 =
        let w = arrived_whole f m b a in
        ap (λ (r : Read). r.answer) (e ∙ w.1 ∙ (read_through empty_ledger zeros w.0 empty_sound).0)

  pub is_read : (x : Result Outcome Refusal) → finished_in f x ≡ finished_of f → IsOk x
  is_read (Ok r) e = refl
  is_read (Err refusal) e = absurd (no_refusal_0 refusal (answered_0 (Err refusal) e))

  pub read_is :
      (x : Result Outcome Refusal) → finished_in f x ≡ finished_of f →
      (read : Outcome) → x ≡ Ok read →
      ((bytes : List ℕ) × (read_in empty_ledger (Ok read) ≡ read_of empty_ledger zeros bytes))
  read_is x e read is = let w = arrived_whole f m b a in (w.0, ap (finished_in f) (sym is) ∙ e ∙ w.1)
