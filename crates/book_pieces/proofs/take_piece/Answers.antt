-- The answer is that of `fed_answer`. Where the piece is taken, the records are those of the first `filled` bytes, and what they leave over goes
-- to the front. Assumes nothing.
use Prim.Native.Nat.{◌+◌, ◌-◌, ◌≤◌}
use mathlib.Core.Path.{◌≡◌, sym, ap, ◌∙◌, subst⁻¹}
use lib.ListN.{length, take}
use native.Mathlib.Omega.{arith}
use Rattle.std.proofs.lemmas.Result.{err_from_is_err_and}
use Rattle.refusals.specs.Refusals.{answer_in}
use Rattle.refusals.proofs.NumberLaws.{no_refusal_0}
use Rattle.book.specs.Book.{Pass, passed_in, pass_of}
use Rattle.records.specs.Pieces.{dead_rest, moved}
use Rattle.records.proofs.HeldLaws.{stop_before}
use Rattle.book_pieces.specs.Feed.{fed_answer}
use Rattle.book_pieces.proofs.FeedLaws.{fed_told, feed_refused, feed_over, feed_taken, refused_few, refused_of_piece}
use Rattle.book_pieces.proofs.take_piece.Goals as goal
use Rattle.book_pieces.proofs.take_piece.Goals.{In_ok-piece_answer}

-- a piece that is not refused
fine : (c : In_ok-piece_answer) → let a = c.args in fed_answer a.feed a.map.now a.buffer.now a.filled ≡ 0
fine c = let a = c.args in sym (fed_told a.feed a.map.now a.buffer.now a.filled _ _ c.piece_answer.ensures c.sound.ensures) ∙ ap answer_in c.in_ok-piece_answer.was

pub returns-in_err-piece_answer : goal.returns-in_err-piece_answer
returns-in_err-piece_answer c =
    let a = c.args in
    let told = sym (ap answer_in c.in_err-piece_answer.was) ∙ fed_told a.feed a.map.now a.buffer.now a.filled _ _ c.piece_answer.ensures c.sound.ensures in
    let h = feed_refused a.feed a.map.now a.buffer.now a.filled (λ z. no_refusal_0 _ (told ∙ z)) in
    let p = err_from_is_err_and c.from_residual.result c.from_residual.ensures.1 in
    rw (p.1, p.2) ((λ i. record { answer = told i; feed = a.feed }) ∙ h.0, h.1, h.2)

pub returns-then-feed : goal.returns-then-feed
returns-then-feed c =
    let a = c.args in
    feed_over a.feed a.map.now a.buffer.now a.filled (fine (goal.at.returns-then-feed c).In_ok-piece_answer) c.if-feed.true

pub overflow_sub-held : goal.overflow_sub-held
overflow_sub-held c =
    let a = c.args in
    subst⁻¹ (λ (r : Pass). r.stop ≤ a.filled) c.take_records-run.ensures.0 (stop_before a.buffer.now a.filled)

pub overflow_add-result : goal.overflow_add-result
overflow_add-result c =
    let a = c.args in
    let u = fine (goal.at.overflow_add-result c).In_ok-piece_answer in
    let few : c.take_records-run.result.refused ≤ length a.buffer.now =
    subst⁻¹ (λ (r : Pass). r.refused ≤ length a.buffer.now) c.take_records-run.ensures.0 (refused_of_piece a.feed a.map.now a.buffer.now a.filled u) in
    omega (arith, refused_few a.feed a.map.now a.buffer.now a.filled u)

pub returns : goal.returns
returns c =
    let a = c.args in
    let m = a.map.now in
    let b = a.buffer.now in
    let run : passed_in c.take_records-run.result ≡ pass_of a.feed.ledger m (take a.filled b) = c.take_records-run.ensures.0 in
    let h = feed_taken a.feed m b a.filled (fine (goal.at.returns c).In_ok-piece_answer) c.if-feed.false in
    let there = c.move_to_front.ensures ∙ ap (λ (r : Pass). moved b r.stop a.filled) run in
    let dead = c.is_dead.ensures ∙ (λ i. dead_rest (there i) (a.filled - (run i).stop)) in (
      (λ i.
          record {
            answer = 0;
            feed = record { ledger = (run i).ledger; refused = a.feed.refused + (run i).refused; held = a.filled - (run i).stop; dead = dead i };
          }) ∙
          h.0,
      c.take_records-run.ensures.1 ∙ h.1,
      there ∙ h.2,
    )
