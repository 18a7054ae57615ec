-- No second outcome meets what a public function of this crate promises. Assumes nothing.
use mathlib.Core.Path.{refl}
use Rattle.base.proofs.OneOutcome.{OneOutcome, alike}
use Rattle.records.proofs.AnswerLaws.{same_answer}
use Rattle.records.proofs.is_dead.Kinds as is-dead-kinds
use Rattle.records.proofs.is_dead.Reads as is-dead
use Rattle.records.proofs.move_to_front.Kinds as move-to-front-kinds
use Rattle.records.proofs.move_to_front.Reads as move-to-front
use Rattle.records.proofs.end_answer.Kinds as end-answer-kinds
use Rattle.records.proofs.end_answer.Reads as end-answer
use Rattle.records.proofs.piece_answer.Kinds as piece-answer-kinds
use Rattle.records.proofs.piece_answer.Reads as piece-answer

pub is_dead_one : OneOutcome is-dead-kinds.ps is-dead-kinds.r is-dead.Post
is_dead_one κs a x y v w p q = (alike p q, refl)

pub move_to_front_one : OneOutcome move-to-front-kinds.ps move-to-front-kinds.r move-to-front.Post
move_to_front_one κs a x y v w p q = (refl, λ i. (alike p q i, (tt, (tt, tt))))

pub end_answer_one : OneOutcome end-answer-kinds.ps end-answer-kinds.r end-answer.Post
end_answer_one κs a x y v w p q = (same_answer x y (alike p q), refl)

pub piece_answer_one : OneOutcome piece-answer-kinds.ps piece-answer-kinds.r piece-answer.Post
piece_answer_one κs a x y v w p q = (same_answer x y (alike p q), refl)
