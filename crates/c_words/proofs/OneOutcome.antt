-- No second outcome meets what a public function of this crate promises. Assumes nothing.
use mathlib.Core.Path.{refl}
use Rattle.base.proofs.OneOutcome.{OneOutcome, alike}
use Rattle.c_words.proofs.answer_by.Kinds as answer-by-kinds
use Rattle.c_words.proofs.answer_by.Reads as answer-by
use Rattle.c_words.proofs.lent_ledger.Kinds as lent-ledger-kinds
use Rattle.c_words.proofs.lent_ledger.Reads as lent-ledger
use Rattle.c_words.proofs.settle.Kinds as settle-kinds
use Rattle.c_words.proofs.settle.Reads as settle
use Rattle.c_words.proofs.settle_number.Kinds as settle-number-kinds
use Rattle.c_words.proofs.settle_number.Reads as settle_number
use Rattle.c_words.proofs.put.Kinds as put-kinds
use Rattle.c_words.proofs.put.Reads as put
use Rattle.c_words.proofs.put_number.Kinds as put-number-kinds
use Rattle.c_words.proofs.put_number.Reads as put_number

pub answer_by_one : OneOutcome answer-by-kinds.ps answer-by-kinds.r answer-by.Post
answer_by_one κs a x y v w p q = (alike p q, refl)

pub lent_ledger_one : OneOutcome lent-ledger-kinds.ps lent-ledger-kinds.r lent-ledger.Post
lent_ledger_one κs a x y v w p q = (alike p q, refl)

-- answer and words are decided
pub settle_one : OneOutcome settle-kinds.ps settle-kinds.r settle.Post
settle_one κs a x y v w p q = (alike p.0 q.0, λ i. (tt, (alike p.1 q.1 i, (tt, tt))))

pub settle_number_one : OneOutcome settle-number-kinds.ps settle-number-kinds.r settle_number.Post
settle_number_one κs a x y v w p q = (alike p.0 q.0, λ i. (tt, (alike p.1 q.1 i, (tt, (tt, tt)))))

-- answer and output are decided
pub put_one : OneOutcome put-kinds.ps put-kinds.r put.Post
put_one κs a x y v w p q = (alike p.0 q.0, λ i. (tt, (alike p.1 q.1 i, (tt, tt))))

pub put_number_one : OneOutcome put-number-kinds.ps put-number-kinds.r put_number.Post
put_number_one κs a x y v w p q = (alike p.0 q.0, λ i. (tt, (alike p.1 q.1 i, (tt, (tt, tt)))))
