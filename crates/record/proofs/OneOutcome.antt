-- No second outcome meets what a public function of this crate promises. Assumes nothing.
use mathlib.Core.Path.{refl}
use Rattle.base.proofs.OneOutcome.{OneOutcome, alike}
use Rattle.verdict.proofs.JudgedLaws.{same_judged}
use Rattle.record.proofs.judge.Kinds as judge-kinds
use Rattle.record.proofs.judge.Reads as judge

pub judge_one : OneOutcome judge-kinds.ps judge-kinds.r judge.Post
judge_one κs a x y v w p q = (same_judged a.1.0 x y (alike p q), refl)
