-- No second outcome meets what a public function of this crate promises. Assumes nothing.
use Rattle.std.specs.Prelude.{Result, Ok, Err}
use mathlib.Core.Path.{◌≡◌, refl, sym, ap}
use Rattle.base.proofs.OneOutcome.{OneOutcome, alike}
use Rattle.refusals.specs.declared.Refusal.{Refusal}
use Rattle.refusals.proofs.NumberLaws.{same_refusal, no_refusal_0}
use Rattle.text.specs.declared.Text.{Text}
use Rattle.element_line.specs.Listing.{Line, told}
use Rattle.element_line.proofs.line_of.Kinds as line-of-kinds
use Rattle.element_line.proofs.line_of.Reads as Line-of
use Rattle.element_line.proofs.heading.Kinds as heading-kinds
use Rattle.element_line.proofs.heading.Reads as heading

-- two answers of which the same is told are the same
told_decides : (a b : Result Text Refusal) → told a ≡ told b → a ≡ b
told_decides (Ok t) (Ok u) p = ap Ok (ap (λ (x : Line). x.text) p)
told_decides (Ok t) (Err n) p = absurd (no_refusal_0 n (sym (ap (λ (x : Line). x.answer) p)))
told_decides (Err m) (Ok u) p = absurd (no_refusal_0 m (ap (λ (x : Line). x.answer) p))
told_decides (Err m) (Err n) p = ap Err (same_refusal m n (ap (λ (x : Line). x.answer) p))

pub line_of_one : OneOutcome line-of-kinds.ps line-of-kinds.r Line-of.Post
line_of_one κs a x y v w p q = (told_decides x y (alike p q), refl)

pub heading_one : OneOutcome heading-kinds.ps heading-kinds.r heading.Post
heading_one κs a x y v w p q = (alike p q, refl)
