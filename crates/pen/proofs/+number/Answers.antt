-- The last digit stands behind the digits of the tenth, which is smaller. Assumes nothing.
use Rattle.std.proofs.Common.{rules, ap, ◌∙◌, sym, [], ℕ, ◌+◌, List, ◌∷◌, ◌/◌, ◌%◌}
use Rattle.text.specs.Text.{number_text}
use Rattle.text.proofs.TextLaws.{number_ends, number_unrolls}
use Rattle.pen.specs.declared.Pen.{Pen}
use Rattle.pen.specs.Pen.{Spot, inked}
use Rattle.pen.proofs.PenLaws.{inked_append}
use Rattle.pen.proofs.+number.Goals as goal

-- a pen with the bytes and the place of a spot
pen_at : Pen → Spot → Pen
pen_at p s = record { out = record { ref_ptr = p.out.ref_ptr; ghost_name = p.out.ghost_name; now = s.bytes }; at = s.at }

pub Pen::put_number-returns-then-n-lt10 : goal.Pen::put_number-returns-then-n-lt10
Pen::put_number-returns-then-n-lt10 t c = let a = c.args in c.put.ensures ∙ ap (inked a.self.now) (sym (number_ends a.n c.if-n-lt10.true))

pub Pen::put_number-returns : goal.Pen::put_number-returns
unfolding pen_at
Pen::put_number-returns t c =
    let a = c.args in
    let last : List ℕ = (48 + a.n % 10) ∷ [] in
    c.put-2.ensures ∙
    ap (λ (s : Spot). inked (pen_at a.self.now s) last) c.put_number_at-self.ensures ∙
    inked_append a.self.now (number_text (a.n / 10)) last ∙
    ap (inked a.self.now) (sym (number_unrolls a.n c.if-n-lt10.false (search rules)))
