-- Fractions of one value: the relation is transitive over a fraction that exists, and sums and products keep it. Assumes nothing.
use Prim.Native.Nat.{ℕ, ◌+◌, ◌*◌}
use mathlib.Core.Path.{◌≡◌, sym, ◌∙◌, ap}
use native.Mathlib.Omega.{arith}
use native.Mathlib.Nat.{mul_comm, mul_right_comm, mul-mul-mul_comm, add-mul, eq_of_mul-eq-mul_right}
use Rattle.ratio.specs.declared.Fraction.{Fraction}
use Rattle.ratio.specs.Fraction.{Same, plus, product}

pub same_transitive : (f g h : Fraction) → Same f g → Same g h → (g.bottom ≡ 0 → ⊥) → Same f h
same_transitive f g h p q exists =
    eq_of_mul-eq-mul_right g.bottom (omega arith) (f.top * h.bottom) (h.top * f.bottom)
    (mul_right_comm f.top h.bottom g.bottom ∙ ap (λ (x : ℕ). x * h.bottom) p ∙
    mul_right_comm g.top f.bottom h.bottom ∙
    ap (λ (x : ℕ). x * f.bottom) q ∙
    mul_right_comm h.top g.bottom f.bottom)

pub product_same : (a b c d : Fraction) → Same a b → Same c d → Same (product a c) (product b d)
product_same a b c d p q =
    mul-mul-mul_comm a.top c.top b.bottom d.bottom ∙ (λ i. p i * q i) ∙
    mul-mul-mul_comm b.top a.bottom d.top c.bottom

-- one term of a sum, crossed
term_same : (a b : Fraction) (m n : ℕ) → Same a b → a.top * m * (b.bottom * n) ≡ b.top * n * (a.bottom * m)
term_same a b m n p =
    mul-mul-mul_comm a.top m b.bottom n ∙ (λ i. p i * mul_comm m n i) ∙ mul-mul-mul_comm b.top a.bottom n m

pub plus_same : (a b c d : Fraction) → Same a b → Same c d → Same (plus a c) (plus b d)
plus_same a b c d p q =
    add-mul (a.top * c.bottom) (c.top * a.bottom) (b.bottom * d.bottom) ∙
    (λ i. term_same a b c.bottom d.bottom p i + second i) ∙
    sym (add-mul (b.top * d.bottom) (d.top * b.bottom) (a.bottom * c.bottom))
  where
    second : c.top * a.bottom * (b.bottom * d.bottom) ≡ d.top * b.bottom * (a.bottom * c.bottom)
    second =
        ap (λ (x : ℕ). c.top * a.bottom * x) (mul_comm b.bottom d.bottom) ∙ term_same c d a.bottom b.bottom q ∙
        ap (λ (x : ℕ). d.top * b.bottom * x) (mul_comm c.bottom a.bottom)
