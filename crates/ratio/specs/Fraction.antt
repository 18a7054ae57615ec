-- Fractions as the annex writes them: sums, products and quotients; two are equal where they are cross-multiplied.
use Rattle.std.specs.Prelude.{ℕ, ◌+◌, ◌*◌, ◌≡◌}
use Rattle.ratio.specs.declared.Fraction.{Fraction}

abbrev pub whole : ℕ → Fraction
whole n = record { top = n; bottom = 1 }

abbrev pub plus : Fraction → Fraction → Fraction
plus a b = record { top = a.top * b.bottom + b.top * a.bottom; bottom = a.bottom * b.bottom }

abbrev pub product : Fraction → Fraction → Fraction
product a b = record { top = a.top * b.top; bottom = a.bottom * b.bottom }

-- a fraction times a number, and over a number
abbrev pub times : Fraction → ℕ → Fraction
times a n = record { top = a.top * n; bottom = a.bottom }

abbrev pub over : Fraction → ℕ → Fraction
over a n = record { top = a.top; bottom = a.bottom * n }

abbrev pub Same : Fraction → Fraction → Type 0
Same a b = a.top * b.bottom ≡ b.top * a.bottom
