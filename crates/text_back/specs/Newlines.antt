-- A text's bytes: "A line ends with a newline; the last one may do without" (docs/TEXT.md).
use Rattle.std.specs.Prelude.{ℕ, ◌≡◌, List, [], ◌∷◌, ◌++◌, cond, eqb}
use Rattle.base.specs.Lists.{All}

-- the bytes of lines, each with its newline
abbrev pub text_bytes : List (List ℕ) → List ℕ
text_bytes [] = []
text_bytes (l ∷ ls) = l ++ (10 ∷ text_bytes ls)

-- a byte in front of a text's lines stands in the first one
abbrev pub in_front : ℕ → List (List ℕ) → List (List ℕ)
in_front b [] = (b ∷ []) ∷ []
in_front b (l ∷ ls) = (b ∷ l) ∷ ls

-- the lines of a text's bytes
abbrev pub text_lines : List ℕ → List (List ℕ)
text_lines [] = []
text_lines (b ∷ bs) = cond (eqb b 10) ([] ∷ text_lines bs) (in_front b (text_lines bs))

-- bytes without a newline
abbrev pub OneLine : List ℕ → Type 0
OneLine l = All (λ (b : ℕ). b ≡ 10 → ⊥) l
