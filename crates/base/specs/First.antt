-- Refusals in the order of checking: the smallest number that applies is the answer (01, "Refusal numbers").
use Rattle.std.specs.Prelude.{ℕ, List, [], ◌∷◌, Bool, true, false, cond, ◌≡◌, T, ltb, eqb}

-- a number, and whether what it stands for applies
abbrev pub Rule : Type 0
Rule = (n : ℕ) × Bool

-- the number of the first rule that applies, and 0 where none does
abbrev pub first : List Rule → ℕ
first [] = 0
first (r ∷ rs) = cond r.1 r.0 (first rs)

-- whether what a number stands for applies, among the rules
abbrev pub rule_of : ℕ → List Rule → Bool
rule_of n [] = false
rule_of n (r ∷ rs) = cond (eqb r.0 n) r.1 (rule_of n rs)

-- no rule applies, of whatever number
abbrev pub NoRule : List Rule → Type 0
NoRule rs = (n : ℕ) → rule_of n rs ≡ false

-- the same, rule by rule
abbrev pub Clear : List Rule → Type 0
Clear [] = Unit {0}
Clear (r ∷ rs) = (r.1 ≡ false) × Clear rs

-- the rule numbered n applies, and none before it does; at a number that no rule has, none applies and the number is 0
abbrev pub Foremost : ℕ → List Rule → Type 0
Foremost n [] = n ≡ 0
Foremost n (r ∷ rs) = cond (eqb r.0 n) (r.1 ≡ true) ((r.1 ≡ false) × Foremost n rs)

-- the numbers rise from above a given one
abbrev pub Rising : ℕ → List Rule → Type 0
Rising n [] = Unit {0}
Rising n (r ∷ rs) = T (ltb n r.0) × Rising r.0 rs
