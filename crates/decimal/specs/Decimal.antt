-- "A decimal call answers two numbers, the whole part and the d digits after it, rounded to nearest, a tie upward" (01, "Indices").
use Rattle.std.specs.Prelude.{ℕ, ◌+◌, ◌*◌, ◌/◌, ◌%◌, ◌^◌, ◌<◌, ◌≤◌, ◌≡◌, List, [], ◌∷◌, cond, get_or, ltb, eqb, Result, Ok, Err}
use Rattle.base.specs.First.{Rule, first}
use Rattle.refusals.specs.declared.Refusal.{Refusal}
use Rattle.refusals.specs.declared.Refusal.TheVariants.{Nobody, Digits}
use Rattle.refusals.specs.Refusals.{number_of}
use Rattle.ratio.specs.declared.Fraction.{Fraction}
use Rattle.decimal.specs.declared.Decimal.{Decimal}
use Rattle.decimal.specs.declared.Digit.{Digit}
use Rattle.decimal.specs.declared.Division.{Division}

-- v units of the last of k digits are nearest to n / d: at most half a unit away, and above where it is exactly half
pub record Nearest (n d k v : ℕ) : Type 0 where
  -- shown - value is at most half a unit: 2 (v d - n 10^k) <= d
  pub not_far_above : 2 * (v * d) ≤ 2 * (n * 10 ^ k) + d
  -- value - shown is at most half a unit
  pub not_far_below : 2 * (n * 10 ^ k) ≤ 2 * (v * d) + d
  -- where the distance is exactly half a unit, shown is the larger
  pub tie_upward : 2 * (n * 10 ^ k) ≡ 2 * (v * d) + d → ⊥

-- n / d in units of the last of k digits, a half added and the rest cut off
unfoldable pub rounded : ℕ → ℕ → ℕ → ℕ
rounded n d k = (2 * (n * 10 ^ k) + d) / (2 * d)

abbrev pub split_at : ℕ → ℕ → Decimal
split_at v power = record { whole = v / power; digits = v % power }

unfoldable pub decimal_of : Fraction → ℕ → Decimal
decimal_of f k = split_at (rounded f.top f.bottom k) (10 ^ k)

-- 17 comes before 18
unfoldable pub shown_of : Fraction → ℕ → Result Decimal Refusal
shown_of f k = cond (eqb f.bottom 0) (Err Nobody) (cond (ltb 6 k) (Err Digits) (Ok (decimal_of f k)))

-- the answer in 01's numbers: 0, the whole part and the digits; or the refusal
abbrev pub decimally : Result Decimal Refusal → List ℕ
decimally (Ok d) = 0 ∷ d.whole ∷ d.digits ∷ []
decimally (Err r) = number_of r ∷ []

-- the refusals of a fraction's decimal, in the order of checking; 18: "more than 6 decimals asked"
abbrev pub shown_rules : Fraction → ℕ → List Rule
shown_rules f k = (17, eqb f.bottom 0) ∷ (18, ltb 6 k) ∷ []

-- an answer in 01's numbers, by its rules: the number of the first that applies, alone; where none does 0, and the values
abbrev pub numbers_by : List Rule → List ℕ → List ℕ
numbers_by rules values = cond (eqb (first rules) 0) (0 ∷ values) (first rules ∷ [])

-- the number that an answer begins with
abbrev pub answer_number : List ℕ → ℕ
answer_number numbers = get_or numbers 0 0

-- a fraction's decimal in 01's numbers
unfoldable pub shown_numbers : Fraction → ℕ → List ℕ
shown_numbers f k = numbers_by (shown_rules f k) ((decimal_of f k).whole ∷ (decimal_of f k).digits ∷ [])

-- what the inner functions of the long division promise
pub record Tenfold (before d : ℕ) (r : Digit) : Type 0 where
  pub split : 10 * before ≡ r.digit * d + r.rest
  pub less : r.rest < d
  pub digit : r.digit < 10

pub record Divided (m d k : ℕ) (r : Division) : Type 0 where
  pub power : r.power ≡ 10 ^ k
  pub split : m * 10 ^ k ≡ r.digits * d + r.rest
  pub less : r.rest < d
  pub fits : r.digits < 10 ^ k
