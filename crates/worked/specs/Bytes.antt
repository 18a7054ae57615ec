-- Records of the cases as bytes.
use Rattle.std.specs.Prelude.{ℕ, List, [], ◌∷◌, ◌++◌, get_or, drop}
use Rattle.fields.specs.declared.Head.{Head}
use Rattle.codec.specs.Codec.{sheet_record, simple_record, stepped_record}

-- three counts
abbrev pub three : ℕ → ℕ → ℕ → List ℕ
three nn vn vvn = nn ∷ vn ∷ vvn ∷ []

-- kind 1: year, customers of each level
abbrev pub sheet : ℕ → List ℕ → List ℕ
sheet year totals = sheet_record year totals

-- what an event begins with, but for T0: number, type, voltage; the cause is 0
abbrev pub codes : ℕ → ℕ → ℕ → ℕ → Head
codes number typ voltage t0 = record { number = number; typ = typ; voltage = voltage; cause = 0; t0 = t0 }

-- kind 2: codes, times T0 to T4, n1, n2
abbrev pub simple : (ℕ → Head) → List ℕ → List ℕ → List ℕ → List ℕ
simple head times n1 n2 = simple_record (head (get_or times 0 0)) (drop 1 times ++ (n1 ++ n2))

abbrev pub times : ℕ → ℕ → ℕ → ℕ → List ℕ
times t0 t1 t2 t3 = t0 ∷ t1 ∷ t2 ∷ t3 ∷ t3 ∷ []

-- kind 3: codes, T0, step count, the numbers of the steps
abbrev pub stepped : (ℕ → Head) → ℕ → ℕ → List ℕ → List ℕ
stepped head t0 count steps = stepped_record (head t0) count steps

abbrev pub step : ℕ → List ℕ → List ℕ
step time counts = time ∷ counts
