-- What a part more of a line adds to its numbers: a run takes the next place, a part of nothing none. Assumes nothing.
use denote.Ref.{Bor}
use Rattle.std.proofs.Common.{◌≡◌, ℕ, zero, suc, ◌+◌, ◌<◌, ◌≤◌, List, [], ◌∷◌, ◌++◌, length, set, take, replicate, map, min, fold, sym, ap, ◌∙◌, arith}
use Rattle.std.proofs.lemmas.List.{map-append, append_assoc, length-append, length-map, take-append-le, take-replicate}
use Rattle.std.proofs.lemmas.Grind.{common_steps}
use Rattle.cases.specs.Runs.{runs_in, numbers_in, twelve_of, wrapped}

-- ---- the runs

-- the bytes of the parts that a line was split into
abbrev pub texts : List (Bor (List ℕ)) → List (List ℕ)
texts parts = map (λ part. part.now) parts

more_some : (parts : List (List ℕ)) (part : List ℕ) → 0 < length part → runs_in (parts ++ part ∷ []) ≡ runs_in parts ++ part ∷ []
more_some [] part some = grind (arith, common_steps)
more_some (first ∷ parts) part some = let rest = more_some parts part some in grind (arith, common_steps)

more_none : (parts : List (List ℕ)) (part : List ℕ) → length part ≡ 0 → runs_in (parts ++ part ∷ []) ≡ runs_in parts
more_none [] part none = grind (arith, common_steps)
more_none (first ∷ parts) part none = let rest = more_none parts part none in grind (arith, common_steps)

pub runs-more : (parts : List (Bor (List ℕ))) (part : Bor (List ℕ)) → 0 < length part.now
    → runs_in (texts (parts ++ part ∷ [])) ≡ runs_in (texts parts) ++ part.now ∷ []
runs-more parts part some = ap runs_in (map-append (λ p. p.now) parts (part ∷ [])) ∙ more_some (texts parts) part.now some

pub runs-same : (parts : List (Bor (List ℕ))) (part : Bor (List ℕ)) → length part.now ≡ 0 → runs_in (texts (parts ++ part ∷ [])) ≡ runs_in (texts parts)
runs-same parts part none = ap runs_in (map-append (λ p. p.now) parts (part ∷ [])) ∙ more_none (texts parts) part.now none

-- ---- the first twelve

-- a number set behind those that stand in front of zeros
set-room : (numbers : List ℕ) (m r n : ℕ) → length numbers < m → m ≤ length numbers + r
    → set (take m (numbers ++ replicate r 0)) (length numbers) n ≡ take m (numbers ++ n ∷ replicate r 0)
set-room [] zero r n room fits = absurd (omega arith)
set-room [] (suc m) zero n room fits = absurd (omega arith)
set-room [] (suc m) (suc r) n room fits = ap (λ ys. n ∷ ys) (take-replicate m r 0 (omega arith) ∙ sym (take-replicate m (suc r) 0 (omega arith)))
set-room (x ∷ numbers) zero r n room fits = absurd (omega arith)
set-room (x ∷ numbers) (suc m) r n room fits = ap (λ ys. x ∷ ys) (set-room numbers m r n (omega arith) (omega arith))

twelve-more : (numbers : List ℕ) (n : ℕ) → length numbers < 12 → set (twelve_of numbers) (length numbers) n ≡ twelve_of (numbers ++ n ∷ [])
twelve-more numbers n room = set-room numbers 12 12 n room (omega arith) ∙ ap (take 12) (sym (append_assoc numbers (n ∷ []) (replicate 12 0)))

twelve-full : (numbers : List ℕ) (n : ℕ) → 12 ≤ length numbers → twelve_of (numbers ++ n ∷ []) ≡ twelve_of numbers
twelve-full numbers n full =
    ap (take 12) (append_assoc numbers (n ∷ []) (replicate 12 0)) ∙ take-append-le 12 numbers _ full ∙ sym (take-append-le 12 numbers _ full)

numbers-more : (runs : List (List ℕ)) (run : List ℕ) → numbers_in (runs ++ run ∷ []) ≡ numbers_in runs ++ fold wrapped 0 run ∷ []
numbers-more runs run = map-append (fold wrapped 0) runs (run ∷ [])

-- what the code holds of the numbers of runs: how many of them have a place, and what stands at the places
abbrev pub Told : List (List ℕ) → ℕ → List ℕ → Type 0
Told runs count values = (count ≡ min 12 (length runs)) × (values ≡ twelve_of (numbers_in runs))

-- a run that has a place is counted, and its number set there
counted : (runs : List (List ℕ)) (run : List ℕ) (count : ℕ) (values : List ℕ) → count < 12 → Told runs count values
    → Told (runs ++ run ∷ []) (count + 1) (set values count (fold wrapped 0 run))
counted runs run count values room told =
    let n = fold wrapped 0 run in
    let all : length (numbers_in runs) ≡ length runs = length-map runs (fold wrapped 0) in
    let here : count ≡ length (numbers_in runs) = omega arith in (
      omega (arith, length-append runs (run ∷ [])),
      ap (λ v. set v count n) told.1 ∙ ap (λ i. set (twelve_of (numbers_in runs)) i n) here ∙ twelve-more (numbers_in runs) n (omega arith)
          ∙ ap twelve_of (sym (numbers-more runs run)),
    )

-- and behind the twelfth nothing changes
passed : (runs : List (List ℕ)) (run : List ℕ) (count : ℕ) (values : List ℕ) → 12 ≤ count → Told runs count values → Told (runs ++ run ∷ []) count values
passed runs run count values full told =
    let all : length (numbers_in runs) ≡ length runs = length-map runs (fold wrapped 0) in (
      omega (arith, length-append runs (run ∷ [])),
      told.1 ∙ sym (ap twelve_of (numbers-more runs run) ∙ twelve-full (numbers_in runs) (fold wrapped 0 run) (omega arith)),
    )

-- the same of a part more of the line: a run that has a place, a run that has none, and a part of nothing
pub told-counted : (parts : List (Bor (List ℕ))) (part : Bor (List ℕ)) (count n : ℕ) (values : List ℕ) → 0 < length part.now → count < 12
    → Told (runs_in (texts parts)) count values → n ≡ fold wrapped 0 part.now → Told (runs_in (texts (parts ++ part ∷ []))) (count + 1) (set values count n)
told-counted parts part count n values some room told is =
    rw (runs-more parts part some, is) (counted (runs_in (texts parts)) part.now count values room told)

pub told-passed : (parts : List (Bor (List ℕ))) (part : Bor (List ℕ)) (count : ℕ) (values : List ℕ) → 0 < length part.now → 12 ≤ count
    → Told (runs_in (texts parts)) count values → Told (runs_in (texts (parts ++ part ∷ []))) count values
told-passed parts part count values some full told = rw (runs-more parts part some) (passed (runs_in (texts parts)) part.now count values full told)

pub told-same : (parts : List (Bor (List ℕ))) (part : Bor (List ℕ)) (count : ℕ) (values : List ℕ) → length part.now ≡ 0
    → Told (runs_in (texts parts)) count values → Told (runs_in (texts (parts ++ part ∷ []))) count values
told-same parts part count values none told = rw (runs-same parts part none) told
