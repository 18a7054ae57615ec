-- The theorem *customer by customer* (01, "What one event adds", Stepped). A step's share of the minutes is its duration once for each customer that
-- is off in it, which is its count times its duration; so step by step the two sums are one. Assumes nothing.
use Prim.Native.Nat.{ℕ, suc, ◌+◌, ◌*◌, ◌-◌, ◌<◌}
use mathlib.Core.Path.{◌≡◌, refl, sym, ap, ◌∙◌}
use mathlib.Core.List.{List, [], ◌∷◌, map}
use mathlib.Core.Bool.{Bool, true, false, cond}
use lib.ListN.{length, get_or, drop}
use native.Mathlib.Nat.{zero-mul, suc-mul}
use native.Mathlib.Omega.{arith}
use Rattle.base.specs.Lists.{sum, keep}
use Rattle.annex.specs.declared.Step.{Step}
use Rattle.annex.specs.Annex.{stepped, counts_of, weighed, njhtjh2}
use Rattle.law_people.specs.People.{durations, minutes_off, minutes_of_all, halves_of_all, was_off, off_in, Agrees}

-- the customers from the second step on
abbrev later : List (List Bool) → List (List Bool)
later customers = map (λ (c : List Bool). drop 1 c) customers

off_later : (k : ℕ) (customers : List (List Bool)) → off_in k (later customers) ≡ off_in (suc k) customers
off_later k [] = refl
off_later k ([] ∷ cs) = off_later k cs
off_later k ((off ∷ offs) ∷ cs) = go (was_off k offs) (off_later k cs)
  where
    go :
        (t : Bool) →
        off_in k (later cs) ≡ off_in (suc k) cs →
        length (cond t (offs ∷ keep (was_off k) (later cs)) (keep (was_off k) (later cs))) ≡
        length (cond t ((off ∷ offs) ∷ keep (was_off (suc k)) cs) (keep (was_off (suc k)) cs))
    go true e = ap suc e
    go false e = e

-- the minutes of all customers, of steps that last so long
abbrev total : List ℕ → List (List Bool) → ℕ
total ds customers = sum (map (λ (c : List Bool). minutes_off c ds) customers)

-- without a step nobody has minutes
no_steps : (customers : List (List Bool)) → total [] customers ≡ 0
no_steps [] = refl
no_steps ([] ∷ cs) = omega (arith, no_steps cs)
no_steps ((off ∷ offs) ∷ cs) = omega (arith, no_steps cs)

-- the first step counts once for each customer that is off in it
first_step : (d : ℕ) (ds : List ℕ) (customers : List (List Bool)) → total (d ∷ ds) customers ≡ off_in 0 customers * d + total ds (later customers)
first_step d ds [] = rw zero-mul
first_step d ds ([] ∷ cs) = omega (arith, first_step d ds cs)
first_step d ds ((true ∷ offs) ∷ cs) = omega (arith, first_step d ds cs, suc-mul (off_in 0 cs) d)
first_step d ds ((false ∷ offs) ∷ cs) = omega (arith, first_step d ds cs)

steps_by_customer :
    (h before : ℕ) (ss : List Step) (customers : List (List Bool)) →
    ((k : ℕ) → k < length ss → off_in k customers ≡ get_or (counts_of h ss) k 0) →
    weighed h before ss ≡ minutes_of_all before ss customers
steps_by_customer h before [] customers e = sym (no_steps customers)
steps_by_customer h before (s ∷ ss) customers e =
    let rest : weighed h s.time ss ≡ minutes_of_all s.time ss (later customers) =
    steps_by_customer h s.time ss (later customers) (λ k l. off_later k customers ∙ e (suc k) (omega (arith, l))) in
    (λ i. sym (e 0 (omega arith)) i * (s.time - before) + rest i) ∙ sym (first_step (s.time - before) (durations s.time ss) customers)

-- an event's half customer-minutes on a level are twice the minutes added customer by customer
pub by_customer :
    (h t0 : ℕ) (ss : List Step) (customers : List (List Bool)) →
    Agrees h ss customers →
    njhtjh2 h (stepped t0 ss) ≡ halves_of_all t0 ss customers
unfolding njhtjh2
by_customer h t0 ss customers agrees = ap (λ n. 2 * n) (steps_by_customer h t0 ss customers agrees.counts)
