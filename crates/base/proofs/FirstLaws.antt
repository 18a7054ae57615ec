-- The first rule that applies. Assumes nothing.
use Prim.Native.Nat.{ℕ, ◌<◌, ◌≤◌}
use mathlib.Core.Path.{◌≡◌, refl, sym, ◌∙◌, ap}
use mathlib.Core.Logic.{◌↔◌}
use mathlib.Core.List.{List, [], ◌∷◌, map}
use mathlib.Core.Bool.{Bool, true, false, cond, ◌||◌, or-true}
use lib.Dec.{eqb, ltb→lt}
use native.Mathlib.Omega.{arith}
use borrow.Author.Tests.{eqb-true, eqb-false, eq-eqb, ne_eqb}
use Rattle.base.specs.First.{Rule, first, rule_of, NoRule, Clear, Foremost, Rising}
use Rattle.base.specs.Lists.{listed}

one : (n : ℕ) (b : Bool) (rest k : ℕ) → k < n → cond b n rest ≡ 0 → (b ≡ false) × (rest ≡ 0)
one n true rest k l e = absurd (let z : n ≡ 0 = e in omega arith)
one n false rest k l e = (refl, e)

-- an answer of 0: no rule applies
pub clear : (k : ℕ) (rs : List Rule) → Rising k rs → first rs ≡ 0 → Clear rs
clear k [] r e = tt
clear k (q ∷ rs) r e = let o = one q.0 q.1 (first rs) k (ltb→lt k q.0 r.0) e in (o.0, clear q.0 rs r.1 o.1)

-- and the other way round
pub unclear : (rs : List Rule) → Clear rs → first rs ≡ 0
unclear [] c = refl
unclear (r ∷ rs) c = ap (λ t. cond t r.0 (first rs)) c.0 ∙ unclear rs c.1

-- no number at or below the one from which the rules rise is answered, but 0
above : (k n : ℕ) (rs : List Rule) → Rising k rs → first rs ≡ n → (n ≡ 0 → ⊥) → k < n
above k n [] r e z = absurd (z (sym e))
above k n (q ∷ rs) r e z = go (ltb→lt k q.0 r.0) (λ m. above q.0 n rs r.1 m z) q.1 refl
  where
    go : k < q.0 → (first rs ≡ n → q.0 < n) → (t : Bool) → q.1 ≡ t → k < n
    go l ih true f = let m : q.0 ≡ n = ap (λ t. cond t q.0 (first rs)) (sym f) ∙ e in omega arith
    go l ih false f = let u : q.0 < n = ih (ap (λ t. cond t q.0 (first rs)) (sym f) ∙ e) in omega arith

-- exactly then: the answer is n just where rule n applies and no rule before it does
module _ (n : ℕ) where
  exactly : (k : ℕ) (rs : List Rule) → Rising k rs → first rs ≡ n → Foremost n rs
  exactly k [] r e = sym e
  exactly k (q ∷ rs) r e = go (eqb q.0 n) refl q.1 refl (exactly q.0 rs r.1)
    where
      go : (s : Bool) → eqb q.0 n ≡ s → (t : Bool) → q.1 ≡ t → (first rs ≡ n → Foremost n rs) → cond s (q.1 ≡ true) ((q.1 ≡ false) × Foremost n rs)
      go true a true b ih = b
      go true a false b ih =
          let m : first rs ≡ n = ap (λ t. cond t q.0 (first rs)) (sym b) ∙ e in
          let i : q.0 ≡ n = eqb-true q.0 n a in
          let l : k < q.0 = ltb→lt k q.0 r.0 in
          let z : n ≡ 0 → ⊥ = λ z. omega arith in
          let u : q.0 < n = above q.0 n rs r.1 m z in
          absurd (omega arith)
      go false a true b ih = absurd (eqb-false q.0 n a (ap (λ t. cond t q.0 (first rs)) (sym b) ∙ e))
      go false a false b ih = (b, ih (ap (λ t. cond t q.0 (first rs)) (sym b) ∙ e))

  -- where n is foremost it is the answer, also of rules whose numbers do not rise
  pub then : (rs : List Rule) → Foremost n rs → first rs ≡ n
  then [] f = sym f
  then (q ∷ rs) f = go (eqb q.0 n) refl f (then rs)
    where
      go : (s : Bool) → eqb q.0 n ≡ s → cond s (q.1 ≡ true) ((q.1 ≡ false) × Foremost n rs) → (Foremost n rs → first rs ≡ n) → cond q.1 q.0 (first rs) ≡ n
      go true a g ih = ap (λ t. cond t q.0 (first rs)) g ∙ eqb-true q.0 n a
      go false a g ih = ap (λ t. cond t q.0 (first rs)) g.0 ∙ ih g.1

-- of rules whose numbers rise from above 0: the answer is n exactly where n is foremost
pub exactly_then : (n : ℕ) (rs : List Rule) → Rising 0 rs → (first rs ≡ n) ↔ Foremost n rs
exactly_then n rs r = (exactly n 0 rs r, then n rs)

-- where no rule applies, none of any number does
pub clear_at : (rs : List Rule) → Clear rs → NoRule rs
clear_at [] c n = refl
clear_at (r ∷ rs) c n = go (eqb r.0 n) (clear_at rs c.1 n)
  where
    go : (t : Bool) → rule_of n rs ≡ false → cond t r.1 (rule_of n rs) ≡ false
    go true e = c.0
    go false e = e

-- rules that rise from a number on have none at or below it
none_below : (k n : ℕ) (rs : List Rule) → Rising k rs → n ≤ k → rule_of n rs ≡ false
none_below k n [] r l = refl
none_below k n (q ∷ rs) r l =
    let above : k < q.0 = ltb→lt k q.0 r.0 in
    ap (λ t. cond t q.1 (rule_of n rs)) (ne_eqb q.0 n (λ e. omega arith)) ∙ none_below q.0 n rs r.1 (omega arith)

-- where a number is answered, it applies, and none below it does
module _ (n : ℕ) where
  pub answered_rule : (rs : List Rule) → first rs ≡ n → (n ≡ 0 → ⊥) → (k : ℕ) → Rising k rs → rule_of n rs ≡ true
  answered_rule [] e z k r = absurd (z (sym e))
  answered_rule (q ∷ rs) e z k r = go (λ f. answered_rule rs f z q.0 r.1) q.1 refl (eqb q.0 n) refl
    where
      go : (first rs ≡ n → rule_of n rs ≡ true) → (t : Bool) → q.1 ≡ t → (s : Bool) → eqb q.0 n ≡ s → cond s q.1 (rule_of n rs) ≡ true
      go ih true b true a = b
      go ih true b false a = absurd (eqb-false q.0 n a (ap (λ t. cond t q.0 (first rs)) (sym b) ∙ e))
      go ih false b true a =
          let m : first rs ≡ n = ap (λ t. cond t q.0 (first rs)) (sym b) ∙ e in
          let u : q.0 < n = above q.0 n rs r.1 m z in
          absurd (omega (arith, u, eqb-true q.0 n a))
      go ih false b false a = ih (ap (λ t. cond t q.0 (first rs)) (sym b) ∙ e)

  pub passed_rule : (i : ℕ) → i < n → (rs : List Rule) → first rs ≡ n → (k : ℕ) → Rising k rs → rule_of i rs ≡ false
  passed_rule i l [] e k r = refl
  passed_rule i l (q ∷ rs) e k r = go (λ f. passed_rule i l rs f q.0 r.1) q.1 refl (eqb q.0 i) refl
    where
      go : (first rs ≡ n → rule_of i rs ≡ false) → (t : Bool) → q.1 ≡ t → (s : Bool) → eqb q.0 i ≡ s → cond s q.1 (rule_of i rs) ≡ false
      go ih true b true a =
          let m : q.0 ≡ n = ap (λ t. cond t q.0 (first rs)) (sym b) ∙ e in
          absurd (omega (arith, m, eqb-true q.0 i a))
      go ih true b false a =
          let m : q.0 ≡ n = ap (λ t. cond t q.0 (first rs)) (sym b) ∙ e in
          none_below q.0 i rs r.1 (omega arith)
      go ih false b true a = b
      go ih false b false a = ih (ap (λ t. cond t q.0 (first rs)) (sym b) ∙ e)

-- the first number is 0 or a number of the list
pub first_listed : (rs : List Rule) → (eqb (first rs) 0 || listed (first rs) (map (λ (r : Rule). r.0) rs)) ≡ true
first_listed [] = refl
first_listed (r ∷ rs) = go r.1 (first_listed rs)
  where
    numbers : List ℕ
    numbers = map (λ (r : Rule). r.0) rs

    between : (a b c : Bool) → (a || c) ≡ true → (a || (b || c)) ≡ true
    between true b c e = refl
    between false true c e = refl
    between false false c e = e

    go :
        (t : Bool) →
        (eqb (first rs) 0 || listed (first rs) numbers) ≡ true →
        let x = cond t r.0 (first rs) in
        (eqb x 0 || (eqb x r.0 || listed x numbers)) ≡ true
    go true h = rw (eq-eqb r.0 r.0 refl) (or-true (eqb r.0 0))
    go false h = between (eqb (first rs) 0) (eqb (first rs) r.0) (listed (first rs) numbers) h
