-- A comparison and a lookup over a table of numbers, entry by entry, as a loop meets them. Assumes nothing.
use Prim.Native.Nat.{ℕ, suc, ◌+◌, ◌<◌, ◌≤◌}
use mathlib.Core.Path.{◌≡◌, refl, sym, ◌∙◌, ap}
use mathlib.Core.Bool.{Bool, true, false, ◌&&◌, ◌||◌, not, cond, and_assoc, and-true, or-false}
use mathlib.Core.List.{List}
use lib.ListN.{length, get_or, drop, drop_of_length-le}
use lib.Seq.{drop-cons}
use lib.Dec.{eqb, leb}
use native.Mathlib.Numerals.{add-one}
use native.Mathlib.Omega.{arith}
use borrow.Author.Tests.{le-leb, leb-true, leb-false}
use Rattle.base.specs.Lists.{listed}
use Rattle.base.proofs.ListLaws.{listed_more, listed_ends}
use Rattle.desk_scan.specs.Desk.{differ}

-- a comparison that has seen the first i entries goes on, and ends
pub differ_more : (t : List ℕ) (i : ℕ) (ok : Bool) → i < length t → (ok && differ (drop i t)) ≡ (ok && (eqb (get_or t i 0) 0 || not (listed (get_or t i 0) (drop (i + 1) t))) && differ (drop (i + 1) t))
differ_more t i ok l =
    rw (add-one, drop-cons t i 0 l)
    (sym (and_assoc ok (eqb (get_or t i 0) 0 || not (listed (get_or t i 0) (drop (suc i) t))) (differ (drop (suc i) t))))

pub differ_ends : (t : List ℕ) (i : ℕ) (ok : Bool) → length t ≤ i → (ok && differ (drop i t)) ≡ ok
differ_ends t i ok over = rw (drop_of_length-le t over) (and-true ok)

-- a lookup from an index on, which has seen the first i entries and counts those from the index on: what is left of it begins here
abbrev pub standing : ℕ → ℕ → ℕ
standing start i = cond (leb start i) i start

module _ (x start : ℕ) (t : List ℕ) where
  -- before the first entry all of it is left; an entry from the index on counts where it is the number; past the last entry none is left
  pub lookup_begins : listed x (drop start t) ≡ listed x (drop (standing start 0) t)
  lookup_begins = go (leb start 0) refl
    where
      go : (b : Bool) → leb start 0 ≡ b → listed x (drop start t) ≡ listed x (drop (cond b 0 start) t)
      go true e = let z : start ≡ 0 = omega (arith, leb-true start 0 e) in ap (λ k. listed x (drop k t)) z
      go false e = refl

  pub lookup_more : (i : ℕ) (hit : Bool) → i < length t → (hit || listed x (drop (standing start i) t)) ≡ (hit || (leb start i && eqb x (get_or t i 0)) || listed x (drop (standing start (i + 1)) t))
  lookup_more i hit l = go (leb start i) refl
    where
      next : i < start → standing start (i + 1) ≡ start
      next before = other (leb start (i + 1)) refl
        where
          other : (b : Bool) → leb start (i + 1) ≡ b → cond b (i + 1) start ≡ start
          other true e = omega (arith, leb-true start (i + 1) e, before)
          other false e = refl

      go : (b : Bool) → leb start i ≡ b → (hit || listed x (drop (cond b i start) t)) ≡ (hit || (b && eqb x (get_or t i 0)) || listed x (drop (standing start (i + 1)) t))
      go true e =
          listed_more x i hit t l ∙
          ap (λ b. hit || eqb x (get_or t i 0) || listed x (drop (cond b (i + 1) start) t)) (sym (le-leb start (i + 1) (omega (arith, leb-true start i e))))
      go false e = λ k. sym (or-false hit) k || listed x (drop (sym (next (leb-false start i e)) k) t)

  pub lookup_ends : (i : ℕ) (hit : Bool) → length t ≤ i → (hit || listed x (drop (standing start i) t)) ≡ hit
  lookup_ends i hit over = go (leb start i) refl
    where
      go : (b : Bool) → leb start i ≡ b → (hit || listed x (drop (cond b i start) t)) ≡ hit
      go true e = listed_ends x i hit t over
      go false e = listed_ends x start hit t (omega (arith, over, leb-false start i e))
