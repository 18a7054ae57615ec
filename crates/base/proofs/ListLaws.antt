-- Tests and lookups over a list, element by element, as a loop meets them. Assumes nothing.
use Prim.Native.Nat.{ℕ, zero, suc, ◌+◌, ◌<◌, ◌≤◌}
use mathlib.Core.Path.{◌≡◌, refl, ap, ◌∙◌, sym, subst}
use mathlib.Core.Bool.{Bool, true, false, ◌&&◌, ◌||◌, cond, or_assoc, or-false, and_assoc, and-true}
use mathlib.Core.List.{List, [], ◌∷◌, ◌++◌, map}
use lib.ListN.{length, get_or, set, take, drop, replicate, take-append-drop, drop_of_length-le}
use lib.Seq.{drop-cons}
use lib.Dec.{eqb, ltb}
use native.Mathlib.Numerals.{add-one}
use native.Mathlib.Omega.{arith}
use borrow.Author.Tests.{eq-eqb, ne_eqb, ltb-true}
use native.Mathlib.Nat.{le_of_suc-le-suc, not-suc-le-zero}
use Rattle.base.specs.Lists.{every, any, listed, keep, All, Bytes}
use Rattle.base.proofs.TestLaws.{and_left, and_right, and_both}

-- a test of every element that has seen the first i, and goes on
pub every_more : {A : Type 0} (f : A → Bool) (d : A) (i : ℕ) (ok : Bool) (xs : List A) → i < length xs → (ok && every f (drop i xs)) ≡ (ok && f (get_or xs i d) && every f (drop (i + 1) xs))
every_more f d i ok xs h = rw (add-one, drop-cons xs i d) (sym (and_assoc ok (f (get_or xs i d)) (every f (drop (suc i) xs))))

pub every_ends : {A : Type 0} (f : A → Bool) (i : ℕ) (ok : Bool) (xs : List A) → length xs ≤ i → (ok && every f (drop i xs)) ≡ ok
every_ends f i ok xs h = rw (drop_of_length-le xs h) (and-true ok)

-- what holds of each holds at an index
pub every_at : {A : Type 0} (f : A → Bool) (d : A) (xs : List A) → every f xs ≡ true → (i : ℕ) → i < length xs → f (get_or xs i d) ≡ true
every_at f d [] e i h = absurd (not-suc-le-zero h)
every_at f d (x ∷ xs) e zero h = and_left (f x) (every f xs) e
every_at f d (x ∷ xs) e (suc i) h = every_at f d xs (and_right (f x) (every f xs) e) i (le_of_suc-le-suc h)

-- it holds of each after a store, where it holds of what is stored
pub every_set : {A : Type 0} (f : A → Bool) (xs : List A) (i : ℕ) (a : A) → every f xs ≡ true → f a ≡ true → every f (set xs i a) ≡ true
every_set f [] i a e h = refl
every_set f (x ∷ xs) zero a e h = and_both (f a) (every f xs) h (and_right (f x) (every f xs) e)
every_set f (x ∷ xs) (suc i) a e h = and_both (f x) (every f (set xs i a)) (and_left (f x) (every f xs) e) (every_set f xs i a (and_right (f x) (every f xs) e) h)

-- a test of every element, also of what is read past the end
pub every_or_default : {A : Type 0} (f : A → Bool) (d : A) (xs : List A) → every f xs ≡ true → f d ≡ true → (i : ℕ) → f (get_or xs i d) ≡ true
every_or_default f d [] e h i = h
every_or_default f d (x ∷ xs) e h zero = and_left (f x) (every f xs) e
every_or_default f d (x ∷ xs) e h (suc i) = every_or_default f d xs (and_right (f x) (every f xs) e) h i

-- a weaker test passes too
pub every_weaker : {A : Type 0} (f g : A → Bool) → ((x : A) → f x ≡ true → g x ≡ true) → (xs : List A) → every f xs ≡ true → every g xs ≡ true
every_weaker f g h [] e = refl
every_weaker f g h (x ∷ xs) e = and_both (g x) (every g xs) (h x (and_left (f x) (every f xs) e)) (every_weaker f g h xs (and_right (f x) (every f xs) e))

-- a lookup that has seen the first i entries, and goes on
pub listed_more : (x i : ℕ) (hit : Bool) (t : List ℕ) → i < length t → (hit || listed x (drop i t)) ≡ (hit || eqb x (get_or t i 0) || listed x (drop (i + 1) t))
listed_more x i hit t h = rw (add-one, drop-cons t i 0) (sym (or_assoc hit (eqb x (get_or t i 0)) (listed x (drop (suc i) t))))

pub listed_ends : (x i : ℕ) (hit : Bool) (t : List ℕ) → length t ≤ i → (hit || listed x (drop i t)) ≡ hit
listed_ends x i hit t h = rw (drop_of_length-le t h) (or-false hit)

-- a lookup that stops at a hit: the entry at i has the number, or has another and the lookup goes on, or there is no entry left
module _ (x i : ℕ) (t : List ℕ) where
  pub listed_here : i < length t → x ≡ get_or t i 0 → listed x (drop i t) ≡ true
  listed_here h e = listed_more x i false t h ∙ ap (λ b. b || listed x (drop (i + 1) t)) (eq-eqb x (get_or t i 0) e)

  pub listed_past : i < length t → (x ≡ get_or t i 0 → ⊥) → listed x (drop i t) ≡ listed x (drop (i + 1) t)
  listed_past h n = listed_more x i false t h ∙ ap (λ b. b || listed x (drop (i + 1) t)) (ne_eqb x (get_or t i 0) n)

  pub listed_none : length t ≤ i → listed x (drop i t) ≡ false
  listed_none h = listed_ends x i false t h

-- what holds of each of two lists holds of each of the two put one after the other, and back
module _ {A : Type 0} (P : A → Type 0) where
  pub all_append : (xs ys : List A) → All P xs → All P ys → All P (xs ++ ys)
  all_append [] ys a b = b
  all_append (x ∷ xs) ys a b = (a.0, all_append xs ys a.1 b)

  pub all_front : (xs ys : List A) → All P (xs ++ ys) → All P xs
  all_front [] ys a = tt
  all_front (x ∷ xs) ys a = (a.0, all_front xs ys a.1)

  pub all_back : (xs ys : List A) → All P (xs ++ ys) → All P ys
  all_back [] ys a = a
  all_back (x ∷ xs) ys a = all_back xs ys a.1

  -- so what holds of each of a list holds of each of its first elements, and of those after them
  pub all_take : (n : ℕ) (xs : List A) → All P xs → All P (take n xs)
  all_take n xs a = all_front (take n xs) (drop n xs) (subst (All P) (sym (take-append-drop n xs)) a)

  pub all_drop : (n : ℕ) (xs : List A) → All P xs → All P (drop n xs)
  all_drop n xs a = all_back (take n xs) (drop n xs) (subst (All P) (sym (take-append-drop n xs)) a)

  -- and of a list with one element more at the end
  pub all_snoc : (xs : List A) (y : A) → All P xs → P y → All P (xs ++ y ∷ [])
  all_snoc xs y a p = all_append xs (y ∷ []) a (p, tt)

  -- what holds of an element holds of each of its copies
  pub all_alike : (n : ℕ) (x : A) → P x → All P (replicate n x)
  all_alike zero x p = tt
  all_alike (suc n) x p = (p, all_alike n x p)

-- what holds of each where P gives Q, where P and Q give R, and through a map
pub all_map : {A : Type 0} {P Q : A → Type 0} → ((x : A) → P x → Q x) → (xs : List A) → All P xs → All Q xs
all_map f [] a = tt
all_map f (x ∷ xs) a = (f x a.0, all_map f xs a.1)

pub all_both : {A : Type 0} {P Q R : A → Type 0} → ((x : A) → P x → Q x → R x) → (xs : List A) → All P xs → All Q xs → All R xs
all_both f [] a b = tt
all_both f (x ∷ xs) a b = (f x a.0 b.0, all_both f xs a.1 b.1)

pub all_of_map : {A B : Type 0} (P : B → Type 0) (f : A → B) (xs : List A) → All (λ x. P (f x)) xs → All P (map f xs)
all_of_map P f [] a = tt
all_of_map P f (x ∷ xs) a = (a.0, all_of_map P f xs a.1)

-- copies of one element have it at any index, past them too
pub alike_at : {A : Type 0} (n i : ℕ) (a : A) → get_or (replicate n a) i a ≡ a
alike_at zero i a = refl
alike_at (suc n) zero a = refl
alike_at (suc n) (suc i) a = alike_at n i a

-- some element of two lists
pub any_append : {A : Type 0} (f : A → Bool) (xs ys : List A) → any f (xs ++ ys) ≡ (any f xs || any f ys)
any_append f [] ys = refl
any_append f (x ∷ xs) ys = ap (λ (t : Bool). f x || t) (any_append f xs ys) ∙ sym (or_assoc (f x) (any f xs) (any f ys))

-- ---- those that are kept

-- what holds of each holds of those that are kept
pub all_kept : {A : Type 0} (P : A → Type 0) (f : A → Bool) (xs : List A) → All P xs → All P (keep f xs)
all_kept P f [] a = tt
all_kept P f (x ∷ xs) a = go (f x) (all_kept P f xs a.1)
  where
    go : (t : Bool) → All P (keep f xs) → All P (cond t (x ∷ keep f xs) (keep f xs))
    go true h = (a.0, h)
    go false h = h

module _ {A : Type 0} (f : A → Bool) where
  pub keep_append : (xs ys : List A) → keep f (xs ++ ys) ≡ keep f xs ++ keep f ys
  keep_append [] ys = refl
  keep_append (x ∷ xs) ys = go (f x) (keep_append xs ys)
    where
      go :
          (t : Bool) →
          keep f (xs ++ ys) ≡ keep f xs ++ keep f ys →
          cond t (x ∷ keep f (xs ++ ys)) (keep f (xs ++ ys)) ≡ cond t (x ∷ keep f xs) (keep f xs) ++ keep f ys
      go true h = ap (λ (zs : List A). x ∷ zs) h
      go false h = h

  -- those that pass pass again
  pub keep_again : (xs : List A) → keep f (keep f xs) ≡ keep f xs
  keep_again [] = refl
  keep_again (x ∷ xs) = go (f x) refl (keep_again xs)
    where
      go : (t : Bool) → f x ≡ t → keep f (keep f xs) ≡ keep f xs → keep f (cond t (x ∷ keep f xs) (keep f xs)) ≡ cond t (x ∷ keep f xs) (keep f xs)
      go true e h = ap (λ (t : Bool). cond t (x ∷ keep f (keep f xs)) (keep f (keep f xs))) e ∙ ap (λ (zs : List A). x ∷ zs) h
      go false e h = h

-- two tests that agree keep the same
pub keep_alike : {A : Type 0} (f g : A → Bool) → ((x : A) → f x ≡ g x) → (xs : List A) → keep f xs ≡ keep g xs
keep_alike f g e [] = refl
keep_alike f g e (x ∷ xs) = λ i. cond (e x i) (x ∷ keep_alike f g e xs i) (keep_alike f g e xs i)

-- ---- bytes

-- what is read of bytes is below 256, also past the end
pub byte_at_lem : (s : List ℕ) → Bytes s → (i : ℕ) → get_or s i 0 < 256
byte_at_lem [] b i = omega arith
byte_at_lem (x ∷ s) b zero = b.0
byte_at_lem (x ∷ s) b (suc i) = byte_at_lem s b.1 i

-- by a test, as of bytes that are written out
pub bytes_by_test : (s : List ℕ) → every (λ b. ltb b 256) s ≡ true → Bytes s
bytes_by_test [] e = tt
bytes_by_test (b ∷ s) e =
    let f : ℕ → Bool = λ x. ltb x 256 in
    (ltb-true b 256 (and_left (f b) (every f s) e), bytes_by_test s (and_right (f b) (every f s) e))

pub all_bytes_by_test : (ss : List (List ℕ)) → every (λ s. every (λ b. ltb b 256) s) ss ≡ true → All Bytes ss
all_bytes_by_test [] e = tt
all_bytes_by_test (s ∷ ss) e =
    let f : List ℕ → Bool = λ x. every (λ b. ltb b 256) x in
    (bytes_by_test s (and_left (f s) (every f ss) e), all_bytes_by_test ss (and_right (f s) (every f ss) e))

-- a list of three is its three elements
pub three : {A : Type 0} (d : A) (xs : List A) → length xs ≡ 3 → get_or xs 0 d ∷ get_or xs 1 d ∷ get_or xs 2 d ∷ [] ≡ xs
three d [] e = absurd (omega arith)
three d (a ∷ []) e = absurd (omega arith)
three d (a ∷ b ∷ []) e = absurd (omega arith)
three d (a ∷ b ∷ c ∷ []) e = refl
three d (a ∷ b ∷ c ∷ x ∷ xs) e = absurd (omega arith)
