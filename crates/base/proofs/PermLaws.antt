-- What a list in another order keeps: its length, what holds of each element, and every fold whose steps may be exchanged. Assumes nothing.
use Prim.Native.Nat.{suc}
use mathlib.Core.Path.{◌≡◌, refl, ap, ◌∙◌, subst}
use mathlib.Core.List.{List, [], ◌∷◌, ◌++◌, map, foldl, foldl-append, Permᴰ}
use lib.ListN.{length}
use Rattle.base.specs.Lists.{All}
use Rattle.base.specs.Perm.{Perm, done, keep, swap, then}

module _ {A : Type 0} where
  pub perm_refl : (xs : List A) → Perm xs xs
  perm_refl [] = done
  perm_refl (x ∷ xs) = keep (perm_refl xs)

  pub perm_sym : {xs ys : List A} → Perm xs ys → Perm ys xs
  perm_sym done = done
  perm_sym (keep p) = keep (perm_sym p)
  perm_sym swap = swap
  perm_sym (then p q) = then (perm_sym q) (perm_sym p)

  pub perm_length : {xs ys : List A} → Perm xs ys → length xs ≡ length ys
  perm_length done = refl
  perm_length (keep p) = ap suc (perm_length p)
  perm_length swap = refl
  perm_length (then p q) = perm_length p ∙ perm_length q

  -- what holds of each element
  pub perm_all : (P : A → Type 0) {xs ys : List A} → Perm xs ys → All P xs → All P ys
  perm_all P done a = a
  perm_all P (keep p) a = (a.0, perm_all P p a.1)
  perm_all P swap a = (a.1.0, (a.0, a.1.1))
  perm_all P (then p q) a = perm_all P q (perm_all P p a)

  -- these are the reorderings that the library of mathematics speaks of, and they are all of them
  pub perm_is : {xs ys : List A} → Perm xs ys → Permᴰ xs ys
  perm_is done = Permᴰ.nil
  perm_is (keep p) = Permᴰ.cons refl (perm_is p)
  perm_is swap = Permᴰ.swap refl refl
  perm_is (then p q) = Permᴰ.trans (perm_is p) (perm_is q)

  pub every_perm : {xs ys : List A} → Permᴰ xs ys → Perm xs ys
  every_perm Permᴰ.nil = done
  every_perm (Permᴰ.cons {a = a} {l₁ = xs} {l₂ = ys} e p) = subst (λ b. Perm (a ∷ xs) (b ∷ ys)) e (keep (every_perm p))
  every_perm (Permᴰ.swap {a = a} {b = b} {l = xs} e f) =
      let exchanged : Perm (a ∷ b ∷ xs) (b ∷ a ∷ xs) = swap in
      subst (λ (c : A × A). Perm (a ∷ b ∷ xs) (c.0 ∷ c.1 ∷ xs)) (λ i. (f i, e i)) exchanged
  every_perm (Permᴰ.trans p q) = then (every_perm p) (every_perm q)

  pub perm_map : {B : Type 0} (f : A → B) {xs ys : List A} → Perm xs ys → Perm (map f xs) (map f ys)
  perm_map f done = done
  perm_map f (keep p) = keep (perm_map f p)
  perm_map f swap = swap
  perm_map f (then p q) = then (perm_map f p) (perm_map f q)

  -- a fold whose steps may be exchanged comes to the same in any order
  pub fold_perm :
      {S : Type 0} (f : S → A → S) →
      ((s : S) (a b : A) → f (f s a) b ≡ f (f s b) a) →
      {xs ys : List A} →
      Perm xs ys →
      (s : S) →
      foldl f s xs ≡ foldl f s ys
  fold_perm f c done s = refl
  fold_perm f c (keep {a = a} p) s = fold_perm f c p (f s a)
  fold_perm f c (swap {a = a} {b = b} {xs = xs}) s = ap (λ t. foldl f t xs) (c s a b)
  fold_perm f c (then p q) s = fold_perm f c p s ∙ fold_perm f c q s

  -- of two lists one after the other, the second goes on where the first ended
  pub fold_append : {S : Type 0} (f : S → A → S) (s : S) (xs ys : List A) → foldl f s (xs ++ ys) ≡ foldl f (foldl f s xs) ys
  fold_append f s xs ys = foldl-append f s xs ys
