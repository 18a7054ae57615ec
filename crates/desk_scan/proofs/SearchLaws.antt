-- The search for a number: where it ends, what it passes, and what becomes of it where one slot is replaced; and that open numbers differ, as a
-- fact of any two slots. Each is an induction over the list. Assumes nothing.
use Prim.Native.Nat.{ℕ, zero, suc, ◌+◌, ◌≤◌, ◌<◌, suc-le-suc}
use mathlib.Core.Path.{◌≡◌, refl, sym, ◌∙◌, ap, subst}
use mathlib.Core.Logic.{◌≢◌}
use mathlib.Core.List.{List, [], ◌∷◌, map}
use mathlib.Core.Bool.{Bool, true, false, ◌&&◌, ◌||◌, not, cond}
use lib.ListN.{length, get_or, set, length-set, length-map, get_or-map}
use lib.Seq.{get_or-set_same, get_or-set_other, map-set_same}
use lib.Dec.{eqb}
use native.Mathlib.Omega.{arith}
use native.Mathlib.Decide.{ℕ_discrete}
use native.Mathlib.Nat.{not-suc-le-zero, le_of_suc-le-suc, suc_inj, suc-ne-zero, zero-lt-suc}
use borrow.Author.Tests.{eqb-true, eqb-false, eq-eqb, ne_eqb, not-true}
use Rattle.std.specs.List.{position_or_len}
use Rattle.std.proofs.lemmas.List.Recursion.{is_position_or_len}
use Rattle.base.specs.Lists.{every, listed, place}
use Rattle.base.proofs.ListLaws.{every_set}
use Rattle.base.proofs.PlaceLaws.{number_at_most, number_found_lem}
use Rattle.base.proofs.TestLaws.{and_left, and_right, and_both, or_both, or_left, or_right, or_other}
use Rattle.slot.specs.declared.Slot.{Slot}
use Rattle.slot.specs.Slot.{free_slot}
use Rattle.slot.specs.Sound.{is_free, slot_sound}
use Rattle.slot.proofs.SoundLaws.{free_sound}
use Rattle.desk_scan.specs.Desk.{slot_count, empty_desk, number_at, numbers_of, differ, desk_sound, place_of, slot_of}

-- ---- a list with one element replaced

-- what holds of the new element where it stands, and of the others where they stand
pub set_cases : {A : Type 0} (P : A → Type 0) (l : List A) (i j : ℕ) (a d : A) → i < length l → (j ≡ i → P a) → (j ≢ i → P (get_or l j d)) → P (get_or (set l i a) j d)
set_cases P l i j a d b p q = go (ℕ_discrete j i)
  where
    go : Dec (j ≡ i) → P (get_or (set l i a) j d)
    go (yes e) = rw (e, get_or-set_same l i a d b) (p e)
    go (no n) = rw (get_or-set_other l i j a d n) (q n)

-- mapped, it is the mapped list with the new element's value in that place
pub map_set : {A B : Type 0} (f : A → B) (l : List A) (i : ℕ) (a : A) → map f (set l i a) ≡ set (map f l) i (f a)
map_set f [] i a = refl
map_set f (x ∷ l) zero a = refl
map_set f (x ∷ l) (suc i) a = ap (λ k. f x ∷ k) (map_set f l i a)

-- ---- the search in a list of numbers

-- it is the library's search by a test
pub place_searched : (v : ℕ) (vs : List ℕ) → place v vs ≡ position_or_len (eqb v) vs
place_searched v = is_position_or_len (place v) (eqb v) refl (λ w vs. ap (cond (eqb v w) 0) (next (place v vs)))
  where
    next : (n : ℕ) → suc n ≡ 1 + n
    next n = omega arith

-- the search passes only what is not the number
pub number_before : (v : ℕ) (vs : List ℕ) (i : ℕ) → i < place v vs → get_or vs i 0 ≢ v
number_before v [] i l = absurd (not-suc-le-zero l)
number_before v (w ∷ vs) i l = go (eqb v w) refl i l (number_before v vs)
  where
    go : (t : Bool) → eqb v w ≡ t → (i : ℕ) → i < cond t 0 (suc (place v vs)) → ((i : ℕ) → i < place v vs → get_or vs i 0 ≢ v) → get_or (w ∷ vs) i 0 ≢ v
    go true e i l k q = not-suc-le-zero l
    go false e zero l k q = eqb-false v w e (sym q)
    go false e (suc i) l k q = k i (le_of_suc-le-suc l) q

-- so the first place that holds it is where the search ends
pub number_first : (v : ℕ) (vs : List ℕ) (i : ℕ) → i < length vs → get_or vs i 0 ≡ v → ((j : ℕ) → j < i → get_or vs j 0 ≢ v) → place v vs ≡ i
number_first v [] i l e h = absurd (not-suc-le-zero l)
number_first v (w ∷ vs) zero l e h = ap (λ t. cond t 0 (suc (place v vs))) (eq-eqb v w (sym e))
number_first v (w ∷ vs) (suc i) l e h =
    ap (λ t. cond t 0 (suc (place v vs))) (ne_eqb v w (λ q. h 0 (zero-lt-suc i) (sym q))) ∙
    ap suc (number_first v vs i (le_of_suc-le-suc l) e (λ j b. h (suc j) (suc-le-suc b)))

-- where no place holds it, the search passes the whole list
pub number_missing : (v : ℕ) (vs : List ℕ) → ((i : ℕ) → i < length vs → get_or vs i 0 ≢ v) → place v vs ≡ length vs
number_missing v [] h = refl
number_missing v (w ∷ vs) h =
    ap (λ t. cond t 0 (suc (place v vs))) (ne_eqb v w (λ q. h 0 (zero-lt-suc (length vs)) (sym q))) ∙
    ap suc (number_missing v vs (λ i b. h (suc i) (suc-le-suc b)))

-- a number that is not listed stands at no place, and one that stands at no place is not listed
pub listed_not : (v : ℕ) (vs : List ℕ) → listed v vs ≡ false → (i : ℕ) → i < length vs → get_or vs i 0 ≢ v
listed_not v [] e i l q = not-suc-le-zero l
listed_not v (w ∷ vs) e zero l q = eqb-false v w (or_left (eqb v w) (listed v vs) e) (sym q)
listed_not v (w ∷ vs) e (suc i) l q = listed_not v vs (or_right (eqb v w) (listed v vs) e) i (le_of_suc-le-suc l) q

pub not_listed_lem : (v : ℕ) (vs : List ℕ) → ((i : ℕ) → i < length vs → get_or vs i 0 ≢ v) → listed v vs ≡ false
not_listed_lem v [] h = refl
not_listed_lem v (w ∷ vs) h =
    or_both (eqb v w) (listed v vs)
    (ne_eqb v w (λ q. h 0 (zero-lt-suc (length vs)) (sym q)))
    (not_listed_lem v vs (λ i b. h (suc i) (suc-le-suc b)))

-- a place that holds a number other than 0 is one of the list's
pub number_within : (vs : List ℕ) (i : ℕ) → get_or vs i 0 ≢ 0 → i < length vs
number_within [] i n = absurd (n refl)
number_within (w ∷ vs) zero n = zero-lt-suc (length vs)
number_within (w ∷ vs) (suc i) n = suc-le-suc (number_within vs i n)

-- ---- numbers that differ

differ_head : (v : ℕ) (vs : List ℕ) → differ (v ∷ vs) ≡ true → v ≢ 0 → (i : ℕ) → get_or vs i 0 ≢ v
differ_head v vs e n i q =
    let a : (eqb v 0 || not (listed v vs)) ≡ true = and_left (eqb v 0 || not (listed v vs)) (differ vs) e in
    let b : not (listed v vs) ≡ true = or_other (eqb v 0) (not (listed v vs)) (ne_eqb v 0 n) a in
    listed_not v vs (not-true (listed v vs) b) i (number_within vs i (λ z. n (sym q ∙ z))) q

differ_tail : (v : ℕ) (vs : List ℕ) → differ (v ∷ vs) ≡ true → differ vs ≡ true
differ_tail v vs e = and_right (eqb v 0 || not (listed v vs)) (differ vs) e

differ_more : (v : ℕ) (vs : List ℕ) → (v ≢ 0 → (i : ℕ) → i < length vs → get_or vs i 0 ≢ v) → differ vs ≡ true → differ (v ∷ vs) ≡ true
differ_more v vs h e = and_both (eqb v 0 || not (listed v vs)) (differ vs) (go (eqb v 0) refl) e
  where
    go : (t : Bool) → eqb v 0 ≡ t → (t || not (listed v vs)) ≡ true
    go true f = refl
    go false f = ap not (not_listed_lem v vs (h (eqb-false v 0 f)))

-- a number other than 0 stands at one place only
pub numbers_apart : (vs : List ℕ) → differ vs ≡ true → (i j : ℕ) → get_or vs i 0 ≢ 0 → get_or vs i 0 ≡ get_or vs j 0 → i ≡ j
numbers_apart [] e i j n q = absurd (n refl)
numbers_apart (v ∷ vs) e zero zero n q = refl
numbers_apart (v ∷ vs) e zero (suc j) n q = absurd (differ_head v vs e n j (sym q))
numbers_apart (v ∷ vs) e (suc i) zero n q = absurd (differ_head v vs e (λ z. n (q ∙ z)) i q)
numbers_apart (v ∷ vs) e (suc i) (suc j) n q = ap suc (numbers_apart vs (differ_tail v vs e) i j n q)

-- and where this holds the numbers differ
pub numbers_differ : (vs : List ℕ) → ((i j : ℕ) → i < length vs → j < length vs → get_or vs i 0 ≢ 0 → get_or vs i 0 ≡ get_or vs j 0 → i ≡ j) → differ vs ≡ true
numbers_differ [] h = refl
numbers_differ (v ∷ vs) h =
    differ_more v vs
    (λ n i b q. suc-ne-zero i (sym (h 0 (suc i) (zero-lt-suc (length vs)) (suc-le-suc b) n (sym q))))
    (numbers_differ vs (λ i j b c n q. suc_inj (h (suc i) (suc j) (suc-le-suc b) (suc-le-suc c) n q)))

-- ---- a desk's numbers

-- there is one for each slot, at the slot's index, and where a slot is replaced its number is too
pub numbers_length : (d : List Slot) → length (numbers_of d) ≡ length d
numbers_length d = length-map d number_at

pub numbers_at : (d : List Slot) (i : ℕ) → get_or (numbers_of d) i 0 ≡ number_at (get_or d i free_slot)
numbers_at d i = get_or-map number_at d i free_slot

pub numbers_set : (d : List Slot) (i : ℕ) (a : Slot) → numbers_of (set d i a) ≡ set (numbers_of d) i (number_at a)
numbers_set d i a = map_set number_at d i a

-- a slot that keeps its number
pub numbers_same : (d : List Slot) (i : ℕ) (a : Slot) → number_at a ≡ number_at (get_or d i free_slot) → numbers_of (set d i a) ≡ numbers_of d
numbers_same d i a e = map-set_same number_at d i a free_slot e

-- the index of a slot that is not free is below the length
pub open_within : (d : List Slot) (i : ℕ) → number_at (get_or d i free_slot) ≢ 0 → i < length d
open_within d i n = subst (λ k. i < k) (numbers_length d) (number_within (numbers_of d) i (λ z. n (sym (numbers_at d i) ∙ z)))

-- ---- the search in a desk

-- the search passes at most every slot, and a slot where it ends holds the number
pub place_at_most : (v : ℕ) (d : List Slot) → place_of v d ≤ length d
place_at_most v d = subst (λ k. place_of v d ≤ k) (numbers_length d) (number_at_most v (numbers_of d))

pub found_number : (v : ℕ) (d : List Slot) → place_of v d < length d → number_at (get_or d (place_of v d) free_slot) ≡ v
found_number v d l = sym (numbers_at d (place_of v d)) ∙ number_found_lem v (numbers_of d) (subst (λ k. place_of v d < k) (sym (numbers_length d)) l)

-- the search passes only slots that do not hold the number: it ends at the lowest index
pub before : (v : ℕ) (d : List Slot) (i : ℕ) → i < place_of v d → number_at (get_or d i free_slot) ≢ v
before v d i l q = number_before v (numbers_of d) i l (numbers_at d i ∙ q)

-- where it passes every slot, none holds the number
pub absent : (v : ℕ) (d : List Slot) → length d ≤ place_of v d → (i : ℕ) → i < length d → number_at (get_or d i free_slot) ≢ v
absent v d l i b = before v d i (omega arith)

-- at no index at all, but for 0, which is read past the end
pub absent_open : (v : ℕ) (d : List Slot) → v ≢ 0 → length d ≤ place_of v d → (i : ℕ) → number_at (get_or d i free_slot) ≢ v
absent_open v d n l i q = absent v d l i (open_within d i (λ z. n (sym q ∙ z))) q

-- where no slot holds it, the search passes every slot
pub missing : (v : ℕ) (d : List Slot) → ((i : ℕ) → i < length d → number_at (get_or d i free_slot) ≢ v) → place_of v d ≡ length d
missing v d h =
    number_missing v (numbers_of d) (λ i b q. h i (subst (λ k. i < k) (numbers_length d) b) (sym (numbers_at d i) ∙ q)) ∙
    numbers_length d

-- the first slot that holds it is where the search ends
pub place_first : (v : ℕ) (d : List Slot) (i : ℕ) → i < length d → number_at (get_or d i free_slot) ≡ v → ((j : ℕ) → j < i → number_at (get_or d j free_slot) ≢ v) → place_of v d ≡ i
place_first v d i l e h =
    number_first v (numbers_of d) i (subst (λ k. i < k) (sym (numbers_length d)) l) (numbers_at d i ∙ e) (λ j b q. h j b (sym (numbers_at d j) ∙ q))

-- ---- open numbers differ

-- where they differ, no two indices hold one number other than 0; and the other way round
pub differ_apart : (d : List Slot) → differ (numbers_of d) ≡ true → (i j : ℕ) → number_at (get_or d i free_slot) ≢ 0 → number_at (get_or d i free_slot) ≡ number_at (get_or d j free_slot) → i ≡ j
differ_apart d e i j n q = numbers_apart (numbers_of d) e i j (λ z. n (sym (numbers_at d i) ∙ z)) (numbers_at d i ∙ q ∙ sym (numbers_at d j))

pub apart_differ : (d : List Slot) → ((i j : ℕ) → i < length d → j < length d → number_at (get_or d i free_slot) ≢ 0 → number_at (get_or d i free_slot) ≡ number_at (get_or d j free_slot) → i ≡ j) → differ (numbers_of d) ≡ true
apart_differ d h =
    numbers_differ (numbers_of d) (λ i j b c n q. h i j (below i b) (below j c) (λ z. n (numbers_at d i ∙ z)) (sym (numbers_at d i) ∙ q ∙ numbers_at d j))
  where
    below : (i : ℕ) → i < length (numbers_of d) → i < length d
    below i b = subst (λ k. i < k) (numbers_length d) b

-- the slot that holds a number is the one that the search finds
pub place_held : (d : List Slot) → differ (numbers_of d) ≡ true → (i : ℕ) → number_at (get_or d i free_slot) ≢ 0 → place_of (number_at (get_or d i free_slot)) d ≡ i
place_held d e i n =
    place_first (number_at (get_or d i free_slot)) d i (open_within d i n) refl
    (λ j l q. ≢-of-lt l (sym (differ_apart d e i j n (sym q))))
  where
    ≢-of-lt : {j i : ℕ} → j < i → j ≢ i
    ≢-of-lt l q = omega arith

-- they differ still where a slot is replaced by one whose number no other slot holds
pub differ_set : (d : List Slot) (i : ℕ) (a : Slot) → i < length d → differ (numbers_of d) ≡ true → ((j : ℕ) → j ≢ i → number_at a ≢ 0 → number_at (get_or d j free_slot) ≢ number_at a) → differ (numbers_of (set d i a)) ≡ true
differ_set d i a l e h =
    apart_differ (set d i a) (λ j k _ _.
    set_cases (λ x. number_at x ≢ 0 → number_at x ≡ number_at (get_or (set d i a) k free_slot) → j ≡ k) d i j a free_slot l
    (λ p. set_cases (λ y. number_at a ≢ 0 → number_at a ≡ number_at y → j ≡ k) d i k a free_slot l (λ r _ _. p ∙ sym r) (λ r n q. absurd (h k r n (sym q))))
    (λ p. set_cases (λ y. number_at (get_or d j free_slot) ≢ 0 → number_at (get_or d j free_slot) ≡ number_at y → j ≡ k) d i k a free_slot l
    (λ r n q. absurd (h j p (λ z. n (q ∙ z)) q))
    (λ r n q. differ_apart d e j k n q)))

-- ---- the search after one slot is replaced

-- the slot keeps its number
pub place_set_same : (v : ℕ) (d : List Slot) (i : ℕ) (a : Slot) → number_at a ≡ number_at (get_or d i free_slot) → place_of v (set d i a) ≡ place_of v d
place_set_same v d i a e = ap (place v) (numbers_same d i a e)

-- the number is in neither the old nor the new slot
pub place_set_other : (v : ℕ) (d : List Slot) (i : ℕ) (a : Slot) → number_at (get_or d i free_slot) ≢ v → number_at a ≢ v → place_of v (set d i a) ≡ place_of v d
place_set_other v [] i a n m = refl
place_set_other v (s ∷ d) zero a n m = ap (λ t. cond t 0 (suc (place_of v d))) (ne_eqb v (number_at a) (λ q. m (sym q)) ∙ sym (ne_eqb v (number_at s) (λ q. n (sym q))))
place_set_other v (s ∷ d) (suc i) a n m = ap (λ k. cond (eqb v (number_at s)) 0 (suc k)) (place_set_other v d i a n m)

-- the number is put where the search had not ended before
pub place_set_here : (v : ℕ) (d : List Slot) (i : ℕ) (a : Slot) → i < length d → i ≤ place_of v d → number_at a ≡ v → place_of v (set d i a) ≡ i
place_set_here v d i a l b e =
    place_first v (set d i a) i (subst (λ k. i < k) (sym (length-set d i a)) l)
    (ap number_at (get_or-set_same d i a free_slot l) ∙ e)
    (λ j c q. before v d j (omega arith) (sym (ap number_at (get_or-set_other d i j a free_slot (λ z. omega arith))) ∙ q))

-- the only slot that held the number is replaced
pub place_set_gone : (v : ℕ) (d : List Slot) (a : Slot) → differ (numbers_of d) ≡ true → v ≢ 0 → number_at a ≢ v → place_of v (set d (place_of v d) a) ≡ length d
place_set_gone v d a e n m = missing v (set d (place_of v d) a) (λ j b. elsewhere j (subst (λ k. j < k) (length-set d (place_of v d) a) b)) ∙ length-set d (place_of v d) a
  where
    held : (j : ℕ) → number_at (get_or d j free_slot) ≡ v → j ≡ place_of v d
    held j q = sym (place_held d e j (λ z. n (sym q ∙ z))) ∙ ap (λ k. place_of k d) q

    elsewhere : (j : ℕ) → j < length d → number_at (get_or (set d (place_of v d) a) j free_slot) ≢ v
    elsewhere j b = go (ℕ_discrete j (place_of v d))
      where
        go : Dec (j ≡ place_of v d) → number_at (get_or (set d (place_of v d) a) j free_slot) ≢ v
        go (yes p) q = m (sym (ap number_at (get_or-set_same d (place_of v d) a free_slot (omega arith))) ∙ ap (λ k. number_at (get_or (set d (place_of v d) a) k free_slot)) (sym p) ∙ q)
        go (no p) q = p (held j (sym (ap number_at (get_or-set_other d (place_of v d) j a free_slot p)) ∙ q))

-- the slot that is found is the old one, where neither the new slot nor the one before it holds the number
pub slot_set_other : (v : ℕ) (d : List Slot) (i : ℕ) (a : Slot) → number_at (get_or d i free_slot) ≢ v → number_at a ≢ v → slot_of v (set d i a) ≡ slot_of v d
slot_set_other v [] i a n m = refl
slot_set_other v (s ∷ d) zero a n m =
    ap (λ t. get_or (a ∷ d) (cond t 0 (suc (place_of v d))) free_slot) (ne_eqb v (number_at a) (λ q. m (sym q))) ∙
    sym (ap (λ t. get_or (s ∷ d) (cond t 0 (suc (place_of v d))) free_slot) (ne_eqb v (number_at s) (λ q. n (sym q))))
slot_set_other v (s ∷ d) (suc i) a n m = go (eqb v (number_at s)) (slot_set_other v d i a n m)
  where
    go : (t : Bool) → slot_of v (set d i a) ≡ slot_of v d → get_or (s ∷ set d i a) (cond t 0 (suc (place_of v (set d i a)))) free_slot ≡ get_or (s ∷ d) (cond t 0 (suc (place_of v d))) free_slot
    go true k = refl
    go false k = k

-- ---- soundness, slot by slot

-- the slot at any index of a desk of sound slots, past the end too
pub sound_at : (d : List Slot) → every slot_sound d ≡ true → (i : ℕ) → slot_sound (get_or d i free_slot) ≡ true
sound_at [] e i = free_sound
sound_at (s ∷ d) e zero = and_left (slot_sound s) (every slot_sound d) e
sound_at (s ∷ d) e (suc i) = sound_at d (and_right (slot_sound s) (every slot_sound d) e) i

-- a sound desk has 32 slots, each of them sound, and open numbers that differ; and a desk with these three is sound
pub desk_slots : (d : List Slot) → desk_sound d ≡ true → length d ≡ slot_count
unfolding desk_sound
desk_slots d e = eqb-true (length d) slot_count (and_left (eqb (length d) slot_count) (every slot_sound d) (and_left (eqb (length d) slot_count && every slot_sound d) (differ (numbers_of d)) e))

pub desk_each : (d : List Slot) → desk_sound d ≡ true → every slot_sound d ≡ true
unfolding desk_sound
desk_each d e = and_right (eqb (length d) slot_count) (every slot_sound d) (and_left (eqb (length d) slot_count && every slot_sound d) (differ (numbers_of d)) e)

pub desk_differ : (d : List Slot) → desk_sound d ≡ true → differ (numbers_of d) ≡ true
unfolding desk_sound
desk_differ d e = and_right (eqb (length d) slot_count && every slot_sound d) (differ (numbers_of d)) e

pub desk_sound_lem : (d : List Slot) → length d ≡ slot_count → every slot_sound d ≡ true → differ (numbers_of d) ≡ true → desk_sound d ≡ true
unfolding desk_sound
desk_sound_lem d a b c =
    and_both (eqb (length d) slot_count && every slot_sound d) (differ (numbers_of d))
    (and_both (eqb (length d) slot_count) (every slot_sound d) (eq-eqb (length d) slot_count a) b)
    c

-- one slot is replaced by a sound one, whose number no other slot holds
pub sound_set : (d : List Slot) (i : ℕ) (a : Slot) → i < length d → desk_sound d ≡ true → slot_sound a ≡ true → ((j : ℕ) → j ≢ i → number_at a ≢ 0 → number_at (get_or d j free_slot) ≢ number_at a) → desk_sound (set d i a) ≡ true
sound_set d i a l e f h =
    desk_sound_lem (set d i a) (length-set d i a ∙ desk_slots d e) (every_set slot_sound d i a (desk_each d e) f) (differ_set d i a l (desk_differ d e) h)

-- a desk of free slots
pub empty_sound : desk_sound empty_desk ≡ true
unfolding desk_sound slot_sound is_free
empty_sound = refl
