-- A book cut into its records: reading on from offset to offset gives the records that are cut off the front, joined they are the book up to
-- where reading stops, and whole records that are joined are cut apart again. Assumes nothing.
use mathlib.Core.Path.{◌≡◌, refl, sym, ap, subst, ◌∙◌}
use Prim.Native.Nat.{ℕ, zero, suc, ◌+◌, ◌-◌, ◌*◌, ◌<◌, ◌≤◌}
use native.Mathlib.Nat.{le_refl}
use native.Mathlib.Omega.{arith}
use mathlib.Core.Bool.{Bool, true, false, ◌&&◌, cond, and-false}
use mathlib.Core.Logic.{◌⊎◌, inl, inr}
use mathlib.Core.List.{List, [], ◌∷◌, ◌++◌, append_assoc, append-nil}
use lib.Dec.{leb, ltb, eqb}
use lib.ListN.{length, get_or, take, drop, length-append, length-take, length-drop, get_or-append}
use lib.Seq.{take-add, drop-drop, get_or-drop, get_or-take, take_all, take_at, drop_at, length-take-le}
use borrow.Author.Tests.{le-leb, lt-leb, eq-eqb, leb-true, leb-false, ltb-true, ltb-false, eqb-true}
use Rattle.base.specs.Lists.{All}
use Rattle.base.proofs.TestLaws.{Tested, holds, fails, test, and_left, and_right, and_both}
use Rattle.wire.specs.Numbers.{le16}
use Rattle.wire.specs.Frame.{framed}
use Rattle.wire.specs.Book.{place_at, part_of, which_of, which_at, start_of, end_of, after_at, record_at}
use Rattle.wire.specs.Cut.{whole_in_front, cut_in, records_of, on_record, read_in, stop_in, records_from, stop_from, joined}
use Rattle.wire.specs.declared.Place.{Place}
use Rattle.wire.specs.declared.Place.TheVariants.{Record, End, Broken}
use Rattle.wire.proofs.PlaceLaws.{at_end, at_short, at_small, at_long, at_record}

-- no record stands at an offset
abbrev pub Stopped : List ℕ → ℕ → Type 0
Stopped book at = (place_at book at ≡ End) ⊎ (place_at book at ≡ Broken)

-- what stands at an offset, with what that says of the bytes from there on
data View (book : List ℕ) (at : ℕ) : Type 0 where
  no_record : Stopped book at → (place_at book at ≡ End → length book ≤ at) → whole_in_front (drop at book) ≡ false → View book at
  one_record : place_at book at ≡ Record at (at + le16 book at) → 4 ≤ le16 book at → at + le16 book at ≤ length book → View book at

module _ (book : List ℕ) (at : ℕ) where
  le16_drop : le16 (drop at book) 0 ≡ le16 book at
  le16_drop =
      let low : get_or (drop at book) 0 0 ≡ get_or book at 0 = get_or-drop at book 0 0 ∙ ap (λ (k : ℕ). get_or book k 0) (omega arith) in
      let high : get_or (drop at book) (0 + 1) 0 ≡ get_or book (at + 1) 0 = get_or-drop at book 1 0 in
      cc

  not_whole : (le16 book at < 4) ⊎ (length book - at < le16 book at) → whole_in_front (drop at book) ≡ false
  not_whole (inl h) = ap (λ (t : Bool). t && leb (le16 (drop at book) 0) (length (drop at book))) (lt-leb 4 (le16 (drop at book) 0) (omega (arith, le16_drop)))
  not_whole (inr h) =
      ap (λ (t : Bool). leb 4 (le16 (drop at book) 0) && t) (lt-leb (le16 (drop at book) 0) (length (drop at book)) (omega (arith, le16_drop, length-drop at book)))
      ∙ and-false (leb 4 (le16 (drop at book) 0))

  whole_there : 4 ≤ le16 book at → at + le16 book at ≤ length book → whole_in_front (drop at book) ≡ true
  whole_there h l =
      and_both (leb 4 (le16 (drop at book) 0)) (leb (le16 (drop at book) 0) (length (drop at book)))
      (le-leb 4 (le16 (drop at book) 0) (omega (arith, le16_drop)))
      (le-leb (le16 (drop at book) 0) (length (drop at book)) (omega (arith, le16_drop, length-drop at book)))

  few_left : length book - at < 4 → Tested (ltb (le16 book at) 4) → whole_in_front (drop at book) ≡ false
  few_left f (holds e) = not_whole (inl (ltb-true (le16 book at) 4 e))
  few_left f (fails e) = let h : 4 ≤ le16 book at = ltb-false (le16 book at) 4 e in not_whole (inr (omega arith))

  broken_there : place_at book at ≡ Broken → whole_in_front (drop at book) ≡ false → View book at
  broken_there p w = no_record (inr p) (λ e. let z : ◌≡◌ {A = ℕ} 0 1 = cc in omega arith) w

  fits_or_not : at < length book → 4 ≤ length book - at → 4 ≤ le16 book at → Tested (ltb (length book - at) (le16 book at)) → View book at
  fits_or_not l f h (holds e) = let long : length book - at < le16 book at = ltb-true _ _ e in broken_there (at_long book at l f _ refl h long) (not_whole (inr long))
  fits_or_not l f h (fails e) = let fits : le16 book at ≤ length book - at = ltb-false _ _ e in one_record (at_record book at l f _ refl h fits) h (omega arith)

  small_or_not : at < length book → 4 ≤ length book - at → Tested (ltb (le16 book at) 4) → View book at
  small_or_not l f (holds e) = let small : le16 book at < 4 = ltb-true _ _ e in broken_there (at_small book at l f _ refl small) (not_whole (inl small))
  small_or_not l f (fails e) = fits_or_not l f (ltb-false _ _ e) (test (ltb (length book - at) (le16 book at)))

  short_or_not : at < length book → Tested (ltb (length book - at) 4) → View book at
  short_or_not l (holds e) = let f : length book - at < 4 = ltb-true _ _ e in broken_there (at_short book at l f) (few_left f (test (ltb (le16 book at) 4)))
  short_or_not l (fails e) = small_or_not l (ltb-false _ _ e) (test (ltb (le16 book at) 4))

  end_or_not : Tested (leb (length book) at) → View book at
  end_or_not (holds e) =
      let over : length book ≤ at = leb-true _ _ e in
      no_record (inl (at_end book at over)) (λ _. over) (few_left (omega arith) (test (ltb (le16 book at) 4)))
  end_or_not (fails e) = short_or_not (leb-false _ _ e) (test (ltb (length book - at) 4))

  view : View book at
  view = end_or_not (test (leb (length book) at))

-- one turn of a reading, at what stands there
past : {X : Type 0} (p : Place) (x : X) (f : ℕ → ℕ → X) → (p ≡ End) ⊎ (p ≡ Broken) → on_record p x f ≡ x
past p x f (inl e) = ap (λ (q : Place). on_record q x f) e
past p x f (inr e) = ap (λ (q : Place). on_record q x f) e

module _ (book : List ℕ) (k at : ℕ) where
  read_none : Stopped book at → read_in (suc k) book at ≡ []
  unfolding read_in
  read_none s = past (place_at book at) [] (λ start end. part_of book start end ∷ read_in k book end) s

  stop_none : Stopped book at → stop_in (suc k) book at ≡ at
  unfolding stop_in
  stop_none s = past (place_at book at) at (λ start end. stop_in k book end) s

  read_one : {start end : ℕ} → place_at book at ≡ Record start end → read_in (suc k) book at ≡ part_of book start end ∷ read_in k book end
  unfolding read_in
  read_one p = ap (λ (q : Place). on_record q [] (λ start end. part_of book start end ∷ read_in k book end)) p

  stop_one : {start end : ℕ} → place_at book at ≡ Record start end → stop_in (suc k) book at ≡ stop_in k book end
  unfolding stop_in
  stop_one p = ap (λ (q : Place). on_record q at (λ start end. stop_in k book end)) p

cut_none : (k : ℕ) (book : List ℕ) → whole_in_front book ≡ false → cut_in (suc k) book ≡ []
unfolding cut_in
cut_none k book w = ap (λ (t : Bool). cond t (take (le16 book 0) book ∷ cut_in k (drop (le16 book 0) book)) []) w

cut_one : (k n : ℕ) (book : List ℕ) → whole_in_front book ≡ true → le16 book 0 ≡ n → cut_in (suc k) book ≡ take n book ∷ cut_in k (drop n book)
unfolding cut_in
cut_one k n book w z =
    ap (λ (t : Bool). cond t (take (le16 book 0) book ∷ cut_in k (drop (le16 book 0) book)) []) w ∙ ap (λ (m : ℕ). take m book ∷ cut_in k (drop m book)) z

part_is : (book : List ℕ) (at n : ℕ) → part_of book at (at + n) ≡ take n (drop at book)
part_is book at n = let e : at + n - at ≡ n = omega arith in ap (λ (m : ℕ). take m (drop at book)) e

module _ (book : List ℕ) where
  -- reading on from an offset cuts the list from there on, turn by turn
  read_cut_turn : (k at : ℕ) → ((e : ℕ) → read_in k book e ≡ cut_in k (drop e book)) → View book at → read_in (suc k) book at ≡ cut_in (suc k) (drop at book)
  read_cut_turn k at ih (no_record s over w) = read_none book k at s ∙ sym (cut_none k (drop at book) w)
  read_cut_turn k at ih (one_record p h l) =
      let n : ℕ = le16 book at in
      let c : cut_in (suc k) (drop at book) ≡ take n (drop at book) ∷ cut_in k (drop n (drop at book)) =
      cut_one k n (drop at book) (whole_there book at h l) (le16_drop book at) in
      let i : read_in k book (at + n) ≡ cut_in k (drop (at + n) book) = ih (at + n) in
      read_one book k at p ∙ cc (c, i, part_is book at n, drop-drop n at book)

  read_cut : (k at : ℕ) → read_in k book at ≡ cut_in k (drop at book)
  unfolding read_in cut_in
  read_cut zero at = refl
  read_cut (suc k) at = read_cut_turn k at (read_cut k) (view book at)

  -- what is read, behind what stands before it, is the book up to where reading stops
  join_turn : (k at : ℕ) → ((e : ℕ) → take e book ++ joined (read_in k book e) ≡ take (stop_in k book e) book) → View book at
      → take at book ++ joined (read_in (suc k) book at) ≡ take (stop_in (suc k) book at) book
  join_turn k at ih (no_record s over w) =
      ap (λ (rs : List (List ℕ)). take at book ++ joined rs) (read_none book k at s) ∙ append-nil (take at book)
      ∙ ap (λ (n : ℕ). take n book) (sym (stop_none book k at s))
  join_turn k at ih (one_record p h l) =
      let n : ℕ = le16 book at in
      ap (λ (rs : List (List ℕ)). take at book ++ joined rs) (read_one book k at p)
      ∙ ap (λ (r : List ℕ). take at book ++ (r ++ joined (read_in k book (at + n)))) (part_is book at n)
      ∙ sym (append_assoc (take at book) (take n (drop at book)) (joined (read_in k book (at + n))))
      ∙ ap (λ (r : List ℕ). r ++ joined (read_in k book (at + n))) (sym (take-add at n book))
      ∙ ih (at + n) ∙ ap (λ (m : ℕ). take m book) (sym (stop_one book k at p))

  read_joined : (k at : ℕ) → take at book ++ joined (read_in k book at) ≡ take (stop_in k book at) book
  unfolding read_in stop_in
  read_joined zero at = append-nil (take at book)
  read_joined (suc k) at = join_turn k at (read_joined k) (view book at)

  -- as many turns as there are bytes left are enough: reading stops where no record stands
  stops_turn : (k at : ℕ) → length book - at ≤ suc k → ((e : ℕ) → length book - e ≤ k → Stopped book (stop_in k book e)) → View book at
      → Stopped book (stop_in (suc k) book at)
  stops_turn k at few ih (no_record s over w) = subst (Stopped book) (sym (stop_none book k at s)) s
  stops_turn k at few ih (one_record p h l) = subst (Stopped book) (sym (stop_one book k at p)) (ih (at + le16 book at) (omega arith))

  stops : (k at : ℕ) → length book - at ≤ k → Stopped book (stop_in k book at)
  unfolding stop_in
  stops zero at few = inl (at_end book at (omega arith))
  stops (suc k) at few = stops_turn k at few (stops k) (view book at)

  -- and more turns read no more
  abbrev Alike : ℕ → ℕ → ℕ → Type 0
  Alike j k at = (read_in j book at ≡ read_in k book at) × (stop_in j book at ≡ stop_in k book at)

  more_turn : (j k at : ℕ) → length book - at ≤ suc j → length book - at ≤ suc k → ((e : ℕ) → length book - e ≤ j → length book - e ≤ k → Alike j k e)
      → View book at → Alike (suc j) (suc k) at
  more_turn j k at a b ih (no_record s over w) =
      (read_none book j at s ∙ sym (read_none book k at s), stop_none book j at s ∙ sym (stop_none book k at s))
  more_turn j k at a b ih (one_record p h l) =
      let n : ℕ = le16 book at in
      let i : Alike j k (at + n) = ih (at + n) (omega arith) (omega arith) in (
        read_one book j at p ∙ ap (λ (rs : List (List ℕ)). part_of book at (at + n) ∷ rs) i.0 ∙ sym (read_one book k at p),
        stop_one book j at p ∙ i.1 ∙ sym (stop_one book k at p),
      )

  more : (j k at : ℕ) → length book - at ≤ j → length book - at ≤ k → Alike j k at
  unfolding read_in stop_in
  more zero zero at a b = (refl, refl)
  more zero (suc k) at a b = let s : Stopped book at = inl (at_end book at (omega arith)) in (sym (read_none book k at s), sym (stop_none book k at s))
  more (suc j) zero at a b = let s : Stopped book at = inl (at_end book at (omega arith)) in (read_none book j at s, stop_none book j at s)
  more (suc j) (suc k) at a b = more_turn j k at a b (more j k) (view book at)

  -- reading on from offset 0 gives the records that are cut off
  pub records_is : records_from book 0 ≡ records_of book
  unfolding records_from records_of
  records_is = read_cut (length book - 0) 0 ∙ ap (λ (k : ℕ). cut_in k book) (omega arith)

  -- joined they are the book up to where reading stops
  pub records_joined : joined (records_of book) ≡ take (stop_from book 0) book
  unfolding records_from stop_from
  records_joined = ap joined (sym records_is) ∙ read_joined (length book - 0) 0

  -- no record stands there
  pub records_stop : Stopped book (stop_from book 0)
  unfolding stop_from
  records_stop = stops (length book - 0) 0 (le_refl (length book - 0))

  end_is_past : (at : ℕ) → View book at → place_at book at ≡ End → length book ≤ at
  end_is_past at (no_record s over w) e = over e
  end_is_past at (one_record p h l) e = let z : ◌≡◌ {A = ℕ} 0 1 = cc in omega arith

  -- and where it is the end, they are the whole book
  pub records_whole : place_at book (stop_from book 0) ≡ End → joined (records_of book) ≡ book
  records_whole e = records_joined ∙ take_all (stop_from book 0) book (end_is_past (stop_from book 0) (view book (stop_from book 0)) e)

-- One step of a reading: at a record it goes past it, and else it stops.
module _ (book : List ℕ) (at : ℕ) where
  abbrev pub Passed : Type 0
  Passed =
      (records_from book at ≡ record_at book at ∷ records_from book (after_at book at)) × (stop_from book at ≡ stop_from book (after_at book at))
      × (at < after_at book at) × (after_at book at ≤ length book)

  abbrev pub Halted : Type 0
  Halted = (records_from book at ≡ []) × (stop_from book at ≡ at)

  one_more : Alike book (length book - at) (suc (length book - at)) at
  one_more = more book (length book - at) (suc (length book - at)) at (le_refl (length book - at)) (omega arith)

  passed_by : which_at book at ≡ 0 → View book at → Passed
  unfolding records_from stop_from
  passed_by h (no_record (inl p) over w) = let z : ◌≡◌ {A = ℕ} 1 0 = ap which_of (sym p) ∙ h in let no : ⊥ = omega arith in absurd no
  passed_by h (no_record (inr p) over w) = let z : ◌≡◌ {A = ℕ} 2 0 = ap which_of (sym p) ∙ h in let no : ⊥ = omega arith in absurd no
  passed_by h (one_record p f l) =
      let e : ℕ = at + le16 book at in
      let a : after_at book at ≡ e = ap (λ (q : Place). end_of q at) p in
      let r : record_at book at ≡ part_of book at e = ap (λ (q : Place). part_of book (start_of q at) (end_of q at)) p in
      let m : Alike book (length book - at) (length book - e) e = more book (length book - at) (length book - e) e (omega arith) (le_refl (length book - e)) in
      let rs : read_in (length book - at) book at ≡ part_of book at e ∷ read_in (length book - e) book e =
      one_more.0 ∙ read_one book (length book - at) at p ∙ ap (λ (l : List (List ℕ)). part_of book at e ∷ l) m.0 in
      let st : stop_in (length book - at) book at ≡ stop_in (length book - e) book e = one_more.1 ∙ stop_one book (length book - at) at p ∙ m.1 in
      (cc (rs, a, r), cc (st, a), omega (arith, a), omega (arith, a))

  pub passed : which_at book at ≡ 0 → Passed
  passed h = passed_by h (view book at)

  halted_by : (which_at book at ≡ 0 → ⊥) → View book at → Halted
  unfolding records_from stop_from
  halted_by h (no_record s over w) = (one_more.0 ∙ read_none book (length book - at) at s, one_more.1 ∙ stop_none book (length book - at) at s)
  halted_by h (one_record p f l) = absurd (h (ap which_of p))

  pub halted : (which_at book at ≡ 0 → ⊥) → Halted
  halted h = halted_by h (view book at)

  start_by : View book at → start_of (place_at book at) at ≡ at
  start_by (no_record (inl p) over w) = ap (λ (q : Place). start_of q at) p
  start_by (no_record (inr p) over w) = ap (λ (q : Place). start_of q at) p
  start_by (one_record p f l) = ap (λ (q : Place). start_of q at) p

  -- what stands at an offset starts there
  pub starts_there : start_of (place_at book at) at ≡ at
  starts_there = start_by (view book at)

-- Whole records, joined and cut apart again.
abbrev pub Framed : List ℕ → Type 0
Framed r = framed r ≡ true

module _ (r t : List ℕ) (is : Framed r) where
  four : 4 ≤ length r
  four = leb-true 4 (length r) (and_left (leb 4 (length r)) (eqb (le16 r 0) (length r)) is)

  stated : le16 (r ++ t) 0 ≡ length r
  stated =
      let f = four in
      (λ i. get_or-append r t 0 0 (omega arith) i + get_or-append r t 0 1 (omega arith) i * 256)
      ∙ eqb-true (le16 r 0) (length r) (and_right (leb 4 (length r)) (eqb (le16 r 0) (length r)) is)

  cut_front : (k : ℕ) → cut_in (suc k) (r ++ t) ≡ r ∷ cut_in k t
  cut_front k =
      let f = four in
      let n = stated in
      let whole : whole_in_front (r ++ t) ≡ true =
      and_both (leb 4 (le16 (r ++ t) 0)) (leb (le16 (r ++ t) 0) (length (r ++ t)))
      (le-leb 4 (le16 (r ++ t) 0) (omega arith))
      (le-leb (le16 (r ++ t) 0) (length (r ++ t)) (omega (arith, length-append r t))) in
      cut_one k (length r) (r ++ t) whole n ∙ (λ i. take_at r t (length r) refl i ∷ cut_in k (drop_at r t (length r) refl i))

cut_joined_in : (rs : List (List ℕ)) → All Framed rs → (k : ℕ) → length (joined rs) ≤ k → cut_in k (joined rs) ≡ rs
unfolding cut_in
cut_joined_in [] a zero l = refl
cut_joined_in [] a (suc k) l = refl
cut_joined_in (r ∷ rs) a zero l = let no : ⊥ = omega (arith, four r (joined rs) a.0, length-append r (joined rs)) in absurd no
cut_joined_in (r ∷ rs) a (suc k) l =
    cut_front r (joined rs) a.0 k
    ∙ ap (λ (x : List (List ℕ)). r ∷ x) (cut_joined_in rs a.1 k (omega (arith, four r (joined rs) a.0, length-append r (joined rs))))

module _ (rs : List (List ℕ)) (a : All Framed rs) where
  -- framed records that are joined are the records of the book that they make
  pub cut_joined : records_of (joined rs) ≡ rs
  unfolding records_of
  cut_joined = cut_joined_in rs a (length (joined rs)) (le_refl (length (joined rs)))

  -- and reading stops at the end
  pub joined_ends : place_at (joined rs) (stop_from (joined rs) 0) ≡ End
  joined_ends =
      let same : joined rs ≡ take (stop_from (joined rs) 0) (joined rs) = ap joined (sym cut_joined) ∙ records_joined (joined rs) in
      at_end (joined rs) (stop_from (joined rs) 0) (omega (arith, ap length same, length-take (stop_from (joined rs) 0) (joined rs)))

-- what is cut off is framed as a record
front_framed : (book : List ℕ) → whole_in_front book ≡ true → Framed (take (le16 book 0) book)
front_framed book w =
    let n : ℕ = le16 book 0 in
    let f : 4 ≤ n = leb-true 4 n (and_left (leb 4 n) (leb n (length book)) w) in
    let l : length (take n book) ≡ n = length-take-le n book (leb-true n (length book) (and_right (leb 4 n) (leb n (length book)) w)) in
    let s : le16 (take n book) 0 ≡ n = λ i. get_or-take n book 0 0 (omega arith) i + get_or-take n book 1 0 (omega arith) i * 256 in
    and_both (leb 4 (length (take n book))) (eqb (le16 (take n book) 0) (length (take n book)))
    (le-leb 4 (length (take n book)) (omega arith)) (eq-eqb (le16 (take n book) 0) (length (take n book)) (s ∙ sym l))

framed_turn : (k : ℕ) (book : List ℕ) → ((rest : List ℕ) → All Framed (cut_in k rest)) → Tested (whole_in_front book) → All Framed (cut_in (suc k) book)
framed_turn k book ih (holds w) = subst (All Framed) (sym (cut_one k (le16 book 0) book w refl)) (front_framed book w, ih (drop (le16 book 0) book))
framed_turn k book ih (fails w) = subst (All Framed) (sym (cut_none k book w)) tt

framed_in : (k : ℕ) (book : List ℕ) → All Framed (cut_in k book)
unfolding cut_in
framed_in zero book = tt
framed_in (suc k) book = framed_turn k book (framed_in k) (test (whole_in_front book))

-- each record that is cut off is framed
pub records_framed : (book : List ℕ) → All Framed (records_of book)
unfolding records_of
records_framed book = framed_in (length book) book

-- there are no more records than bytes
few_in : (k : ℕ) (book : List ℕ) → length (cut_in k book) ≤ k
unfolding cut_in
few_in zero book = omega arith
few_in (suc k) book = go (whole_in_front book) (few_in k (drop (le16 book 0) book))
  where
    go : (t : Bool) → length (cut_in k (drop (le16 book 0) book)) ≤ k → length (cond t (take (le16 book 0) book ∷ cut_in k (drop (le16 book 0) book)) []) ≤ suc k
    go true h = omega arith
    go false h = omega arith

-- a book has at most as many records as bytes
pub few_records : (book : List ℕ) → length (records_of book) ≤ length book
unfolding records_of
few_records book = few_in (length book) book
