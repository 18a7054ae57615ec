-- How many numbers a record has, the year after some records, and the numbers of a record set one after the other. Assumes nothing.
use Prim.Native.Nat.{ℕ, zero, suc, ◌+◌, ◌-◌, ◌*◌, ◌<◌, ◌≤◌}
use mathlib.Core.Path.{◌≡◌, refl, sym, ap, ◌∙◌}
use mathlib.Core.List.{List, [], ◌∷◌, ◌++◌}
use mathlib.Core.Bool.{Bool, true, false, not, cond}
use lib.ListN.{length, set, replicate}
use lib.Seq.{set-append_seam, append_snoc}
use lib.Dec.{eqb, ltb}
use native.Mathlib.Omega.{arith}
use borrow.Author.Tests.{eq-eqb, ne_eqb, eqb-true, eqb-false, ltb-false}
use Rattle.base.proofs.TestLaws.{Tested, holds, fails, test}
use Rattle.wire.specs.Frame.{framed, kind_of}
use Rattle.fields.specs.Fields.{step_count}
use Rattle.text_items.specs.Entry.{Entry}
use Rattle.text_items.specs.Shape.{most_of, entry_of}
use Rattle.text_items.proofs.ShapeLaws.{most_small}
use Rattle.unpack.specs.Unpack.{kind_in, stepped_in, count_in, value_in, values_run, unpacked_of, year_after}

module _ (s : List ℕ) where
  -- a stepped event has 5 numbers and 4 for each step, any other record as many as its sort takes
  pub count_stepped : (kind : ℕ) → kind ≡ 3 → 5 + 4 * step_count s ≡ count_in s kind
  unfolding count_in
  count_stepped kind k = rw (count_in, k) refl

  pub count_other : (kind : ℕ) → (kind ≡ 3 → ⊥) → most_of kind ≡ count_in s kind
  unfolding count_in
  count_other kind k = rw (count_in, ne_eqb kind 3 k) refl

module _ (year : ℕ) (s : List ℕ) where
  -- a year that is known stays; where none is, no record but a sheet tells one
  pub year_kept : (year ≡ 0 → ⊥) → year ≡ year_after year s
  unfolding year_after
  year_kept n = rw (year_after, ne_eqb year 0 n) refl

  pub year_none : year ≡ 0 → (kind_in s ≡ 1 → ⊥) → 0 ≡ year_after year s
  unfolding year_after
  year_none z n = rw (year_after, eq-eqb year 0 z, ne_eqb (kind_in s) 1 n) refl

-- a choice that comes to 3 by its second way
small : (n : ℕ) → n < 3 → n ≡ 3 → ⊥
small n h e = omega arith

neither : (t : Bool) (n : ℕ) → n < 3 → cond t n 0 ≡ 3 → ⊥
neither true n h = small n h
neither false n h = small 0 (omega arith)

past : (t : Bool) (a b : ℕ) → (a ≡ 3 → ⊥) → cond t a b ≡ 3 → (t ≡ false) × (b ≡ 3)
past true a b n e = absurd (n e)
past false a b n e = (refl, e)

-- a stepped event has 64 steps at most, so no record has more than 261 numbers
steps_few : (s : List ℕ) → kind_in s ≡ 3 → step_count s ≤ 64
unfolding kind_in
steps_few s e =
    let none : ◌≡◌ {A = ℕ} 0 3 → ⊥ = small 0 (omega arith) in
    let last : ℕ = cond (eqb (length s) (14 + 16 * step_count s)) 3 0 in
    let many : ℕ = cond (ltb 64 (step_count s)) 0 last in
    let others : ℕ = cond (not (eqb (kind_of s) 3)) 0 (stepped_in s) in
    let simples : ℕ = cond (eqb (kind_of s) 2) (cond (eqb (length s) 53) 2 0) others in
    let sheets : ℕ = cond (eqb (kind_of s) 1) (cond (eqb (length s) 18) 1 0) simples in
    let a = (past (not (framed s)) 0 sheets none e).1 in
    let b = (past (eqb (kind_of s) 1) (cond (eqb (length s) 18) 1 0) simples (neither (eqb (length s) 18) 1 (omega arith)) a).1 in
    let c = (past (eqb (kind_of s) 2) (cond (eqb (length s) 53) 2 0) others (neither (eqb (length s) 53) 2 (omega arith)) b).1 in
    let d = (past (not (eqb (kind_of s) 3)) 0 (stepped_in s) none c).1 in
    let f = (past (eqb (step_count s) 0) 0 many none d).1 in
    ltb-false 64 (step_count s) (past (ltb 64 (step_count s)) 0 last none f).0

count_blank : (s : List ℕ) → count_in s 0 ≡ 0
unfolding count_in most_of
count_blank s = refl

-- no record has more than 261 numbers
pub count_few : (s : List ℕ) (kind : ℕ) → kind ≡ kind_in s → count_in s kind ≤ 261
count_few s kind e = go (test (eqb kind 3))
  where
    go : Tested (eqb kind 3) → count_in s kind ≤ 261
    go (holds h) =
        let three : kind ≡ 3 = eqb-true kind 3 h in
        let few : step_count s ≤ 64 = steps_few s (sym e ∙ three) in
        let count : 5 + 4 * step_count s ≡ count_in s kind = count_stepped s kind three in
        omega arith
    go (fails h) =
        let count : most_of kind ≡ count_in s kind = count_other s kind (eqb-false kind 3 h) in
        let few : most_of kind ≤ 261 = most_small kind in
        omega arith

-- so many numbers from one on are so many
pub run_long : (n : ℕ) (s : List ℕ) (kind k : ℕ) → length (values_run n s kind k) ≡ n
run_long zero s kind k = refl
run_long (suc n) s kind k = ap suc (run_long n s kind (k + 1))

-- one number more of a record
run_ends : (n : ℕ) (s : List ℕ) (kind k : ℕ) → values_run (n + 1) s kind k ≡ values_run n s kind k ++ (value_in s kind (k + n) ∷ [])
run_ends zero s kind k = let e : k ≡ k + 0 = omega arith in λ i. value_in s kind (e i) ∷ []
run_ends (suc n) s kind k =
    let e : suc n + 1 ≡ suc (n + 1) = omega arith in
    let f : (k + 1) + n ≡ k + suc n = omega arith in
    ap (λ (m : ℕ). values_run m s kind k) e ∙ ap (λ (l : List ℕ). value_in s kind k ∷ l) (run_ends n s kind (k + 1) ∙ ap (λ (m : ℕ). values_run n s kind (k + 1) ++ (value_in s kind m ∷ [])) f)

-- the numbers so far, and zeros past them
abbrev pub filled : ℕ → List ℕ → ℕ → List ℕ
filled k s kind = values_run k s kind 0 ++ replicate (261 - k) 0

-- with the k-th number (from 0) set at its place there are k + 1 numbers
pub filled_next : (k : ℕ) (s : List ℕ) (kind : ℕ) → k < 261 → set (filled k s kind) k (value_in s kind k) ≡ filled (k + 1) s kind
filled_next k s kind h =
    let run = values_run k s kind 0 in
    let v = value_in s kind k in
    let rest : List ℕ = replicate (261 - (k + 1)) 0 in
    let one : 261 - k ≡ suc (261 - (k + 1)) = omega arith in
    let front : filled k s kind ≡ run ++ (0 ∷ rest) = ap (λ (n : ℕ). run ++ replicate n 0) one in
    let place : k ≡ length run = sym (run_long k s kind 0) in
    let ends : run ++ (v ∷ []) ≡ values_run (k + 1) s kind 0 = sym (run_ends k s kind 0 ∙ (let e : 0 + k ≡ k = omega arith in λ i. run ++ (value_in s kind (e i) ∷ []))) in
    (λ i. set (front i) (place i) v) ∙ set-append_seam run 0 rest v ∙ sym (append_snoc run v rest) ∙ ap (λ (l : List ℕ). l ++ rest) ends

-- all its numbers are the entry; a record that no line expresses has none, as its sort is 0
pub entry_of_lem : (s : List ℕ) (kind k : ℕ) → kind ≡ kind_in s → k ≡ count_in s kind → ◌≡◌ {A = Entry} record { kind = kind; count = k; values = filled k s kind } (unpacked_of s)
unfolding unpacked_of
entry_of_lem s kind k e c = go (test (eqb (kind_in s) 0))
  where
    all : k ≡ count_in s (kind_in s)
    all = c ∙ ap (count_in s) e

    go : Tested (eqb (kind_in s) 0) → ◌≡◌ {A = Entry} record { kind = kind; count = k; values = filled k s kind } (unpacked_of s)
    go (holds z) =
        let blank : kind_in s ≡ 0 = eqb-true (kind_in s) 0 z in
        let none : k ≡ 0 = all ∙ ap (count_in s) blank ∙ count_blank s in
        (λ i. record { kind = (e ∙ blank) i; count = none i; values = filled (none i) s (e i) }) ∙ sym (rw (unpacked_of, z) refl)
    go (fails z) =
        let size : k ≡ length (values_run k s kind 0) = sym (run_long k s kind 0) in
        (λ i. record { kind = kind; count = size i; values = values_run k s kind 0 ++ replicate (261 - size i) 0 })
        ∙ (λ i. entry_of (e i) (values_run (all i) s (e i) 0))
        ∙ sym (rw (unpacked_of, z) refl)
