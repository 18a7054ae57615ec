-- How an asking that counts goes on: how many records were answered before an offset, and what is still to be answered from there. Assumes nothing.
use Rattle.std.proofs.Common.{◌≡◌, ℕ, ◌+◌, ◌-◌, ◌<◌, ◌≤◌, List, ◌∷◌, length, sym, refl, ap, ◌∙◌, subst, arith}
use Rattle.std.specs.Prelude.{Result, Option, Ok, Some}
use denote.Ref.{Bor}
use Rattle.reader.specs.declared.Broken.{Broken}
use Rattle.reader.specs.Reader.{which_in}
use Rattle.wire.specs.Book.{which_at, record_at, after_at}
use Rattle.wire.specs.Cut.{records_of, records_from, stop_from, ends_by}
use Rattle.wire.proofs.CutLaws.{records_is, passed, halted}
use Rattle.reader.proofs.ReaderLaws.{same_reader}

module _ (book : List ℕ) where
  -- n records were answered before the offset, and what is still to be answered is what the book has, less those
  abbrev pub Come : ℕ → ℕ → Type 0
  Come n at = (n + length (records_from book at) ≡ length (records_from book 0)) × (stop_from book at ≡ stop_from book 0) × (n ≤ at) × (at ≤ length book)

  -- before the first record none is counted
  pub come_start : Come 0 0
  come_start = (omega arith, refl, omega arith, omega arith)

  -- a record that is answered is one more, and its end the next offset
  pub come_on : (n at : ℕ) → Come n at → which_at book at ≡ 0 → Come (n + 1) (after_at book at)
  come_on n at c h =
      let p = passed book at h in
      let l : length (records_from book at) ≡ length (record_at book at ∷ records_from book (after_at book at)) = ap length p.0 in
      (omega (arith, l, c.0), sym p.1 ∙ c.1, omega (arith, p.2, c.2), p.3)

  -- and fewer bytes are left behind it
  pub come_nearer : (at : ℕ) → which_at book at ≡ 0 → length book - after_at book at < length book - at
  come_nearer at h = let p = passed book at h in omega (arith, p.2, p.3)

  -- where no record is answered, all are counted
  pub come_end : (n at : ℕ) → Come n at → (which_at book at ≡ 0 → ⊥)
      → (n ≡ length (records_of book)) × (after_at book at ≡ stop_from book 0) × (which_at book at ≡ ends_by book)
  come_end n at c h =
      let q = halted book at h in
      let l : length (records_from book at) ≡ 0 = ap length q.0 in
      let m : length (records_from book 0) ≡ length (records_of book) = ap length (records_is book) in
      let e : at ≡ stop_from book 0 = sym q.1 ∙ c.1 in
      (omega (arith, l, m, c.0), (same_reader book at h).1 ∙ e, ap (which_at book) e)

  -- where a record is answered, fewer than all are counted
  pub counted_fewer : (n at : ℕ) → Come n at → which_at book at ≡ 0 → n < length (records_from book 0)
  counted_fewer n at c h = let l = ap length (passed book at h).0 in omega (arith, l, c.0)

-- where the answer is a record, a record stands in the book that the reader has
pub record_there : (book rb : List ℕ) (at : ℕ) (r : Result (Option (Bor (List ℕ))) Broken) (o : Option (Bor (List ℕ))) (x : Bor (List ℕ))
    → r ≡ Ok o → o ≡ Some x → which_in r ≡ which_at rb at → rb ≡ book → which_at book at ≡ 0
record_there book rb at r o x e g w same =
    let told : which_in r ≡ 0 = ap which_in e ∙ ap (λ (p : Option (Bor (List ℕ))). which_in (Ok p)) g in
    subst (λ (b : List ℕ). which_at b at ≡ 0) same (sym w ∙ told)

-- and where it is none, all are counted
pub ended : (book rb : List ℕ) (n at stop which : ℕ) → Come book n at → rb ≡ book → stop ≡ after_at rb at → which ≡ which_at rb at → (which ≡ 0 → ⊥)
    → (n ≡ length (records_of book)) × (stop ≡ stop_from book 0) × (which ≡ ends_by book)
ended book rb n at stop which c same s w h =
    let told : which ≡ which_at book at = subst (λ (b : List ℕ). which ≡ which_at b at) same w in
    let left : stop ≡ after_at book at = subst (λ (b : List ℕ). stop ≡ after_at b at) same s in
    let end = come_end book n at c (λ z. h (told ∙ z)) in
    (end.0, left ∙ end.1, told ∙ end.2)
