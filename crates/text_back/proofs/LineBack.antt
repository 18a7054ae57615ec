-- A line that is written is read back: its word names its sort, and each item stands after its gap, parted from the next. Assumes nothing.
use Prim.Native.Nat.{ℕ, zero, suc, ◌+◌, ◌<◌, ◌≤◌}
use mathlib.Core.Path.{◌≡◌, refl, ap, ◌∙◌}
use mathlib.Core.Bool.{Bool, true, false, cond}
use mathlib.Core.List.{List, [], ◌∷◌, ◌++◌}
use lib.ListN.{length, drop}
use lib.Seq.{drop-append_seam, drop-append-add}
use lib.Dec.{leb}
use native.Mathlib.Omega.{arith}
use native.Mathlib.Nat.{zero-add}
use borrow.Author.Tests.{leb-true, lt-leb, ne_eqb}
use Rattle.base.proofs.TestLaws.{and_left, and_right}
use Rattle.wire.specs.Numbers.{byte_at}
use Rattle.text_items.specs.Shape.{item_of, most_of, whole_of, bar_before, entry_of, limit_of, within_from}
use Rattle.text_items.proofs.ShapeLaws.{most_small, whole_sheet, whole_simple, whole_stepped, whole_bytes}
use Rattle.text_scan.specs.Scan.{is_gap, said_at, gaps_in, ends_here, parted_here}
use Rattle.text_parse.specs.Records.{Parsed}
use Rattle.text_parse.specs.Entry.{is_word, word_text, word_as, word_of, parted_item, next_field, gap_before, next_cell, values_from, end_from, ended_by, gathered, parsed_of}
use Rattle.text_write.specs.Line.{item_text, gap_text, items_text, line_text}
use Rattle.text_back.proofs.Written.{line_celless}
use Rattle.text_back.proofs.ItemBack.{item_front, item_begins, item_back}

-- a line of a sort has no more items than the sort takes
pub whole_most : (kind count : ℕ) → 1 ≤ kind → kind ≤ 4 → whole_of kind count ≡ true → count ≤ most_of kind
unfolding most_of
whole_most zero count l h w = absurd (omega arith)
whole_most (suc zero) count l h w = omega (arith, whole_sheet count w)
whole_most (suc (suc zero)) count l h w = omega (arith, whole_simple count w)
whole_most (suc (suc (suc zero))) count l h w = (whole_stepped count w).1
whole_most (suc (suc (suc (suc zero)))) count l h w = (whole_bytes count w).1
whole_most (suc (suc (suc (suc (suc kind))))) count l h w = absurd (omega arith)

-- what parts an item from those before it is gaps alone
pub gap_gaps : (kind k : ℕ) (t : List ℕ) → gaps_in t ≡ 0 → gaps_in (gap_text kind k ++ t) ≡ length (gap_text kind k)
unfolding gap_text is_gap
gap_gaps kind k t e = go (bar_before kind k)
  where
    go : (b : Bool) → gaps_in (cond b (32 ∷ 124 ∷ 32 ∷ []) (32 ∷ []) ++ t) ≡ length {A = ℕ} (cond b (32 ∷ 124 ∷ 32 ∷ []) (32 ∷ []))
    go true = rw e
    go false = rw e

-- so items are parted from what stands before them, and no dash is their second byte
pub items_parted : (kind year k : ℕ) (vs : List ℕ) → parted_here (items_text kind year k vs) ≡ true
unfolding gap_text is_gap
items_parted kind year k [] = refl
items_parted kind year k (v ∷ vs) = go (bar_before kind k)
  where
    go : (b : Bool) → parted_here (cond b (32 ∷ 124 ∷ 32 ∷ []) (32 ∷ []) ++ (item_text (item_of kind k) year v ++ items_text kind year (k + 1) vs)) ≡ true
    go true = refl
    go false = refl

pub items_no_dash : (kind year k : ℕ) (vs : List ℕ) → byte_at (items_text kind year k vs) 1 ≡ 45 → ⊥
unfolding gap_text
items_no_dash kind year k [] e = omega arith
items_no_dash kind year k (v ∷ vs) e = go (bar_before kind k) e
  where
    rest : List ℕ
    rest = items_text kind year (k + 1) vs

    go : (b : Bool) → byte_at (cond b (32 ∷ 124 ∷ 32 ∷ []) (32 ∷ []) ++ (item_text (item_of kind k) year v ++ rest)) 1 ≡ 45 → ⊥
    go true d = omega arith
    go false d = omega (arith, (item_front (item_of kind k) year v rest).0)

-- what follows an item, past its gap
pub field_passed :
    (kind k year v : ℕ) (rest : List ℕ) → drop (length (gap_text kind k) + length (item_text (item_of kind k) year v)) (gap_text kind k ++ (item_text (item_of kind k) year v ++ rest)) ≡ rest
field_passed kind k year v rest =
    drop-append-add (gap_text kind k) (item_text (item_of kind k) year v ++ rest) (length (item_text (item_of kind k) year v))
    ∙ drop-append_seam (item_text (item_of kind k) year v) rest

-- nothing is left: the line has ended
pub nothing_left : (kind k year : ℕ) → next_cell [] kind k year 0 ≡ said_at 255 0
unfolding next_cell gap_before next_field
nothing_left kind k year = refl

-- a word stands in front where it is written, and is found
module _ (s : List ℕ) where
  -- a line that begins with a word begins with no gap and no comment, and has not ended
  pub word_gapless : (kind : ℕ) → 1 ≤ kind → kind ≤ 4 → gaps_in (word_text kind ++ s) ≡ 0
  unfolding is_gap
  word_gapless zero l h = absurd (omega arith)
  word_gapless (suc zero) l h = refl
  word_gapless (suc (suc zero)) l h = refl
  word_gapless (suc (suc (suc zero))) l h = refl
  word_gapless (suc (suc (suc (suc zero)))) l h = refl
  word_gapless (suc (suc (suc (suc (suc kind))))) l h = absurd (omega arith)

  pub word_goes_on : (kind : ℕ) → 1 ≤ kind → kind ≤ 4 → ends_here (word_text kind ++ s) ≡ false
  word_goes_on zero l h = absurd (omega arith)
  word_goes_on (suc zero) l h = refl
  word_goes_on (suc (suc zero)) l h = refl
  word_goes_on (suc (suc (suc zero))) l h = refl
  word_goes_on (suc (suc (suc (suc zero)))) l h = refl
  word_goes_on (suc (suc (suc (suc (suc kind))))) l h = absurd (omega arith)

  -- a word that is parted from what follows is found as that of its sort
  pub word_back : (kind : ℕ) → 1 ≤ kind → kind ≤ 4 → parted_here s ≡ true → word_of (word_text kind ++ s) ≡ word_as kind
  unfolding word_of is_word
  word_back zero l h p = absurd (omega arith)
  word_back (suc zero) l h p = rw p
  word_back (suc (suc zero)) l h p = rw p
  word_back (suc (suc (suc zero))) l h p = rw p
  word_back (suc (suc (suc (suc zero)))) l h p = rw p
  word_back (suc (suc (suc (suc (suc kind))))) l h p = absurd (omega arith)

-- past its word a line's items are gathered
pub parsed_on :
    (kind year : ℕ) (vs : List ℕ) → 1 ≤ kind → kind ≤ 4 → parsed_of (line_text kind year vs) year ≡ gathered (line_text kind year vs) (length (word_text kind)) kind year 0
unfolding parsed_of
parsed_on kind year vs l h =
    let items = items_text kind year 0 vs in
    rw (
      word_gapless items kind l h,
      word_goes_on items kind l h,
      line_celless kind year vs,
      word_back items kind l h (items_parted kind year 0 vs),
      ne_eqb kind 0 (λ e. omega arith),
      zero-add (length (word_text kind)),
    )

-- the item after a gap is read
pub field_back :
    (kind k year v : ℕ) (rest : List ℕ) →
    k < most_of kind →
    v ≤ limit_of (item_of kind k) →
    parted_here rest ≡ true →
    (byte_at rest 1 ≡ 45 → ⊥) →
    next_cell (gap_text kind k ++ (item_text (item_of kind k) year v ++ rest)) kind k year 0
    ≡ record { answer = 0; value = v; used = length (gap_text kind k) + length (item_text (item_of kind k) year v) }
unfolding next_cell gap_before next_field parted_item
field_back kind k year v rest room within p q =
    let begins = item_begins (item_of kind k) year v rest in
    rw (
      gap_gaps kind k (item_text (item_of kind k) year v ++ rest) begins.0,
      drop-append_seam (gap_text kind k) (item_text (item_of kind k) year v ++ rest),
      begins.1,
      lt-leb (most_of kind) k room,
      item_back (item_of kind k) year v rest within p q,
      field_passed kind k year v rest,
      p,
    )

-- the first of written items is read
first_back :
    (kind k year v : ℕ) (vs : List ℕ) →
    within_from kind k (v ∷ vs) ≡ true →
    k < most_of kind →
    next_cell (items_text kind year k (v ∷ vs)) kind k year 0
    ≡ record { answer = 0; value = v; used = length (gap_text kind k) + length (item_text (item_of kind k) year v) }
first_back kind k year v vs w room =
    field_back kind k year v (items_text kind year (k + 1) vs) room
    (leb-true v (limit_of (item_of kind k)) (and_left (leb v (limit_of (item_of kind k))) (within_from kind (k + 1) vs) w))
    (items_parted kind year (k + 1) vs)
    (items_no_dash kind year (k + 1) vs)

-- reading written items gives their numbers
pub values_back :
    (n kind k year : ℕ) (vs : List ℕ) → within_from kind k vs ≡ true → k + length vs ≤ most_of kind → length vs ≤ n → values_from n (items_text kind year k vs) kind k year 0 ≡ vs
unfolding values_from
values_back zero kind k year [] w m h = refl
values_back (suc n) kind k year [] w m h = rw (nothing_left kind k year)
values_back zero kind k year (v ∷ vs) w m h = absurd (omega arith)
values_back (suc n) kind k year (v ∷ vs) w m h =
    let rest = items_text kind year (k + 1) vs in
    let others : values_from n rest kind (k + 1) year 0 ≡ vs =
    values_back n kind (k + 1) year vs (and_right (leb v (limit_of (item_of kind k))) (within_from kind (k + 1) vs) w) (omega arith) (omega arith) in
    rw (first_back kind k year v vs w (omega arith), field_passed kind k year v rest, others)

-- and comes to the line's end
pub ends_back :
    (n kind k year : ℕ) (vs : List ℕ) → within_from kind k vs ≡ true → k + length vs ≤ most_of kind → length vs ≤ n → (end_from n (items_text kind year k vs) kind k year 0).answer ≡ 255
unfolding end_from
ends_back zero kind k year [] w m h = rw (nothing_left kind k year)
ends_back (suc n) kind k year [] w m h = rw (nothing_left kind k year)
ends_back zero kind k year (v ∷ vs) w m h = absurd (omega arith)
ends_back (suc n) kind k year (v ∷ vs) w m h =
    let rest = items_text kind year (k + 1) vs in
    let others : (end_from n rest kind (k + 1) year 0).answer ≡ 255 =
    ends_back n kind (k + 1) year vs (and_right (leb v (limit_of (item_of kind k))) (within_from kind (k + 1) vs) w) (omega arith) (omega arith) in
    rw (first_back kind k year v vs w (omega arith), field_passed kind k year v rest, others)

-- whole and within their limits, they are the line's entry
pub gathered_back :
    (kind year : ℕ) (vs : List ℕ) →
    1 ≤ kind →
    kind ≤ 4 →
    whole_of kind (length vs) ≡ true →
    within_from kind 0 vs ≡ true →
    gathered (line_text kind year vs) (length (word_text kind)) kind year 0
    ≡ record { answer = 0; at = length (word_text kind) + (end_from 261 (items_text kind year 0 vs) kind 0 year 0).used; entry = entry_of kind vs }
unfolding gathered ended_by
gathered_back kind year vs l h whole within =
    let a : length vs ≤ most_of kind = whole_most kind (length vs) l h whole in
    let b : most_of kind ≤ 261 = most_small kind in
    let items = items_text kind year 0 vs in
    rw (
      drop-append_seam (word_text kind) items,
      values_back 261 kind 0 year vs within (omega arith) (omega arith),
      ends_back 261 kind 0 year vs within (omega arith) (omega arith),
      whole,
    )

-- reading a written line gives its entry
pub line_back :
    (kind year : ℕ) (vs : List ℕ) →
    1 ≤ kind →
    kind ≤ 4 →
    whole_of kind (length vs) ≡ true →
    within_from kind 0 vs ≡ true →
    ((parsed_of (line_text kind year vs) year).answer ≡ 0) × ((parsed_of (line_text kind year vs) year).entry ≡ entry_of kind vs)
line_back kind year vs l h whole within =
    let e = parsed_on kind year vs l h ∙ gathered_back kind year vs l h whole within in
    (ap (λ (r : Parsed). r.answer) e, ap (λ (r : Parsed). r.entry) e)
