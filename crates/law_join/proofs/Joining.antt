-- The theorem *joining* (01, "Bytes on the wire"): what is asked of events does not look at those of another book but for their numbers, so all of it holds
-- of the two books' events together; that there are at most 65,535 of them follows from their numbers. The totals are sums over the events, and
-- those of the joined book are the events of the two. Assumes nothing.
use Prim.Native.Nat.{ℕ, ◌+◌, ◌<◌, ◌≤◌}
use mathlib.Core.Path.{◌≡◌, refl, sym, ap, ◌∙◌, subst}
use mathlib.Core.Logic.{◌≢◌, ◌↔◌}
use mathlib.Core.List.{List, [], ◌∷◌, ◌++◌, map, append-nil, map-append}
use mathlib.Core.Bool.{Bool, true, false, ◌||◌, cond}
use lib.ListN.{length, get_or, drop, length-append, length-map}
use lib.Seq.{drop_at}
use lib.Dec.{eqb}
use native.Mathlib.Omega.{arith}
use borrow.Author.Tests.{eqb-true, not-false}
use Rattle.base.specs.Lists.{All, listed, keep, Bytes}
use Rattle.base.proofs.ListLaws.{all_append}
use Rattle.wire.specs.Frame.{kind_of}
use Rattle.wire.specs.Cut.{cut_in, records_of, joined}
use Rattle.wire.proofs.ByteLaws.{le16_below}
use Rattle.codes.specs.Ranges.{most_events}
use Rattle.used_numbers.specs.Marks.{marked}
use Rattle.fields.specs.declared.Sheet.{Sheet}
use Rattle.fields.specs.Fields.{sheet_in}
use Rattle.ledger.specs.Ledger.{empty_ledger, held_in}
use Rattle.book.specs.Book.{BookState, starting, take_all, after_book}
use Rattle.law_sums.specs.Accepted.{zero_map, Accepted, short_ones, sum_of, number_in, all_marked}
use Rattle.law_sums.specs.Theorem.{events_of, sheets_of, book_ledger, book_map, IsSum}
use Rattle.law_sums.proofs.AnnexTheorem.{accepted_book_adds}
use Rattle.law_order.specs.Each.{Right, Different, Unmarked, with_all, only_sheet, Told}
use Rattle.law_order.proofs.EachLaws.{right_number, right_not_sheet, with_sheet_lem}
use Rattle.law_order.proofs.ShapeLaws.{Shape, no_bytes, sheet_then, accepted_shape, accepted_told, told_taken, told_end, told_accepted, told_counted}
use Rattle.law_join.specs.Join.{numbers_in, SharesNone, SameSheet, joined_book, JoinAdds}
use Rattle.law_join.proofs.DifferentLaws.{at_most, different_append, different_shares_none, none_listed}
use Rattle.law_join.proofs.ByteLaws.{join_is, join_records, join_events, bytes_records}
use Rattle.law_join.proofs.TotalLaws.{sums_append, short_append}
use Rattle.law_join.proofs.MapLaws.{marks_append}

-- the totals, once the joined book is accepted: each is a sum over events, and the events are those of the two
module _ (book₁ book₂ : List ℕ) (accepted₁ : Accepted book₁) (accepted₂ : Accepted book₂) (accepted : Accepted (joined_book book₁ book₂)) where
  abbrev united : List ℕ
  united = joined_book book₁ book₂

  sum₁ : IsSum book₁
  sum₁ = accepted_book_adds book₁ accepted₁

  sum₂ : IsSum book₂
  sum₂ = accepted_book_adds book₂ accepted₂

  sum_joined : IsSum united
  sum_joined = accepted_book_adds united accepted

  all_events : events_of united ≡ events_of book₁ ++ events_of book₂
  all_events = join_events book₁ book₂ accepted₁.whole

  -- a number of the ledger that is a sum over the events
  adding :
      (value : List ℕ → ℕ) (total : List (List ℕ) → ℕ) →
      value united ≡ total (events_of united) →
      value book₁ ≡ total (events_of book₁) →
      value book₂ ≡ total (events_of book₂) →
      total (events_of book₁ ++ events_of book₂) ≡ total (events_of book₁) + total (events_of book₂) →
      value united ≡ value book₁ + value book₂
  adding value total e e₁ e₂ splits = e ∙ ap total all_events ∙ splits ∙ (λ i. sym e₁ i + sym e₂ i)

  all_added :
      ((book_ledger united).sheet ≡ (book_ledger book₁).sheet) →
      ((book_ledger united).sheet ≡ (book_ledger book₂).sheet) →
      ((v : ℕ) → marked (book_map united) v ≡ (marked (book_map book₁) v || marked (book_map book₂) v)) →
      JoinAdds book₁ book₂
  all_added sheet₁ sheet₂ marks =
      record {
        accepted = accepted;
        total₁ = sum₁;
        total₂ = sum₂;
        total = sum_joined;
        records = join_records book₁ book₂ accepted₁.whole;
        all = all_events;
        events =
            adding (λ b. (book_ledger b).events) length sum_joined.events sum₁.events sum₂.events
            (length-append (events_of book₁) (events_of book₂));
        short =
            adding (λ b. (book_ledger b).short) (λ es. length (short_ones es)) sum_joined.short sum₁.short sum₂.short
            (short_append (events_of book₁) (events_of book₂));
        cells =
            λ x row h r c.
            adding (λ b. held_in x (book_ledger b) row h) (sum_of x row h)
            (sum_joined.cells x row h r c)
            (sum₁.cells x row h r c)
            (sum₂.cells x row h r c)
            (sums_append (events_of book₁) (events_of book₂) x row h);
        sheet₁ = sheet₁;
        sheet₂ = sheet₂;
        marks = marks;
      }

-- the numbers of events are from 1 to 65,535
numbers_within :
    (sheet : Sheet) (es : List (List ℕ)) →
    sheet.there ≡ true →
    All (Right sheet) es →
    All Bytes es →
    All (λ (v : ℕ). (1 ≤ v) × (v ≤ 65535)) (map number_in es)
numbers_within sheet [] there r b = tt
numbers_within sheet (e ∷ es) there r b =
    let some : number_in e ≢ 0 = right_number sheet e there r.0 in
    ((positive (number_in e) some, omega (arith, le16_below e b.0 4)), numbers_within sheet es there r.1 b.1)
  where
    positive : (v : ℕ) → v ≢ 0 → 1 ≤ v
    positive v n = omega arith

-- a sheet, and the events of both after it
module _ (s : List ℕ) (xs ys : List (List ℕ)) (told₁ : Told s xs) (told₂ : Told s ys) (bytes₁ : All Bytes xs) (bytes₂ : All Bytes ys) where
  both_told : All (λ (v : ℕ). listed v (map number_in xs) ≡ false) (map number_in ys) → Told s (xs ++ ys)
  both_told shares-none =
      record {
        is_sheet_lem = told₁.is_sheet_lem;
        framed = told₁.framed;
        size = told₁.size;
        range = told₁.range;
        each = record { right = right; unmarked = unmarked; different = different; room = room };
      }
    where
      right : All (Right (sheet_in s)) (xs ++ ys)
      right = all_append (Right (sheet_in s)) xs ys told₁.each.right told₂.each.right

      unmarked : All (Unmarked zero_map) (xs ++ ys)
      unmarked = all_append (Unmarked zero_map) xs ys told₁.each.unmarked told₂.each.unmarked

      different : Different (map number_in (xs ++ ys))
      different =
          subst Different (sym (map-append number_in xs ys))
          (different_append (map number_in xs) (map number_in ys) told₁.each.different told₂.each.different shares-none)

      -- different numbers from 1 to 65,535 are at most 65,535
      few : length (map number_in (xs ++ ys)) ≤ 65535
      few =
          at_most 65535 (map number_in (xs ++ ys)) (omega arith) different
          (numbers_within (sheet_in s) (xs ++ ys) refl right (all_append Bytes xs ys bytes₁ bytes₂))

      room : 0 + length (xs ++ ys) ≤ most_events
      room = omega (arith, few, length-map (xs ++ ys) number_in)

-- the sheet records of a sheet with events after it
told_sheets : (book s : List ℕ) (es : List (List ℕ)) → records_of book ≡ s ∷ es → Told s es → sheets_of book ≡ s ∷ []
told_sheets book s es e t =
    ap (keep is_sheet_lem) e ∙
    ap (λ (b : Bool). cond b (s ∷ keep is_sheet_lem es) (keep is_sheet_lem es)) (ap (λ (k : ℕ). eqb k 1) t.is_sheet_lem) ∙
    ap (λ (rest : List (List ℕ)). s ∷ rest) (go es t.each.right)
  where
    is_sheet_lem : List ℕ → Bool
    is_sheet_lem e = eqb (kind_of e) 1

    go : (es : List (List ℕ)) → All (Right (sheet_in s)) es → keep is_sheet_lem es ≡ []
    go [] a = refl
    go (e ∷ es) a =
        ap (λ (b : Bool). cond b (e ∷ keep is_sheet_lem es) (keep is_sheet_lem es)) (right_not_sheet (sheet_in s) e refl a.0) ∙ go es a.1

-- the book of no bytes has neither sheets nor events
no_sheets : (book : List ℕ) → book ≡ [] → sheets_of book ≡ []
unfolding records_of cut_in
no_sheets book e = ap sheets_of e

no_events : (book : List ℕ) → book ≡ [] → events_of book ≡ []
unfolding records_of cut_in
no_events book e = ap events_of e

or_same : (b : Bool) → b ≡ (b || b)
or_same true = refl
or_same false = refl

module _ (book₁ book₂ : List ℕ) (bytes₁ : Bytes book₁) (bytes₂ : Bytes book₂) (accepted₁ : Accepted book₁) (accepted₂ : Accepted book₂) where
  -- two books of no bytes
  none_joined : book₁ ≡ [] → book₂ ≡ [] → JoinAdds book₁ book₂
  none_joined e₁ e₂ =
      let same : joined_book book₁ book₂ ≡ book₁ = ap (λ (es : List (List ℕ)). book₁ ++ joined es) (no_events book₂ e₂) ∙ append-nil book₁ in
      let other : book₁ ≡ book₂ = e₁ ∙ sym e₂ in
      all_added book₁ book₂ accepted₁ accepted₂ (subst Accepted (sym same) accepted₁)
      (ap (λ (b : List ℕ). (book_ledger b).sheet) same)
      (ap (λ (b : List ℕ). (book_ledger b).sheet) (same ∙ other))
      (λ v. ap (λ (b : List ℕ). marked (book_map b) v) same ∙ or_same (marked (book_map book₁) v) ∙ ap (λ (b : List ℕ). marked (book_map book₁) v || marked (book_map b) v) other)

  -- two books of a sheet and events
  module _
      (s : List ℕ) (xs ys : List (List ℕ))
      (e₁ : records_of book₁ ≡ s ∷ xs)
      (e₂ : records_of book₂ ≡ s ∷ ys)
      (told₁ : Told s xs)
      (told₂ : Told s ys)
      (shares : SharesNone book₁ book₂)
    where
      told : Told s (xs ++ ys)
      told =
          both_told s xs ys told₁ told₂
          (subst (All Bytes) e₁ (bytes_records book₁ accepted₁.whole bytes₁)).1
          (subst (All Bytes) e₂ (bytes_records book₂ accepted₂.whole bytes₂)).1
          (both (told_counted book₁ s xs e₁ told₁) (told_counted book₂ s ys e₂ told₂))
        where
          both : events_of book₁ ≡ xs → events_of book₂ ≡ ys → All (λ (v : ℕ). listed v (map number_in xs) ≡ false) (map number_in ys)
          both p q =
              subst (λ (es : List (List ℕ)). All (λ (v : ℕ). listed v (map number_in es) ≡ false) (map number_in ys)) p
              (subst (λ (es : List (List ℕ)). All (λ (v : ℕ). listed v (numbers_in book₁) ≡ false) (map number_in es)) q shares)

      is_joined : joined (s ∷ (xs ++ ys)) ≡ joined_book book₁ book₂
      is_joined =
          (λ i. joined (sym e₁ i ++ sym (told_counted book₂ s ys e₂ told₂) i)) ∙ join_is book₁ book₂ accepted₁.whole

      abbrev end_of : List (List ℕ) → BookState
      end_of es = record { ledger = with_all (sheet_in s) (only_sheet s) es; map = all_marked zero_map es; refused = 0 }

      end : after_book empty_ledger zero_map (joined_book book₁ book₂) ≡ end_of (xs ++ ys)
      end = ap (after_book empty_ledger zero_map) (sym is_joined) ∙ told_end s (xs ++ ys) told

      end₁ : after_book empty_ledger zero_map book₁ ≡ end_of xs
      end₁ = ap (take_all (starting empty_ledger zero_map)) e₁ ∙ told_taken s xs told₁

      end₂ : after_book empty_ledger zero_map book₂ ≡ end_of ys
      end₂ = ap (take_all (starting empty_ledger zero_map)) e₂ ∙ told_taken s ys told₂

      sheet_at : (b : List ℕ) (es : List (List ℕ)) → after_book empty_ledger zero_map b ≡ end_of es → (book_ledger b).sheet ≡ sheet_in s
      sheet_at b es e = ap (λ (st : BookState). st.ledger.sheet) e ∙ with_sheet_lem (sheet_in s) (only_sheet s) es refl

      some_joined : JoinAdds book₁ book₂
      some_joined =
          all_added book₁ book₂ accepted₁ accepted₂
          (subst Accepted is_joined (told_accepted s (xs ++ ys) told))
          (sheet_at (joined_book book₁ book₂) (xs ++ ys) end ∙ sym (sheet_at book₁ xs end₁))
          (sheet_at (joined_book book₁ book₂) (xs ++ ys) end ∙ sym (sheet_at book₂ ys end₂))
          (λ v.
          ap (λ (st : BookState). marked st.map v) end ∙
          marks_append v xs ys ∙
          (λ i. marked (sym end₁ i).map v || marked (sym end₂ i).map v))

  -- accepted books of bytes under one sheet that share no event number join into an accepted book, whose totals are the sums
  pub join_adds : SameSheet book₁ book₂ → SharesNone book₁ book₂ → JoinAdds book₁ book₂
  join_adds same shares = go (accepted_shape book₁ accepted₁) (accepted_shape book₂ accepted₂)
    where
      one_and_none : (s : List ℕ) → ◌≡◌ {A = List (List ℕ)} (s ∷ []) [] → ⊥
      one_and_none s e = omega (arith, ap length e)

      go : Shape book₁ → Shape book₂ → JoinAdds book₁ book₂
      go (no_bytes e₁) (no_bytes e₂) = none_joined e₁ e₂
      go (no_bytes e₁) (sheet_then t ys e₂ j₂ told₂) = absurd (one_and_none t (sym (told_sheets book₂ t ys e₂ told₂) ∙ sym same ∙ no_sheets book₁ e₁))
      go (sheet_then s xs e₁ j₁ told₁) (no_bytes e₂) = absurd (one_and_none s (sym (told_sheets book₁ s xs e₁ told₁) ∙ same ∙ no_sheets book₂ e₂))
      go (sheet_then s xs e₁ j₁ told₁) (sheet_then t ys e₂ j₂ told₂) =
          let one : s ∷ [] ≡ t ∷ [] = sym (told_sheets book₁ s xs e₁ told₁) ∙ same ∙ told_sheets book₂ t ys e₂ told₂ in
          let s_is_t : s ≡ t = ap (λ (ss : List (List ℕ)). get_or ss 0 []) one in
          some_joined s xs ys e₁ (e₂ ∙ ap (λ (r : List ℕ). r ∷ ys) (sym s_is_t)) told₁ (subst (λ (r : List ℕ). Told r ys) (sym s_is_t) told₂) shares

-- and only then: where a number is shared, the joined book is not accepted
module _ (book₁ book₂ : List ℕ) (bytes₁ : Bytes book₁) (accepted₁ : Accepted book₁) where
  pub accepted_shares_none : Accepted (joined_book book₁ book₂) → SharesNone book₁ book₂
  accepted_shares_none accepted = go (accepted_shape book₁ accepted₁)
    where
      below : (es : List (List ℕ)) → All Bytes es → All (λ (v : ℕ). v < 65536) (map number_in es)
      below [] b = tt
      below (e ∷ es) b = (omega (arith, le16_below e b.0 4), below es b.1)

      go : Shape book₁ → SharesNone book₁ book₂
      go (no_bytes e) =
          subst (λ (es : List (List ℕ)). All (λ (v : ℕ). listed v (map number_in es) ≡ false) (numbers_in book₂))
          (sym (no_events book₁ e))
          (none_listed (numbers_in book₂))
      go (sheet_then s xs e j t) =
          let records : records_of (joined_book book₁ book₂) ≡ s ∷ (xs ++ events_of book₂) =
          join_records book₁ book₂ accepted₁.whole ∙ ap (λ (rs : List (List ℕ)). rs ++ events_of book₂) e in
          let all : Told s (xs ++ events_of book₂) = accepted_told (joined_book book₁ book₂) s (xs ++ events_of book₂) accepted records in
          let different : Different (map number_in xs ++ numbers_in book₂) = subst Different (map-append number_in xs (events_of book₂)) all.each.different in
          subst (λ (es : List (List ℕ)). All (λ (v : ℕ). listed v (map number_in es) ≡ false) (numbers_in book₂)) (sym (told_counted book₁ s xs e t))
          (different_shares_none (map number_in xs) (numbers_in book₂)
          (below xs (subst (All Bytes) e (bytes_records book₁ accepted₁.whole bytes₁)).1)
          different)

-- two accepted books of bytes under one sheet join into an accepted book exactly where they share no event number
pub join_accepted_exactly :
    (book₁ book₂ : List ℕ) →
    Bytes book₁ →
    Bytes book₂ →
    Accepted book₁ →
    Accepted book₂ →
    SameSheet book₁ book₂ →
    Accepted (joined_book book₁ book₂) ↔ SharesNone book₁ book₂
join_accepted_exactly book₁ book₂ bytes₁ bytes₂ accepted₁ accepted₂ same = (
  accepted_shares_none book₁ book₂ bytes₁ accepted₁,
  λ shares. (join_adds book₁ book₂ bytes₁ bytes₂ accepted₁ accepted₂ same shares).accepted,
)

-- the bytes of an accepted book's events are its bytes after the 18 of its sheet
pub join_bytes : (book₁ book₂ : List ℕ) → Accepted book₂ → joined_book book₁ book₂ ≡ book₁ ++ drop 18 book₂
join_bytes book₁ book₂ accepted₂ = ap (λ (t : List ℕ). book₁ ++ t) (go (accepted_shape book₂ accepted₂))
  where
    go : Shape book₂ → joined (events_of book₂) ≡ drop 18 book₂
    go (no_bytes e) = ap joined (no_events book₂ e) ∙ ap (drop 18) (sym e)
    go (sheet_then s ys e j t) =
        let size : length s ≡ 18 = eqb-true (length s) 18 (not-false (eqb (length s) 18) t.size) in
        ap joined (told_counted book₂ s ys e t) ∙ sym (drop_at s (joined ys) 18 size) ∙ ap (drop 18) (sym j)
