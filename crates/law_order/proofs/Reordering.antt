-- The theorem *reordering* (01, "Bytes on the wire"): what is asked of a book's events does not look at their order, adding verdicts and marking numbers
-- may be exchanged, so a reordered book is accepted and ends in the same ledger and the same map. Assumes nothing.
use Prim.Native.Nat.{ℕ}
use mathlib.Core.Path.{◌≡◌, refl, sym, ap, ◌∙◌, subst}
use mathlib.Core.List.{List, [], ◌∷◌, map}
use native.Mathlib.Omega.{arith}
use Rattle.wire.specs.Cut.{cut_in, records_of, joined}
use Rattle.used_numbers.proofs.MarkLaws.{marked_with_comm}
use Rattle.fields.specs.declared.Sheet.{Sheet}
use Rattle.fields.specs.Fields.{sheet_in}
use Rattle.verdict.specs.Verdict.{event_verdict}
use Rattle.ledger.specs.declared.Ledger.{Ledger}
use Rattle.ledger.specs.Ledger.{empty_ledger}
use Rattle.book.specs.Book.{BookState, starting, take_all}
use Rattle.law_sums.specs.Accepted.{zero_map, Accepted, event_at, number_in, with_number, all_marked}
use Rattle.base.specs.Perm.{Perm, done, keep, swap, then}
use Rattle.law_order.specs.Each.{Right, Apart, Different, Unmarked, Each, with_event, with_all, only_sheet, Told}
use Rattle.law_order.specs.Reorder.{Reordered, none, after, end, SameEnd}
use Rattle.base.proofs.PermLaws.{perm_length, perm_all, perm_map, fold_perm}
use Rattle.law_order.proofs.AddedLaws.{added_comm}
use Rattle.law_order.proofs.ShapeLaws.{told_taken, told_end, told_accepted, whole_joined, accepted_told, no_bytes_accepted}

-- what is asked of events holds in any order
apart_sym : (v w : ℕ) → Apart v w → Apart w v
apart_sym v w a l e = a (omega (arith, e, l)) (sym e)

-- different numbers are so in any order, and all that is asked of events holds of them in any order
pub different_perm : {vs ws : List ℕ} → Perm vs ws → Different vs → Different ws
different_perm done d = d
different_perm (keep {a = v} p) d = (perm_all (Apart v) p d.0, different_perm p d.1)
different_perm (swap {a = v} {b = w}) d = ((apart_sym v w d.0.0, d.1.0), (d.0.1, d.1.1))
different_perm (then p q) d = different_perm q (different_perm p d)

pub each_perm : (sheet : Sheet) (m : List ℕ) (events : ℕ) {ss ts : List (List ℕ)} → Perm ss ts → Each sheet m events ss → Each sheet m events ts
each_perm sheet m events p each =
    record {
      right = perm_all (Right sheet) p each.right;
      unmarked = perm_all (Unmarked m) p each.unmarked;
      different = different_perm (perm_map number_in p) each.different;
      room = omega (arith, each.room, perm_length p);
    }

-- and they come to the same
with_comm : (sheet : Sheet) (l : Ledger) (a b : List ℕ) → with_event sheet (with_event sheet l a) b ≡ with_event sheet (with_event sheet l b) a
unfolding event_verdict
with_comm sheet l a b = added_comm l (event_at sheet a) (event_at sheet b) refl

-- events in any order come to the same ledger, and mark the same numbers
pub all_added : (sheet : Sheet) (l : Ledger) {ss ts : List (List ℕ)} → Perm ss ts → with_all sheet l ss ≡ with_all sheet l ts
all_added sheet l p = fold_perm (with_event sheet) (with_comm sheet) p l

pub all_numbers : (m : List ℕ) {ss ts : List (List ℕ)} → Perm ss ts → all_marked m ss ≡ all_marked m ts
all_numbers m p = fold_perm with_number (λ m a b. marked_with_comm m (number_in a) (number_in b)) p m

-- a sheet, and events after it, in any order
told_perm : (s : List ℕ) {ss ts : List (List ℕ)} → Perm ss ts → Told s ss → Told s ts
told_perm s p t =
    record {
      is_sheet_lem = t.is_sheet_lem;
      framed = t.framed;
      size = t.size;
      range = t.range;
      each = each_perm (sheet_in s) zero_map 0 p t.each;
    }

-- an accepted book's records after the first may come in any order: that book is accepted, with the same ledger and map at its end
pub events_reordered :
    (book s : List ℕ) {ss ts : List (List ℕ)} →
    Accepted book →
    records_of book ≡ s ∷ ss →
    Perm ss ts →
    SameEnd book (joined (s ∷ ts))
events_reordered book s {ss} {ts} accepted e p =
    let told : Told s ss = accepted_told book s ss accepted e in
    let moved : Told s ts = told_perm s p told in
    let before : end book ≡ record { ledger = with_all (sheet_in s) (only_sheet s) ss; map = all_marked zero_map ss; refused = 0 } =
    ap (take_all (starting empty_ledger zero_map)) e ∙ told_taken s ss told in
    record {
      accepted = told_accepted s ts moved;
      ledger =
          ap (λ (st : BookState). st.ledger) (told_end s ts moved) ∙
          sym (all_added (sheet_in s) (only_sheet s) p) ∙
          ap (λ (st : BookState). st.ledger) (sym before);
      map = ap (λ (st : BookState). st.map) (told_end s ts moved) ∙ sym (all_numbers zero_map p) ∙ ap (λ (st : BookState). st.map) (sym before);
    }

-- the book of no bytes has no events to move
nothing_reordered : SameEnd [] []
unfolding cut_in records_of
nothing_reordered = record { accepted = no_bytes_accepted; ledger = refl; map = refl }

records_reordered : (book : List ℕ) {rs ts : List (List ℕ)} → Accepted book → records_of book ≡ rs → Reordered rs ts → SameEnd book (joined ts)
records_reordered book accepted e none =
    subst (λ b. SameEnd b []) (ap joined (sym e) ∙ whole_joined book accepted.whole) nothing_reordered
records_reordered book accepted e (after {sheet = s} p) = events_reordered book s accepted e p

-- the same of every reordered book, that of no bytes too
pub reordering : (book : List ℕ) (rs : List (List ℕ)) → Accepted book → Reordered (records_of book) rs → SameEnd book (joined rs)
reordering book rs accepted r = records_reordered book accepted refl r
