-- What an accepted book looks like: no bytes, or a sheet and after it events of which all that is asked holds; and what it comes to. An event before
-- the sheet and a second sheet are refused 5. Assumes nothing.
use Prim.Native.Nat.{ℕ, ◌+◌}
use mathlib.Core.Path.{◌≡◌, refl, sym, ap, ◌∙◌, subst}
use mathlib.Core.Logic.{◌⊎◌, inl, inr}
use mathlib.Core.List.{List, [], ◌∷◌}
use mathlib.Core.Bool.{Bool, true, false, not, cond, true≢false}
use lib.ListN.{length, length-replicate}
use lib.Dec.{eqb}
use borrow.Author.Tests.{not-false}
use Rattle.base.specs.First.{Clear}
use Rattle.base.specs.Lists.{All, keep}
use Rattle.base.proofs.FirstLaws.{unclear, clear_at}
use Rattle.wire.specs.Frame.{kind_of}
use Rattle.wire.specs.Book.{place_at, which_of}
use Rattle.wire.specs.Cut.{cut_in, records_of, stop_in, stop_from, joined}
use Rattle.wire.specs.declared.Place.{Place}
use Rattle.wire.specs.declared.Place.TheVariants.{End}
use Rattle.wire.proofs.CutLaws.{Framed, Stopped, records_stop, records_whole, cut_joined, joined_ends}
use Rattle.records.proofs.TakeLaws.{first_accepted}
use Rattle.used_numbers.specs.Marks.{marked_with, map_size}
use Rattle.used_numbers.proofs.MarkLaws.{marked_with_zero}
use Rattle.fields.specs.Fields.{sheet_in, no_sheet}
use Rattle.verdict.specs.Verdict.{Verdict}
use Rattle.record.specs.Rules.{by_kind, rules, rules_at, unframed, length_wrong, sheet_out_of_range}
use Rattle.record.specs.Verdict.{accepted_at, record_answer}
use Rattle.record.proofs.JudgeLaws.{accepted_clear}
use Rattle.record.proofs.FairLaws.{kind_taken}
use Rattle.ledger.specs.Ledger.{empty_ledger, added}
use Rattle.ledger.specs.Sound.{sound_ledger}
use Rattle.ledger.specs.Take.{answer_of, ledger_after, map_after}
use Rattle.ledger.proofs.CellLaws.{added_sheet}
use Rattle.ledger.proofs.TakeLaws.{answer_judged, accepted_verdict, accepted_adds}
use Rattle.ledger.proofs.SoundLaws.{sound_stays_sound, empty_sound}
use Rattle.records.specs.Records.{is_broken}
use Rattle.book.specs.Book.{BookState, starting, take_record, take_all, after_book}
use Rattle.book.proofs.RunLaws.{sound_taken, refused_in, answer_in, refused_counted}
use Rattle.law_sums.specs.Accepted.{zero_map, Accepted, all_marked}
use Rattle.law_sums.specs.Theorem.{events_of}
use Rattle.law_order.specs.Each.{Right, with_all, only_sheet, Told}
use Rattle.law_order.proofs.EachLaws.{Ready, right_kind, right_not_sheet, each_taken, each_accepted}

-- the map at the start of a book has its size
zero_size : length zero_map ≡ map_size
zero_size = length-replicate {A = ℕ} map_size 0

-- the first record that is accepted, whatever the map: a sheet
module _ (m : List ℕ) (size : length m ≡ map_size) (s : List ℕ) where
  judged : answer_of empty_ledger m s ≡ record_answer s no_sheet m 0
  judged = answer_judged empty_ledger m s (sound_taken empty_ledger m empty_sound size)

  abbrev First : Type 0
  First = (kind_of s ≡ 1) × (unframed s ≡ false) × (length_wrong 1 s ≡ false) × (sheet_out_of_range 1 s ≡ false)

  first_sheet : answer_of empty_ledger m s ≡ 0 → First
  first_sheet a = go (kind_taken (kind_of s) c.1.0)
    where
      c : Clear (rules s no_sheet m 0)
      c = accepted_clear s no_sheet m 0 (sym judged ∙ a)

      go : (kind_of s ≡ 1) ⊎ ((kind_of s ≡ 2) ⊎ (kind_of s ≡ 3)) → First
      go (inl k) =
          let d : Clear (rules_at 1 s no_sheet m 0) = subst (λ kind. Clear (rules_at kind s no_sheet m 0)) k c.1 in
          let e = clear_at (rules_at 1 s no_sheet m 0) d in
          (k, c.0, e 4, e 6)
      go (inr (inl k)) = absurd (true≢false (ap (λ kind. by_kind kind false true true) (sym k) ∙ clear_at (rules s no_sheet m 0) c 5))
      go (inr (inr k)) = absurd (true≢false (ap (λ kind. by_kind kind false true true) (sym k) ∙ clear_at (rules s no_sheet m 0) c 5))

  sheet_first_lem : First → answer_of empty_ledger m s ≡ 0
  unfolding record_answer
  sheet_first_lem (k, f, n, r) =
      let at : Clear (rules_at 1 s no_sheet m 0) =
      (refl, (n, (refl, (r, (refl, (refl, (refl, (refl, (refl, (refl, (refl, tt))))))))))) in
      judged ∙ unclear (rules s no_sheet m 0) (f, subst (λ kind. Clear (rules_at kind s no_sheet m 0)) (sym k) at)

  module _ (k : kind_of s ≡ 1) (a : answer_of empty_ledger m s ≡ 0) where
    after_sheet_lem : (ledger_after empty_ledger m s ≡ only_sheet s) × (map_after empty_ledger m s ≡ m)
    after_sheet_lem =
        let v = accepted_verdict empty_ledger m s a ∙ ap (λ kind. accepted_at kind s no_sheet) k in (
          (accepted_adds empty_ledger m s a).0 ∙ ap (added empty_ledger) v ∙ added_sheet empty_ledger (sheet_in s),
          (accepted_adds empty_ledger m s a).1 ∙ ap (λ (v : Verdict). marked_with m v.number) v ∙ marked_with_zero m,
        )

    sheet_taken : take_record (starting empty_ledger m) s ≡ starting (only_sheet s) m
    unfolding take_record
    sheet_taken =
        let none : 0 + cond (eqb (answer_of empty_ledger m s) 0) 0 1 ≡ 0 = ap (λ n. 0 + cond (eqb n 0) 0 1) a in
        λ i. record { ledger = after_sheet_lem.0 i; map = after_sheet_lem.1 i; refused = none i }

    ready_events : Ready (only_sheet s) m
    ready_events =
        record { there = refl; sound = ap sound_ledger (sym after_sheet_lem.0) ∙ sound_stays_sound empty_ledger m s empty_sound; size = size }

-- a sheet and events, as records of a book: none is refused exactly where they are as `Told` says
module _ (s : List ℕ) (ss : List (List ℕ)) where
  abbrev told_first : Told s ss → First zero_map zero_size s
  told_first t = (t.is_sheet_lem, t.framed, t.size, t.range)

  pub told_taken :
      Told s ss →
      take_all (starting empty_ledger zero_map) (s ∷ ss) ≡
      record { ledger = with_all (sheet_in s) (only_sheet s) ss; map = all_marked zero_map ss; refused = 0 }
  told_taken t =
      let a : answer_of empty_ledger zero_map s ≡ 0 = sheet_first_lem zero_map zero_size s (told_first t) in
      ap (λ (st : BookState). take_all st ss) (sheet_taken zero_map zero_size s t.is_sheet_lem a) ∙
      each_taken (only_sheet s) zero_map 0 ss (ready_events zero_map zero_size s t.is_sheet_lem a) t.each

  pub taken_told : (take_all (starting empty_ledger zero_map) (s ∷ ss)).refused ≡ 0 → Told s ss
  taken_told e =
      let a : answer_of empty_ledger zero_map s ≡ 0 = first_accepted take_record refused_in answer_in refused_counted (starting empty_ledger zero_map) s ss e in
      let (k, f, n, r) = first_sheet zero_map zero_size s a in
      record {
        is_sheet_lem = k;
        framed = f;
        size = n;
        range = r;
        each =
            (each_accepted (starting (only_sheet s) zero_map) ss (ready_events zero_map zero_size s k a)).0
            (ap (λ (st : BookState). (take_all st ss).refused) (sym (sheet_taken zero_map zero_size s k a)) ∙ e);
      }

  -- then all records are framed, and all events are of kind 2 or 3
  pub told_framed : Told s ss → All Framed (s ∷ ss)
  told_framed t = (not-false _ t.framed, each_framed ss t.each.right)
    where
      each_framed : (es : List (List ℕ)) → All (Right (sheet_in s)) es → All Framed es
      each_framed [] a = tt
      each_framed (e ∷ es) a = (not-false _ a.0.framed, each_framed es a.1)

  pub told_events : Told s ss → All (λ e. (kind_of e ≡ 2) ⊎ (kind_of e ≡ 3)) ss
  told_events t = go ss t.each.right
    where
      go : (es : List (List ℕ)) → All (Right (sheet_in s)) es → All (λ e. (kind_of e ≡ 2) ⊎ (kind_of e ≡ 3)) es
      go [] a = tt
      go (e ∷ es) a = (right_kind (sheet_in s) e refl a.0, go es a.1)

  -- what is cut from such a book is the sheet and the events again
  pub told_records : Told s ss → records_of (joined (s ∷ ss)) ≡ s ∷ ss
  told_records t = cut_joined (s ∷ ss) (told_framed t)

  -- and it is an accepted book, with this ledger and this map at its end
  pub told_end :
      Told s ss →
      after_book empty_ledger zero_map (joined (s ∷ ss)) ≡
      record { ledger = with_all (sheet_in s) (only_sheet s) ss; map = all_marked zero_map ss; refused = 0 }
  told_end t = ap (take_all (starting empty_ledger zero_map)) (told_records t) ∙ told_taken t

  pub told_accepted : Told s ss → Accepted (joined (s ∷ ss))
  told_accepted t =
      record {
        whole = ap (λ (q : Place). eqb (which_of q) 2) (joined_ends (s ∷ ss) (told_framed t));
        all = ap (λ (st : BookState). st.refused) (told_end t);
      }

-- a book that does not break off is its records, joined
not_broken : (book : List ℕ) (at : ℕ) → eqb (which_of (place_at book at)) 2 ≡ false → Stopped book at → place_at book at ≡ End
not_broken book at e (inl p) = p
not_broken book at e (inr p) = absurd (true≢false (ap (λ (q : Place). eqb (which_of q) 2) (sym p) ∙ e))

pub whole_joined : (book : List ℕ) → is_broken book ≡ false → joined (records_of book) ≡ book
whole_joined book e = records_whole book (not_broken book (stop_from book 0) e (records_stop book))

-- an accepted book whose records are these
pub accepted_told : (book s : List ℕ) (ss : List (List ℕ)) → Accepted book → records_of book ≡ s ∷ ss → Told s ss
accepted_told book s ss accepted e = taken_told s ss (ap (λ rs. (take_all (starting empty_ledger zero_map) rs).refused) (sym e) ∙ accepted.all)

pub data Shape (book : List ℕ) : Type 0 where
  no_bytes : book ≡ [] → Shape book
  sheet_then : (s : List ℕ) (ss : List (List ℕ)) → records_of book ≡ s ∷ ss → book ≡ joined (s ∷ ss) → Told s ss → Shape book

-- an accepted book has no bytes, or it is a sheet and then events, as Told says of them
pub accepted_shape : (book : List ℕ) → Accepted book → Shape book
accepted_shape book accepted = go (records_of book) refl
  where
    go : (rs : List (List ℕ)) → records_of book ≡ rs → Shape book
    go [] e = no_bytes (sym (whole_joined book accepted.whole) ∙ ap joined e)
    go (s ∷ ss) e = sheet_then s ss e (sym (whole_joined book accepted.whole) ∙ ap joined e) (accepted_told book s ss accepted e)

-- "the book of no bytes is one too, without a sheet"
pub no_bytes_accepted : Accepted []
unfolding cut_in records_of stop_in stop_from place_at
no_bytes_accepted = record { whole = refl; all = refl }

-- the events of an accepted book, as the annex's sums take them
pub told_counted : (book s : List ℕ) (ss : List (List ℕ)) → records_of book ≡ s ∷ ss → Told s ss → events_of book ≡ ss
told_counted book s ss e t = ap (keep no_sheet_lem) e ∙ ap (λ b. cond (not b) (s ∷ keep no_sheet_lem ss) (keep no_sheet_lem ss)) first ∙ go ss t.each.right
  where
    no_sheet_lem : List ℕ → Bool
    no_sheet_lem e = not (eqb (kind_of e) 1)

    first : eqb (kind_of s) 1 ≡ true
    first = ap (λ k. eqb k 1) t.is_sheet_lem

    go : (es : List (List ℕ)) → All (Right (sheet_in s)) es → keep no_sheet_lem es ≡ es
    go [] a = refl
    go (e ∷ es) a =
        ap (λ b. cond (not b) (e ∷ keep no_sheet_lem es) (keep no_sheet_lem es)) (right_not_sheet (sheet_in s) e refl a.0) ∙
        ap (λ rest. e ∷ rest) (go es a.1)
