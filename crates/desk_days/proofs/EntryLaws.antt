-- A record that the book entry accepts is accepted under any map of the same size in which no further number is marked, and adds the same: of the
-- map only its size and the record's own number are looked at. Assumes nothing.
use Prim.Native.Nat.{ℕ}
use mathlib.Core.Path.{◌≡◌, refl, ap, ◌∙◌, sym}
use mathlib.Core.Logic.{◌≢◌}
use mathlib.Core.List.{List, [], ◌∷◌}
use mathlib.Core.Bool.{Bool, true, false, ◌||◌, not, cond, true≢false}
use lib.ListN.{length}
use lib.Dec.{eqb}
use Rattle.base.specs.First.{Rule, Clear}
use Rattle.base.proofs.FirstLaws.{clear, clear_at, unclear}
use Rattle.base.proofs.TestLaws.{Tested, holds, fails, test}
use Rattle.wire.specs.Frame.{kind_of}
use Rattle.used_numbers.specs.Marks.{marked, marked_with, map_size}
use Rattle.fields.specs.declared.Sheet.{Sheet}
use Rattle.fields.specs.Fields.{head_in}
use Rattle.verdict.specs.Verdict.{Verdict, event_verdict}
use Rattle.record.specs.Rules.{kind_not_taken, sheet_missing_or_second, already_marked}
use Rattle.record.specs.Verdict.{accepted_at}
use Rattle.ledger.specs.declared.Ledger.{Ledger}
use Rattle.ledger.specs.Ledger.{added}
use Rattle.ledger.specs.Sound.{sound_ledger}
use Rattle.ledger.specs.Take.{unsound, take_rules, answer_of, ledger_after, map_after}
use Rattle.ledger.proofs.TakeLaws.{accepted_verdict, accepted_adds}

-- rule by rule, where one does not apply the other does not
abbrev Follows : List Rule → List Rule → Type 0
Follows [] [] = Unit {0}
Follows [] (q ∷ qs) = ⊥
Follows (r ∷ rs) [] = ⊥
Follows (r ∷ rs) (q ∷ qs) = (r.1 ≡ false → q.1 ≡ false) × Follows rs qs

follows : (rs qs : List Rule) → Follows rs qs → Clear rs → Clear qs
follows [] [] f c = tt
follows [] (q ∷ qs) f c = absurd f
follows (r ∷ rs) [] f c = absurd f
follows (r ∷ rs) (q ∷ qs) f c = (f.0 c.0, follows rs qs f.1 c.1)

same : {t : Bool} → t ≡ false → t ≡ false
same e = e

-- the number that an accepted record marks: none for a sheet
abbrev pub number_marked : List ℕ → ℕ
number_marked s = cond (eqb (kind_of s) 1) 0 (head_in s).number

accepted_number : (kind : ℕ) (s : List ℕ) (sheet : Sheet) → (accepted_at kind s sheet).number ≡ cond (eqb kind 1) 0 (head_in s).number
unfolding event_verdict
accepted_number kind s sheet = go (eqb kind 1) refl (eqb kind 2) refl
  where
    go : (a : Bool) → eqb kind 1 ≡ a → (b : Bool) → eqb kind 2 ≡ b → (accepted_at kind s sheet).number ≡ cond (eqb kind 1) 0 (head_in s).number
    go true p b q = rw p
    go false p true q = rw (p, q)
    go false p false q = rw (p, q)

module _ (l : Ledger) (m s : List ℕ) (a : answer_of l m s ≡ 0) where
  -- to an accepted record no rule applies; it adds what a record of its kind adds, and marks its number
  pub entry_clear : Clear (take_rules l m s)
  unfolding answer_of
  entry_clear = clear 0 (take_rules l m s) (tt, (tt, (tt, (tt, (tt, (tt, (tt, (tt, (tt, (tt, (tt, (tt, (tt, tt))))))))))))) a

  pub entry_ledger : ledger_after l m s ≡ added l (accepted_at (kind_of s) s l.sheet)
  entry_ledger = (accepted_adds l m s a).0 ∙ ap (added l) (accepted_verdict l m s a)

  pub entry_map : map_after l m s ≡ marked_with m (number_marked s)
  entry_map =
      (accepted_adds l m s a).1 ∙
      ap (λ (v : Verdict). marked_with m v.number) (accepted_verdict l m s a) ∙
      ap (marked_with m) (accepted_number (kind_of s) s l.sheet)

  -- where the ledger has its sheet, the record is no sheet
  pub entry_no_sheet : l.sheet.there ≡ true → eqb (kind_of s) 1 ≡ false
  entry_no_sheet e = go (test (eqb (kind_of s) 1))
    where
      go : Tested (eqb (kind_of s) 1) → eqb (kind_of s) 1 ≡ false
      go (holds k) =
          let second : sheet_missing_or_second (kind_of s) l.sheet ≡ false = clear_at (take_rules l m s) entry_clear 5 in
          let first : sheet_missing_or_second (kind_of s) l.sheet ≡ l.sheet.there = rw k in
          absurd (true≢false (sym e ∙ sym first ∙ second))
      go (fails k) = k

  -- and the sheet stays
  pub entry_sheet : l.sheet.there ≡ true → (added l (accepted_at (kind_of s) s l.sheet)).sheet ≡ l.sheet
  unfolding added event_verdict
  entry_sheet e = go (eqb (kind_of s) 2) refl
    where
      go : (b : Bool) → eqb (kind_of s) 2 ≡ b → (accepted_at (kind_of s) s l.sheet).sheet ≡ l.sheet
      go true q = rw (entry_no_sheet e, q)
      go false q = rw (entry_no_sheet e, q)

  -- an event's number was not marked before
  unmarked_at : (kind : ℕ) → kind_not_taken kind ≡ false → already_marked kind s m ≡ false → eqb kind 1 ≡ false → marked m (head_in s).number ≡ false
  unmarked_at kind k e n = go (test (eqb kind 2)) (test (eqb kind 3))
    where
      go : Tested (eqb kind 2) → Tested (eqb kind 3) → marked m (head_in s).number ≡ false
      go (holds b) c = let is : already_marked kind s m ≡ marked m (head_in s).number = rw (n, b) in sym is ∙ e
      go (fails b) (holds c) = let is : already_marked kind s m ≡ marked m (head_in s).number = rw (n, b, c) in sym is ∙ e
      go (fails b) (fails c) = let none : kind_not_taken kind ≡ true = rw (n, b, c) in absurd (true≢false (sym none ∙ k))

  -- the number of an accepted record that is no sheet was not marked before
  pub entry_new : eqb (kind_of s) 1 ≡ false → marked m (head_in s).number ≡ false
  entry_new = unmarked_at (kind_of s) (clear_at (take_rules l m s) entry_clear 3) (clear_at (take_rules l m s) entry_clear 14)

  -- so it marks no number that was marked
  pub entry_other : (v : ℕ) → v ≢ 0 → marked m v ≡ true → number_marked s ≢ v
  entry_other v z e = go (test (eqb (kind_of s) 1))
    where
      go : Tested (eqb (kind_of s) 1) → number_marked s ≢ v
      go (holds k) q = let is : number_marked s ≡ 0 = rw k in z (sym q ∙ is)
      go (fails k) q = let is : number_marked s ≡ (head_in s).number = rw k in true≢false (sym e ∙ ap (marked m) (sym q ∙ is) ∙ entry_new k)

  -- under another map
  module _ (rest : List ℕ) (z : length rest ≡ length m) (fewer : (w : ℕ) → marked m w ≡ false → marked rest w ≡ false) where
    unsound_same : unsound l rest ≡ unsound l m
    unsound_same = ap (λ (n : ℕ). not (eqb n map_size) || not (sound_ledger l)) z

    marked_less : (kind : ℕ) → already_marked kind s m ≡ false → already_marked kind s rest ≡ false
    marked_less kind e = go (eqb kind 1) (eqb kind 2) (eqb kind 3) e
      where
        go :
            (p q r : Bool) →
            cond p false (cond q (marked m (head_in s).number) (cond r (marked m (head_in s).number) false)) ≡ false →
            cond p false (cond q (marked rest (head_in s).number) (cond r (marked rest (head_in s).number) false)) ≡ false
        go true q r e = refl
        go false true r e = fewer (head_in s).number e
        go false false true e = fewer (head_in s).number e
        go false false false e = refl

    -- where it has the same size and marks no further number, the record is accepted under it too
    pub entry_again : answer_of l rest s ≡ 0
    unfolding answer_of
    entry_again =
        let u : unsound l m ≡ false → unsound l rest ≡ false = λ e. unsound_same ∙ e in
        let f : Follows (take_rules l m s) (take_rules l rest s) =
        (u, (same, (same, (same, (same, (same, (same, (same, (same, (same, (same, (marked_less (kind_of s), (same, tt))))))))))))) in
        unclear (take_rules l rest s) (follows (take_rules l m s) (take_rules l rest s) f entry_clear)
