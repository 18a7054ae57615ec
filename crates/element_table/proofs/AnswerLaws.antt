-- The answer to a record, once the table is sound and the record framed, by its kind; that no rule applies to an accepted record; and what beginning
-- a table and a file comes to. Callers cite these laws and not the definitions. Assumes nothing.
use Prim.Native.Nat.{ℕ}
use mathlib.Core.Path.{◌≡◌, refl, ap, ◌∙◌}
use mathlib.Core.Logic.{◌≢◌, ◌⊎◌}
use mathlib.Core.List.{List}
use mathlib.Core.Bool.{true, false, cond, not}
use Rattle.base.specs.First.{first, Clear, Rising}
use Rattle.base.proofs.FirstLaws.{clear, clear_at, unclear}
use Rattle.wire.specs.Frame.{framed, kind_of}
use Rattle.element_table.specs.declared.Table.{Table}
use Rattle.element_table.specs.Table.{begun, period_within, begin_of, sound_table, seen_as, file_begun}
use Rattle.element_rules.specs.Answers.{sheet_answer, outage_answer, stock_answer}
use Rattle.element_table.specs.Rules.{row_named, rules_at, rules, answer_of}
use Rattle.element_table.specs.declared.Kind.{Kind}
use Rattle.element_table.specs.declared.Kind.TheVariants.{Sheet, Outage, Stock}
use Rattle.element_table.specs.Kind.{number_of_kind, answer_at}
use Rattle.element_table.proofs.ConditionLaws.{says_3, kind_taken}

module _ (t : Table) (s : List ℕ) where
  -- the numbers of the rules rise
  pub rules_rise : Rising 0 (rules t s)
  rules_rise = (tt, (tt, (tt, (tt, (tt, (tt, (tt, (tt, (tt, tt)))))))))

  -- a record is accepted exactly where no rule applies
  pub accepted_clear : answer_of t s ≡ 0 → Clear (rules t s)
  unfolding answer_of
  accepted_clear a = clear 0 (rules t s) rules_rise a

  pub clear_accepted : Clear (rules t s) → answer_of t s ≡ 0
  unfolding answer_of
  clear_accepted c = unclear (rules t s) c

  -- an accepted record is a year sheet, an element outage or a stock
  pub accepted_kind : answer_of t s ≡ 0 → (kind_of s ≡ 1) ⊎ ((kind_of s ≡ 4) ⊎ (kind_of s ≡ 5))
  accepted_kind a = kind_taken (kind_of s) (clear_at (rules t s) (accepted_clear a) 3)

  -- what is left of the rules, by kind
  module _ (sound : sound_table t ≡ true) (whole : framed s ≡ true) where
    by_kind : (kind : ℕ) → kind_of s ≡ kind → answer_of t s ≡ first (rules_at kind s t)
    unfolding answer_of
    by_kind kind k =
        ap (λ b. cond (not b) 1 (cond (not (framed s)) 2 (first (rules_at (kind_of s) s t)))) sound ∙
        ap (λ b. cond (not b) 2 (first (rules_at (kind_of s) s t))) whole ∙
        ap (λ k. first (rules_at k s t)) k

    -- the answer is the first of the rules left for its kind
    pub sheet_answered : kind_of s ≡ 1 → answer_of t s ≡ sheet_answer t.seen s
    sheet_answered = by_kind 1

    pub outage_answered : kind_of s ≡ 4 → answer_of t s ≡ outage_answer t.seen (row_named t s) s
    outage_answered = by_kind 4

    pub stock_answered : kind_of s ≡ 5 → answer_of t s ≡ stock_answer t.seen (row_named t s) s
    stock_answered = by_kind 5

    pub kind_answered : (kind : Kind) → kind_of s ≡ number_of_kind kind → answer_of t s ≡ answer_at kind t s
    kind_answered Sheet = sheet_answered
    kind_answered Outage = outage_answered
    kind_answered Stock = stock_answered

    -- and a kind that is not taken is answered 3
    pub none_answered : (kind_of s ≢ 1) × (kind_of s ≢ 4) × (kind_of s ≢ 5) → answer_of t s ≡ 3
    none_answered n = by_kind (kind_of s) refl ∙ rw ((says_3 (kind_of s)).1 n)

-- a table is begun for its period, or refused without one
module _ (period : ℕ) where
  pub begins : period_within period ≡ true → begin_of period ≡ record { answer = 0; table = begun period }
  unfolding begin_of
  begins e = rw e

  pub begins_none : period_within period ≡ false → begin_of period ≡ record { answer = 24; table = begun 0 }
  unfolding begin_of
  begins_none e = rw e

-- a file is begun with the mark cleared, or refused with the table as it was
module _ (t : Table) where
  pub file_begins : sound_table t ≡ true → file_begun t ≡ record { answer = 0; table = seen_as false t }
  unfolding file_begun
  file_begins e = rw e

  pub file_refused : sound_table t ≡ false → file_begun t ≡ record { answer = 1; table = t }
  unfolding file_begun
  file_refused e = rw e
