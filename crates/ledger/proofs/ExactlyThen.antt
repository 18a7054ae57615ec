-- The theorem *exactly then* (01, "Refusal numbers"): a record is answered by a number exactly when what the number stands for applies and nothing that a
-- smaller number stands for does, and accepted exactly when nothing applies (`Foremost` computes to these facts, one by one); and no other number is
-- answered. Assumes nothing.
use Prim.Native.Nat.{ℕ, ◌<◌}
use mathlib.Core.Path.{◌≡◌}
use mathlib.Core.Logic.{◌↔◌}
use mathlib.Core.List.{List, [], ◌∷◌}
use mathlib.Core.Bool.{true, false}
use Rattle.base.specs.First.{rule_of, NoRule, Foremost, Rising}
use Rattle.base.specs.Lists.{listed}
use Rattle.base.proofs.FirstLaws.{exactly_then, clear, clear_at, answered_rule, passed_rule, first_listed}
use Rattle.ledger.specs.declared.Ledger.{Ledger}
use Rattle.ledger.specs.Take.{take_rules, answer_of}

module _ (l : Ledger) (m s : List ℕ) where
  rules_rise : Rising 0 (take_rules l m s)
  rules_rise = (tt, (tt, (tt, (tt, (tt, (tt, (tt, (tt, (tt, (tt, (tt, (tt, (tt, tt)))))))))))))

  pub exactly : (n : ℕ) → (answer_of l m s ≡ n) ↔ Foremost n (take_rules l m s)
  unfolding answer_of
  exactly n = exactly_then n (take_rules l m s) rules_rise

  pub exactly_no_other : listed (answer_of l m s) (0 ∷ 1 ∷ 2 ∷ 3 ∷ 4 ∷ 5 ∷ 6 ∷ 7 ∷ 10 ∷ 11 ∷ 12 ∷ 13 ∷ 14 ∷ 15 ∷ []) ≡ true
  unfolding answer_of
  exactly_no_other = first_listed (take_rules l m s)

  -- by the rules' numbers: none applies to an accepted record
  pub accepted_rules : answer_of l m s ≡ 0 → NoRule (take_rules l m s)
  unfolding answer_of
  accepted_rules a = clear_at (take_rules l m s) (clear 0 (take_rules l m s) rules_rise a)

  -- and where a number is answered, what it stands for applies, and nothing that a smaller number stands for
  pub answered : (n : ℕ) → answer_of l m s ≡ n → (n ≡ 0 → ⊥) → rule_of n (take_rules l m s) ≡ true
  unfolding answer_of
  answered n e z = answered_rule n (take_rules l m s) e z 0 rules_rise

  pub passed_over : (n i : ℕ) → answer_of l m s ≡ n → i < n → rule_of i (take_rules l m s) ≡ false
  unfolding answer_of
  passed_over n i e l' = passed_rule n i l' (take_rules l m s) e 0 rules_rise
