-- No second outcome meets what a public function of this crate promises. Assumes nothing.
use Prim.Native.Nat.{ℕ}
use Rattle.std.specs.Prelude.{Result, Ok, Err}
use mathlib.Core.Path.{◌≡◌, refl, sym, ap}
use mathlib.Core.List.{List}
use lib.ListN.{get_or, drop}
use Rattle.base.proofs.OneOutcome.{OneOutcome, alike}
use Rattle.refusals.specs.declared.Refusal.{Refusal}
use Rattle.refusals.proofs.NumberLaws.{same_refusal, no_refusal_0}
use Rattle.c_codes.specs.Named.{numbers_in}
use Rattle.c_codes.proofs.index_named.Kinds as index-named-kinds
use Rattle.c_codes.proofs.index_named.Reads as index_named_lem
use Rattle.c_codes.proofs.level_named.Kinds as level-named-kinds
use Rattle.c_codes.proofs.level_named.Reads as level-named
use Rattle.c_codes.proofs.set_named.Kinds as set-named-kinds
use Rattle.c_codes.proofs.set_named.Reads as set-named
use Rattle.c_codes.proofs.all_named.Kinds as all-named-kinds
use Rattle.c_codes.proofs.all_named.Reads as all_named
use Rattle.c_codes.proofs.fraction_pair.Kinds as fraction-pair-kinds
use Rattle.c_codes.proofs.fraction_pair.Reads as fraction-pair
use Rattle.c_codes.proofs.decimal_pair.Kinds as decimal-pair-kinds
use Rattle.c_codes.proofs.decimal_pair.Reads as decimal_pair
use Rattle.c_codes.proofs.fraction_numbers.Kinds as fraction-numbers-kinds
use Rattle.c_codes.proofs.fraction_numbers.Reads as fraction-numbers
use Rattle.c_codes.proofs.decimal_numbers.Kinds as decimal-numbers-kinds
use Rattle.c_codes.proofs.decimal_numbers.Reads as decimal-numbers
use Rattle.c_codes.proofs.digits_or_7.Kinds as digits-or-7-kinds
use Rattle.c_codes.proofs.digits_or_7.Reads as digits-or-7

pub index_named_one : OneOutcome index-named-kinds.ps index-named-kinds.r index_named_lem.Post
index_named_one κs a x y v w p q = (alike p q, refl)

pub level_named_one : OneOutcome level-named-kinds.ps level-named-kinds.r level-named.Post
level_named_one κs a x y v w p q = (alike p q, refl)

pub set_named_one : OneOutcome set-named-kinds.ps set-named-kinds.r set-named.Post
set_named_one κs a x y v w p q = (alike p q, refl)

pub all_named_one : OneOutcome all-named-kinds.ps all-named-kinds.r all_named.Post
all_named_one κs a x y v w p q = (alike p q, refl)

-- two answers of the same numbers are the same
numbers_decide : (a b : Result (List ℕ) Refusal) → numbers_in a ≡ numbers_in b → a ≡ b
numbers_decide (Ok m) (Ok n) p = ap Ok (ap (drop 1) p)
numbers_decide (Ok m) (Err r) p = absurd (no_refusal_0 r (sym (ap (λ (ns : List ℕ). get_or ns 0 0) p)))
numbers_decide (Err r) (Ok n) p = absurd (no_refusal_0 r (ap (λ (ns : List ℕ). get_or ns 0 0) p))
numbers_decide (Err r) (Err s) p = ap Err (same_refusal r s (ap (λ (ns : List ℕ). get_or ns 0 0) p))

pub fraction_pair_one : OneOutcome fraction-pair-kinds.ps fraction-pair-kinds.r fraction-pair.Post
fraction_pair_one κs a x y v w p q = (numbers_decide x y (alike p q), refl)

pub decimal_pair_one : OneOutcome decimal-pair-kinds.ps decimal-pair-kinds.r decimal_pair.Post
decimal_pair_one κs a x y v w p q = (numbers_decide x y (alike p q), refl)

pub fraction_numbers_one : OneOutcome fraction-numbers-kinds.ps fraction-numbers-kinds.r fraction-numbers.Post
fraction_numbers_one κs a x y v w p q = (alike p q, refl)

pub decimal_numbers_one : OneOutcome decimal-numbers-kinds.ps decimal-numbers-kinds.r decimal-numbers.Post
decimal_numbers_one κs a x y v w p q = (alike p q, refl)

pub digits_or_7_one : OneOutcome digits-or-7-kinds.ps digits-or-7-kinds.r digits-or-7.Post
digits_or_7_one κs a x y v w p q = (alike p q, refl)
