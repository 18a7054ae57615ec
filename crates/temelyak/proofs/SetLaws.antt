-- A call that names no set (TEMELYAK_SET_UNNAMED) answers and writes what the same call for 'std' (TEMELYAK_SET_STD) does. Assumes nothing.
use Prim.Native.Nat.{ℕ}
use Rattle.std.specs.Prelude.{Result}
use mathlib.Core.Path.{◌≡◌, ap}
use mathlib.Core.List.{List}
use mathlib.Core.Bool.{cond}
use lib.ListN.{get_or, drop}
use Rattle.refusals.specs.declared.Refusal.{Refusal}
use Rattle.ratio.specs.declared.Fraction.{Fraction}
use Rattle.decimal.specs.declared.Decimal.{Decimal}
use Rattle.decimal.specs.Decimal.{decimally}
use Rattle.index.specs.Index.{exactly}
use Rattle.index.proofs.IndexLaws.{unnamed_means_std, shown_unnamed}
use Rattle.c_words.specs.Words.{words_fit, ledger_in}
use Rattle.c_words.specs.Header.{answered_into, if_accepted}
use Rattle.c_codes.specs.Named.{index_named, level_named, all_named}
use Rattle.temelyak.specs.Calls.{is_pair, index_asked, index_answer, index_out, decimal_asked, decimal_answer, decimal_out}

-- the two codes of the header
abbrev unnamed : ℕ
unnamed = 0

abbrev std : ℕ
std = 2

module _ (header : ℕ) (ws : List ℕ) (index level : ℕ) (out : List ℕ) where
  -- what numbers come to at a call whose codes are named
  abbrev answer : List ℕ → ℕ
  answer ns = cond (all_named index level std) (answered_into header (is_pair out) (words_fit ws) (get_or ns 0 0)) 255

  abbrev output : List ℕ → List ℕ
  output ns = if_accepted (answer ns) (drop 1 ns) out

  same_index : index_asked ws index level unnamed ≡ index_asked ws index level std
  same_index = unnamed_means_std (ledger_in ws) (index_named index) (level_named level)

  pub index_without_set :
      (index_answer header ws index level unnamed out ≡ index_answer header ws index level std out) ×
      (index_out header ws index level unnamed out ≡ index_out header ws index level std out)
  unfolding index_answer index_out
  index_without_set = (ap (λ (a : Result Fraction Refusal). answer (exactly a)) same_index, ap (λ (a : Result Fraction Refusal). output (exactly a)) same_index)

  same_decimal : (digits : ℕ) → decimal_asked ws index level unnamed digits ≡ decimal_asked ws index level std digits
  same_decimal digits = shown_unnamed (ledger_in ws) (index_named index) (level_named level) digits

  pub decimal_without_set : (digits : ℕ) →
      (decimal_answer header ws index level unnamed digits out ≡ decimal_answer header ws index level std digits out) ×
      (decimal_out header ws index level unnamed digits out ≡ decimal_out header ws index level std digits out)
  unfolding decimal_answer decimal_out
  decimal_without_set digits =
      (ap (λ (s : Result Decimal Refusal). answer (decimally s)) (same_decimal digits), ap (λ (s : Result Decimal Refusal). output (decimally s)) (same_decimal digits))
