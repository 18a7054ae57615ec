-- The three ways of a line; what a rate is per; and a line fits its text whatever the table, where the name has at most 100 bytes. Assumes nothing.
use Prim.Native.Nat.{ℕ, ◌≤◌, ◌/◌}
use Rattle.std.specs.Prelude.{Result, Ok, Err}
use mathlib.Core.Path.{◌≡◌, refl, ap, ◌∙◌}
use mathlib.Core.Bool.{true, false, cond}
use mathlib.Core.List.{List, [], ◌∷◌, ◌++◌}
use lib.ListN.{length, length-append}
use lib.Dec.{eqb}
use native.Mathlib.Omega.{arith}
use Rattle.base.proofs.TestLaws.{Tested, holds, fails, test}
use Rattle.refusals.specs.declared.Refusal.{Refusal}
use Rattle.ratio.specs.declared.Fraction.{Fraction}
use Rattle.decimal.specs.declared.Decimal.{Decimal}
use Rattle.element_codes.specs.Elements.{element_listed}
use Rattle.element_table.specs.declared.Table.{Table}
use Rattle.element_table.specs.Table.{sound_table}
use Rattle.element_rates.specs.Rates.{row_at, weight_of, rate_of, mean_of, shown_rate, shown_mean}
use Rattle.text.specs.declared.Text.{Text}
use Rattle.text.specs.Text.{text_of, pushed, pushed_all, number_text, two_text}
use Rattle.text.proofs.TextLaws.{pushed_all_append, all_fits, number_length, both_short}
use Rattle.element_line.specs.Listing.{fraction_text, six_text, piece_word, hundred_word, per_text, line_text, line_of, heading_text}

module _ (t : Table) (code : ℕ) (name : List ℕ) where
  -- 1 for an unsound table, then 7 for an unknown code, without text; else 0 and the line's bytes pushed
  pub unsound_no_line : sound_table t ≡ false → line_of t code name ≡ record { answer = 1; text = text_of [] }
  unfolding line_of
  unsound_no_line e = rw e refl

  pub unknown_no_line : sound_table t ≡ true → element_listed code ≡ false → line_of t code name ≡ record { answer = 7; text = text_of [] }
  unfolding line_of
  unknown_no_line e f = rw (e, f) refl

  pub known_line :
      sound_table t ≡ true → element_listed code ≡ true → line_of t code name ≡ record { answer = 0; text = pushed_all (text_of []) (line_text t code name) }
  unfolding line_of
  known_line e f = rw (e, f) refl

-- parts, each pushed after the one before, are pushed as one
pub parts_pushed :
    (code name outages per rate mean : List ℕ) {r₁ r₂ r₃ r₄ r₅ r₆ r₇ r₈ r₉ r₁₀ : Text} →
    r₁ ≡ pushed_all (text_of []) code → r₂ ≡ pushed r₁ 9 → r₃ ≡ pushed_all r₂ name → r₄ ≡ pushed r₃ 9 → r₅ ≡ pushed_all r₄ outages →
    r₆ ≡ pushed r₅ 9 → r₇ ≡ pushed_all r₆ per → r₈ ≡ pushed_all r₇ rate → r₉ ≡ pushed_all r₈ mean → r₁₀ ≡ pushed r₉ 10 →
    r₁₀ ≡ pushed_all (text_of []) (code ++ (9 ∷ name) ++ (9 ∷ outages) ++ (9 ∷ per) ++ rate ++ mean ++ (10 ∷ []))
parts_pushed code name outages per rate mean p₁ p₂ p₃ p₄ p₅ p₆ p₇ p₈ p₉ p₁₀ = simp (pushed_all_append, p₁₀, p₉, p₈, p₇, p₆, p₅, p₄, p₃, p₂, p₁)

-- what a rate is said to be per is what its formula weighs by: 1000 x outages over tenths of a kilometre are outages for 100 km
pub per_as_weighed : (stock : ℕ) → eqb stock 0 ≡ false → per_text stock ≡ cond (eqb (weight_of stock) 1000) hundred_word piece_word
per_as_weighed stock told = go (test (eqb stock 2))
  where
    go : Tested (eqb stock 2) → per_text stock ≡ cond (eqb (weight_of stock) 1000) hundred_word piece_word
    go (holds e) = rw (told, e) refl
    go (fails e) = rw (told, e) refl

fraction_length : (f : Result Fraction Refusal) → length (fraction_text f) ≤ 41
fraction_length (Ok f) =
    let h : length (number_text f.bottom) ≤ 20 = number_length f.bottom in
    both_short (number_text f.top) (47 ∷ number_text f.bottom) {n = 21} (number_length f.top) (omega arith)
fraction_length (Err r) = omega arith

six_length : (s : Result Decimal Refusal) → length (six_text s) ≤ 27
six_length (Ok d) =
    both_short (number_text d.whole) (46 ∷ two_text (d.digits / 10000) ++ two_text (d.digits / 100) ++ two_text d.digits) {n = 7} (number_length d.whole) (omega arith)
six_length (Err r) = omega arith

per_length : (stock : ℕ) → length (per_text stock) ≤ 6
per_length stock = go (test (eqb stock 0)) (test (eqb stock 2))
  where
    go : Tested (eqb stock 0) → Tested (eqb stock 2) → length (per_text stock) ≤ 6
    go (holds e) f = rw e (omega arith)
    go (fails e) (holds f) = rw (e, f) (omega arith)
    go (fails e) (fails f) = rw (e, f) (omega arith)

-- so no byte of a line is dropped
module _ (t : Table) (code : ℕ) (name : List ℕ) (short : length name ≤ 100) where
  -- a line has at most 290 bytes, and of a sound table and a known code its text is all of them
  pub line_length : length (line_text t code name) ≤ 290
  line_length =
      let c : length (number_text code) ≤ 20 = number_length code in
      let o : length (number_text (row_at t code).outages) ≤ 20 = number_length (row_at t code).outages in
      let p : length (per_text (row_at t code).stock) ≤ 6 = per_length (row_at t code).stock in
      let r : length (fraction_text (rate_of t code)) ≤ 41 = fraction_length (rate_of t code) in
      let s : length (six_text (shown_rate t code 6)) ≤ 27 = six_length (shown_rate t code 6) in
      let m : length (fraction_text (mean_of t code)) ≤ 41 = fraction_length (mean_of t code) in
      let n : length (six_text (shown_mean t code 6)) ≤ 27 = six_length (shown_mean t code 6) in
      simp length-append (omega arith)

  pub line_fits : sound_table t ≡ true → element_listed code ≡ true → line_of t code name ≡ record { answer = 0; text = text_of (line_text t code name) }
  line_fits e f =
      let h = line_length in
      known_line t code name e f ∙ ap (λ (s : Text). record { answer = 0; text = s }) (all_fits (line_text t code name) (omega (arith, h)))

-- no byte of the heading is dropped either
pub heading_fits : pushed_all (text_of []) heading_text ≡ text_of heading_text
heading_fits = all_fits heading_text (omega arith)
