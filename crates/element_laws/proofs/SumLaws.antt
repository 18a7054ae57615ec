-- Sums over records that are put one after the other or in another order, and the mark of a stock that is told at most once: it is set exactly where
-- a stock stands among the records, for each stock told is at least 1. Assumes nothing.
use Prim.Native.Nat.{ℕ, ◌+◌, ◌≤◌}
use mathlib.Core.Path.{◌≡◌, sym, ap, ◌∙◌}
use mathlib.Core.List.{List, [], ◌∷◌}
use mathlib.Core.Bool.{Bool, true, false, cond}
use lib.Dec.{ltb}
use native.Mathlib.Nat.{add-zero}
use native.Mathlib.Omega.{arith}
use borrow.Author.Tests.{lt-ltb}
use Rattle.element_row.specs.declared.Row.{Row}
use Rattle.element_rules.specs.Fields.{unit_in}
use Rattle.element_laws.specs.Tally.{is_stock, stocks_of, stock_of, total}

-- two rows with the same four numbers
pub same_row : (a b : Row) → a.outages ≡ b.outages → a.minutes ≡ b.minutes → a.stock ≡ b.stock → a.amount ≡ b.amount → a ≡ b
same_row a b o m s n = λ i. record { outages = o i; minutes = m i; stock = s i; amount = n i }

-- whether a row's stock is told, as a number
abbrev pub when : Bool → ℕ
when b = cond b 1 0

pub when_few : (b : Bool) → when b ≤ 1
when_few true = omega arith
when_few false = omega arith

abbrev pub told : Row → ℕ
told r = when (ltb 0 r.stock)

-- the mark after one more, and after all
pub mark_grows : (held : ℕ) (b : Bool) (unit : ℕ) → when (ltb 0 held) + when b ≤ 1 → when (ltb 0 (held + cond b (unit + 1) 0)) ≡ when (ltb 0 held) + when b
mark_grows held true unit l =
    let now : when (ltb 0 (held + (unit + 1))) ≡ 1 = ap when (lt-ltb 0 (held + (unit + 1)) (omega arith)) in
    omega (arith, now, l)
mark_grows held false unit l = ap (λ n. when (ltb 0 n)) (add-zero held) ∙ sym (add-zero _)

pub marks_grow : (row held : ℕ) (ss : List (List ℕ)) → when (ltb 0 held) + total (stocks_of row) ss ≤ 1 → when (ltb 0 (held + total (stock_of row) ss)) ≡ when (ltb 0 held) + total (stocks_of row) ss
marks_grow row held [] l = ap (λ n. when (ltb 0 n)) (add-zero held) ∙ sym (add-zero _)
marks_grow row held (s ∷ ss) l =
    let first : when (ltb 0 (held + stock_of row s)) ≡ when (ltb 0 held) + stocks_of row s = mark_grows held (is_stock row s) (unit_in s) (omega (arith, l)) in
    let rest : when (ltb 0 (held + stock_of row s + total (stock_of row) ss)) ≡ when (ltb 0 (held + stock_of row s)) + total (stocks_of row) ss =
    marks_grow row (held + stock_of row s) ss (omega (arith, l, first)) in
    let same : held + (stock_of row s + total (stock_of row) ss) ≡ held + stock_of row s + total (stock_of row) ss = omega arith in
    ap (λ n. when (ltb 0 n)) same ∙ omega (arith, rest, first)
