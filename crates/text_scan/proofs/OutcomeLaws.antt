-- What was expected is told by its number, which is not 0, and an outcome by what it says. Assumes nothing.
use Rattle.std.specs.Prelude.{ℕ, ◌≡◌, ◌<◌, ◌≤◌, Bool, false, cond, eqb, Option, Some, None, Result, Ok, Err}
use mathlib.Core.Path.{refl, ap, sym, ◌∙◌}
use native.Mathlib.Omega.{arith}
use borrow.Author.Tests.{ne_eqb}
use Rattle.text_scan.specs.Found.{Found}
use Rattle.text_scan.specs.declared.Found.{Found as Item}
use Rattle.text_scan.specs.declared.Wrong.{Wrong}
use Rattle.text_scan.specs.declared.Expected.{Expected}
use Rattle.text_scan.specs.declared.Expected.TheVariants.{Word, Number, AtMost255, AtMost65535, AtMost4294967295, Time, SheetBefore, DayOfYear, TwoDigits, Gap, NoMore, More, OtherSeparator, Separator, EmptyCell}
use Rattle.text_scan.specs.Outcomes.{expected_number, asked_number, wrong_in, found_in, gap_in}

expected_with : ℕ → Expected
expected_with n =
    cond (eqb n 1) Word (cond (eqb n 2) Number (cond (eqb n 3) AtMost255 (cond (eqb n 4) AtMost65535 (cond (eqb n 5) AtMost4294967295 (cond (eqb n 6) Time (cond (eqb n 7) SheetBefore (cond (eqb n 8) DayOfYear (cond (eqb n 9) TwoDigits (cond (eqb n 10) Gap (cond (eqb n 11) NoMore (cond (eqb n 12) More (cond (eqb n 13) OtherSeparator (cond (eqb n 14) Separator EmptyCell)))))))))))))

expected_back : (e : Expected) → expected_with (expected_number e) ≡ e
unfolding expected_with
expected_back Word = refl
expected_back Number = refl
expected_back AtMost255 = refl
expected_back AtMost65535 = refl
expected_back AtMost4294967295 = refl
expected_back Time = refl
expected_back SheetBefore = refl
expected_back DayOfYear = refl
expected_back TwoDigits = refl
expected_back Gap = refl
expected_back NoMore = refl
expected_back More = refl
expected_back OtherSeparator = refl
expected_back Separator = refl
expected_back EmptyCell = refl

pub same_expected : (e f : Expected) → expected_number e ≡ expected_number f → e ≡ f
same_expected e f same = sym (expected_back e) ∙ ap expected_with same ∙ expected_back f

pub expected_above_0 : (e : Expected) → 1 ≤ expected_number e
expected_above_0 Word = omega arith
expected_above_0 Number = omega arith
expected_above_0 AtMost255 = omega arith
expected_above_0 AtMost65535 = omega arith
expected_above_0 AtMost4294967295 = omega arith
expected_above_0 Time = omega arith
expected_above_0 SheetBefore = omega arith
expected_above_0 DayOfYear = omega arith
expected_above_0 TwoDigits = omega arith
expected_above_0 Gap = omega arith
expected_above_0 NoMore = omega arith
expected_above_0 More = omega arith
expected_above_0 OtherSeparator = omega arith
expected_above_0 Separator = omega arith
expected_above_0 EmptyCell = omega arith

above_0 : (n : ℕ) → 1 ≤ n → eqb n 0 ≡ false
above_0 n h = ne_eqb n 0 (λ e. omega arith)

-- what has no name is told from every name
asked_with : ℕ → Option Expected
asked_with n = cond (eqb n 0) None (Some (expected_with n))

asked_back : (x : Option Expected) → asked_with (asked_number x) ≡ x
unfolding asked_with
asked_back None = refl
asked_back (Some e) = ap (λ (t : Bool). cond t None (Some (expected_with (expected_number e)))) (above_0 (expected_number e) (expected_above_0 e)) ∙ ap Some (expected_back e)

pub same_asked : (x y : Option Expected) → asked_number x ≡ asked_number y → x ≡ y
same_asked x y same = sym (asked_back x) ∙ ap asked_with same ∙ asked_back y

pub expected_below_16 : (e : Expected) → expected_number e < 16
expected_below_16 Word = omega arith
expected_below_16 Number = omega arith
expected_below_16 AtMost255 = omega arith
expected_below_16 AtMost65535 = omega arith
expected_below_16 AtMost4294967295 = omega arith
expected_below_16 Time = omega arith
expected_below_16 SheetBefore = omega arith
expected_below_16 DayOfYear = omega arith
expected_below_16 TwoDigits = omega arith
expected_below_16 Gap = omega arith
expected_below_16 NoMore = omega arith
expected_below_16 More = omega arith
expected_below_16 OtherSeparator = omega arith
expected_below_16 Separator = omega arith
expected_below_16 EmptyCell = omega arith

-- what is wrong, by what is said of it
wrong_with : Found → Wrong
wrong_with r = record { expected = expected_with r.answer; at = r.used }

wrong_back : (w : Wrong) → wrong_with (wrong_in w) ≡ w
unfolding wrong_with
wrong_back w = λ i. record { expected = expected_back w.expected i; at = w.at }

pub same_wrong : (v w : Wrong) → wrong_in v ≡ wrong_in w → v ≡ w
same_wrong v w same = sym (wrong_back v) ∙ ap wrong_with same ∙ wrong_back w

-- an outcome, by what is said of it
found_with : Found → Result Item Wrong
found_with r = cond (eqb r.answer 0) (Ok (record { value = r.value; used = r.used })) (Err (wrong_with r))

-- and what is wrong is not answered by 0, nor by the line's end
pub wrong_answer : (w : Wrong) → eqb (wrong_in w).answer 0 ≡ false
wrong_answer w = above_0 (expected_number w.expected) (expected_above_0 w.expected)

pub wrong_no_end : (w : Wrong) → eqb (wrong_in w).answer 255 ≡ false
wrong_no_end w = ne_eqb (expected_number w.expected) 255 (λ e. omega (arith, expected_below_16 w.expected, e))

wrong_past : {X : Type 0} (w : Wrong) (x y : X) → cond (eqb (wrong_in w).answer 0) x y ≡ y
wrong_past w x y = ap (λ (t : Bool). cond t x y) (above_0 (expected_number w.expected) (expected_above_0 w.expected))

found_back : (x : Result Item Wrong) → found_with (found_in x) ≡ x
unfolding found_with
found_back (Ok f) = refl
found_back (Err w) = wrong_past w (Ok (record { value = 0; used = w.at })) (Err (wrong_with (wrong_in w))) ∙ ap (λ (v : Wrong). Err v) (wrong_back w)

pub same_found : (x y : Result Item Wrong) → found_in x ≡ found_in y → x ≡ y
same_found x y same = sym (found_back x) ∙ ap found_with same ∙ found_back y

gap_with : Found → Result (Unit {0}) Wrong
gap_with r = cond (eqb r.answer 0) (Ok tt) (Err (wrong_with r))

gap_back : (x : Result (Unit {0}) Wrong) → gap_with (gap_in x) ≡ x
unfolding gap_with
gap_back (Ok u) = refl
gap_back (Err w) = wrong_past w (Ok tt) (Err (wrong_with (wrong_in w))) ∙ ap (λ (v : Wrong). Err v) (wrong_back w)

pub same_gap : (x y : Result (Unit {0}) Wrong) → gap_in x ≡ gap_in y → x ≡ y
same_gap x y same = sym (gap_back x) ∙ ap gap_with same ∙ gap_back y
