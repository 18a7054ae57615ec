-- 01's table of kinds ("Bytes on the wire"): the stated lengths, and that every field is read where the table puts it, of any bytes. Assumes nothing.
use Prim.Native.Nat.{ℕ, zero, suc, ◌+◌, ◌*◌, ◌<◌}
use mathlib.Core.Path.{◌≡◌, refl, sym, ap, ◌∙◌}
use mathlib.Core.List.{List, [], ◌∷◌, ◌++◌, map}
use lib.ListN.{length, get_or, take}
use native.Mathlib.Nat.{add-zero, add_assoc}
use native.Mathlib.Omega.{arith}
use Rattle.base.specs.Lists.{sum}
use Rattle.wire.specs.Numbers.{le32}
use Rattle.fields.specs.Fields.{sheet_in, head_in, simple_in, steps_from, step_count, steps_in}
use Rattle.fields.specs.Table.{Width, One, bytes_of, sheet_fields, open_fields, simple_fields, steps_fields, stepped_fields, step_fields, close_fields, length_of, offset_of, number_at, numbers_from, numbers_by, head_numbers, steps_numbers}

steps_length : (k : ℕ) → sum (map bytes_of (steps_fields k)) ≡ 16 * k
steps_length zero = refl
steps_length (suc k) = omega (arith, steps_length k)

-- "18", "53", "14 + 16 x steps"; "13", "23", "7"
pub lengths :
    (length_of sheet_fields ≡ 18) ×
    (length_of simple_fields ≡ 53) ×
    ((steps : ℕ) → length_of (stepped_fields steps) ≡ 14 + 16 * steps) ×
    (length_of open_fields ≡ 13) ×
    (length_of step_fields ≡ 23) ×
    (length_of close_fields ≡ 7)
lengths = (refl, refl, (λ steps. omega (arith, steps_length steps)), refl, refl, refl)

-- each of the numbers stands at its field's offset
pub number_stands : (ws : List Width) (s : List ℕ) (i : ℕ) → i < length ws → get_or (numbers_by ws s) i 0 ≡ number_at (get_or ws i One) s (offset_of ws i)
number_stands ws s i l = go ws 4 i l
  where
    go :
        (ws : List Width) (at i : ℕ) →
        i < length ws →
        get_or (numbers_from ws s at) i 0 ≡ number_at (get_or ws i One) s (at + sum (map bytes_of (take i ws)))
    go [] at i l = absurd (omega arith)
    go (w ∷ ws) at zero l = ap (number_at w s) (sym (add-zero at))
    go (w ∷ ws) at (suc i) l =
        go ws (at + bytes_of w) i (omega arith) ∙
        ap (number_at (get_or ws i One) s) (add_assoc at (bytes_of w) (sum (map bytes_of (take i ws))))

-- the fields that are read are the table's
module _ (s : List ℕ) where
  pub sheet_stands : numbers_by sheet_fields s ≡ (sheet_in s).year ∷ (sheet_in s).totals
  sheet_stands = refl

  pub open_stands : numbers_by open_fields s ≡ head_numbers (head_in s)
  open_stands = refl

  pub simple_stands :
      numbers_by simple_fields s ≡
      head_numbers (head_in s) ++ ((simple_in s).t1 ∷ (simple_in s).t2 ∷ (simple_in s).t3 ∷ (simple_in s).t4 ∷ ((simple_in s).n1 ++ (simple_in s).n2))
  simple_stands = refl

  steps_stand : (k at : ℕ) → numbers_from (steps_fields k) s at ≡ steps_numbers (steps_from s k at)
  steps_stand zero at = refl
  steps_stand (suc k) at =
      let last : le32 s (at + 4 + 4 + 4) ≡ le32 s (at + 4 + 8) = ap (le32 s) (add_assoc (at + 4) 4 4) in
      let next : at + 4 + 4 + 4 + 4 ≡ at + 16 = omega arith in
      let rest : numbers_from (steps_fields k) s (at + 4 + 4 + 4 + 4) ≡ steps_numbers (steps_from s k (at + 16)) =
      ap (numbers_from (steps_fields k) s) next ∙ steps_stand k (at + 16) in
      λ i. le32 s at ∷ le32 s (at + 4) ∷ le32 s (at + 4 + 4) ∷ last i ∷ rest i

  pub stepped_stands : numbers_by (stepped_fields (step_count s)) s ≡ head_numbers (head_in s) ++ (step_count s ∷ steps_numbers (steps_in s))
  stepped_stands = ap (λ (ns : List ℕ). head_numbers (head_in s) ++ (step_count s ∷ ns)) (steps_stand (step_count s) 14)
