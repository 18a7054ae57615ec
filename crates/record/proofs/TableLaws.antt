-- Refusal 4 of the book entry asks for the lengths of 01's table of kinds. Assumes nothing.
use Prim.Native.Nat.{ℕ}
use mathlib.Core.Path.{◌≡◌, sym, ap}
use mathlib.Core.List.{List}
use mathlib.Core.Bool.{◌||◌, not}
use lib.ListN.{length}
use lib.Dec.{ltb, eqb}
use Rattle.fields.specs.Fields.{step_count}
use Rattle.fields.specs.Table.{sheet_fields, simple_fields, stepped_fields, length_of}
use Rattle.fields.proofs.TableLaws.{lengths}
use Rattle.record.specs.Rules.{by_kind, length_wrong}

pub lengths_asked :
    (kind : ℕ) (s : List ℕ) →
    length_wrong kind s ≡
    by_kind kind
    (not (eqb (length s) (length_of sheet_fields)))
    (not (eqb (length s) (length_of simple_fields)))
    (ltb (length s) 14 || eqb (step_count s) 0 || ltb 64 (step_count s) || not (eqb (length s) (length_of (stepped_fields (step_count s)))))
lengths_asked kind s =
    ap
    (λ (n : ℕ).
    by_kind kind (not (eqb (length s) 18)) (not (eqb (length s) 53))
    (ltb (length s) 14 || eqb (step_count s) 0 || ltb 64 (step_count s) || not (eqb (length s) n)))
    (sym (lengths.2 (step_count s)))
