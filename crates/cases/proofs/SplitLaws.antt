-- A line that was split wherever no digit stands: the runs among its parts are the line's. Assumes nothing.
use denote.Ref.{Bor}
use denote.Param.Members.{Mut}
use Rattle.std.proofs.Common.{◌≡◌, ℕ, Bool, false, not, List, Option, None, refl, ap}
use Rattle.std.specs.Char.{is_ascii_digit}
use Rattle.std.specs.Fn.{CalledAt}
use Rattle.std.specs.Iterator.{Yields}
use Rattle.std.specs.Slice.Iter.{split_rest, split_done, split_callee, split_steps}
use Rattle.std.proofs.lemmas.Iterator.Consumers.{YieldsList-end}
use Rattle.std.proofs.lemmas.Iterator.Splits.{YieldsList-from_slice_split}
use Rattle.cases.specs.Runs.{runs_in, runs_of}
use Rattle.cases.proofs.RunLaws.{texts}

-- s is the iterator that split the line, t the one that is asked for a last part, u the one after that
pub runs-split : {F : Type 0} {g : Mut F (Bor ℕ × Unit {0}) Bool} (s t u : _) (line : List ℕ) (parts : List (Bor (List ℕ))) (last : Option (Bor (List ℕ)))
    → Yields (split_steps g) s parts t → split_steps g t last u → last ≡ None → split_rest s ≡ line → split_done s ≡ false
    → ((x : ℕ) (b : Bool) (q : F) → CalledAt g (split_callee s) x b q → (q ≡ split_callee s) × (b ≡ not (is_ascii_digit x)))
    → runs_in (texts parts) ≡ runs_of line
runs-split {g = g} s t u line parts last given asked ended rest begun tests =
    let road = YieldsList-from_slice_split {s = s} g (λ b. not (is_ascii_digit b)) line rest begun refl tests in
    ap runs_in (YieldsList-end road parts t given last u ended asked).0
