-- What a turn of a reading loop does, over any state and any step. Assumes nothing.
use Prim.Native.Nat.{ℕ, ◌+◌, ◌≤◌}
use mathlib.Core.Path.{◌≡◌, sym, ap, ◌∙◌, subst⁻¹}
use mathlib.Core.Bool.{false}
use mathlib.Core.List.{List, [], ◌∷◌, ◌++◌, append_assoc, append-nil}
use native.Mathlib.Omega.{arith}
use lib.Dec.{eqb}
use lib.ListN.{length, take, drop, length-append, length-take, length-drop}
use borrow.Author.Tests.{eqb-true, eqb-false}
use Rattle.base.proofs.TestLaws.{Tested, holds, fails, test}
use Rattle.wire.specs.Cut.{joined}
use Rattle.records.specs.Pieces.{beginning, fed_all, Held, held_on, buffer_on}
use Rattle.records.specs.Calls.{Call, Taker}
use Rattle.records.proofs.CallLaws.{GoesOn}
use Rattle.records.proofs.HeldLaws.{Holding, begins_holding, filled_up, held_on_lem, fed_last}
use Rattle.refill.specs.Refill.{Filled, Refilled}
use Rattle.refill.specs.Arrive.{room, Arrived}

joined_last : (qs : List (List ℕ)) (q : List ℕ) → joined (qs ++ (q ∷ [])) ≡ joined qs ++ q
joined_last [] q = append-nil q
joined_last (x ∷ qs) q = ap (λ (l : List ℕ). x ++ l) (joined_last qs q) ∙ sym (append_assoc x (joined qs) q)

module _ {S : Type 0} (step : S → List ℕ → S) where
  -- before the first turn nothing has come
  pub arrives_none : (st : S) (b : List ℕ) → Arrived step st (record { state = st; held = 0; dead = false }) b 0
  arrives_none st b = record { pieces = []; holds = begins_holding step st b; few = omega arith }

  -- what has come within some turns has come within more
  pub arrives_within : (st : S) (h : Held S) (b : List ℕ) (turns most : ℕ) → turns ≤ most → Arrived step st h b turns → Arrived step st h b most
  arrives_within st h b turns most l a = record { pieces = a.pieces; holds = a.holds; few = omega (arith, a.few) }

  module _ (st : S) (h : Held S) (b b₁ : List ℕ) (turns : ℕ) (r : Filled) (on : Refilled b h.held r b₁) (a : Arrived step st h b turns) where
    lent : Holding step h b₁ (fed_all step (beginning st) a.pieces)
    lent = filled_up step h b b₁ (fed_all step (beginning st) a.pieces) a.holds on.front (omega (arith, a.holds.room, on.long))

    -- a turn in which nothing is taken
    pub arrives_nothing : Arrived step st h b₁ (turns + 1)
    arrives_nothing = record { pieces = a.pieces; holds = lent; few = omega (arith, a.few) }

    -- a turn in which a piece is taken
    module _ (came : r.ended ≡ false) (small : length b ≤ room) where
      abbrev piece : List ℕ
      piece = drop h.held (take r.count b₁)

      short : length piece ≤ room
      short = omega (arith, length-drop h.held (take r.count b₁), length-take r.count b₁, on.long, small)

      pub arrives_piece : Arrived step st (held_on step h b₁ r.count) (buffer_on h b₁ r.count) (turns + 1)
      arrives_piece =
          let p = fed_all step (beginning st) a.pieces in
          record {
            pieces = a.pieces ++ (piece ∷ []);
            holds =
                subst⁻¹ (Holding step (held_on step h b₁ r.count) (buffer_on h b₁ r.count)) (fed_last step (beginning st) a.pieces piece)
                (held_on_lem step h b₁ r.count p lent (omega (arith, on.behind came)) (on.within came));
            few = omega (arith, a.few, ap length (joined_last a.pieces piece), length-append (joined a.pieces) piece, short);
          }

-- a turn that hands a piece to a taker: where it is taken one piece more has come, and where it is refused none
module _
    {S F : Type 0}
    (step : S → List ℕ → S)
    (t : Taker F)
    (reading : F → Held S)
    (goes_on : GoesOn step t reading)
    (stays : (f : F) (c : Call) → (t.answer f c ≡ 0 → ⊥) → (t.next f c ≡ f) × (t.left f c ≡ c.buffer))
    (f : F)
    (b b₁ : List ℕ)
    (r : Filled)
    (on : Refilled b (reading f).held r b₁)
    (came : r.ended ≡ false)
    (small : length b ≤ room)
    (st : S)
    (turns : ℕ)
    (a : Arrived step st (reading f) b turns)
  where
    abbrev call : Call
    call = record { buffer = b₁; filled = r.count }

    go : Tested (eqb (t.answer f call) 0) → Arrived step st (reading (t.next f call)) (t.left f call) (turns + 1)
    go (holds e) =
        let zero = eqb-true (t.answer f call) 0 e in
        coe 1 0 (i. Arrived step st (goes_on.next f call zero i) (goes_on.left f call zero i) (turns + 1))
        (arrives_piece step st (reading f) b b₁ turns r on a came small)
    go (fails e) =
        let same = stays f call (eqb-false (t.answer f call) 0 e) in
        coe 1 0 (i. Arrived step st (reading (same.0 i)) (same.1 i) (turns + 1)) (arrives_nothing step st (reading f) b b₁ turns r on a)

    -- either way the reading after the call holds what has come by one turn more
    pub turn_taken : Arrived step st (reading (t.next f call)) (t.left f call) (turns + 1)
    turn_taken = go (test (eqb (t.answer f call) 0))
