-- How a loop over the records of some bytes goes, over any state and any step: what has been taken so far and what is still to come are together the whole
-- run. Assumes nothing.
use Prim.Native.Nat.{ℕ, ◌+◌, ◌-◌, ◌<◌, ◌≤◌}
use mathlib.Core.Path.{◌≡◌, refl, sym, ap, ◌∙◌}
use mathlib.Core.Bool.{Bool, true, false, not, not-not, cond}
use mathlib.Core.Logic.{inl, inr}
use mathlib.Core.List.{List}
use lib.Dec.{eqb, ltb}
use mir.Val.{bool_byte}
use lib.ListN.{length, drop, length-drop}
use native.Mathlib.Omega.{arith}
use borrow.Author.Tests.{ltb-true, ltb-false, eq-eqb, ne_eqb, eqb-false}
use Rattle.base.proofs.TestLaws.{Tested, holds, fails, test}
use Rattle.wire.specs.declared.Place.{Place}
use Rattle.wire.specs.declared.Place.TheVariants.{Record, End, Broken}
use Rattle.wire.specs.Book.{place_at, which_of, start_of, end_of, which_at, record_at, after_at, part_of}
use Rattle.wire.specs.Cut.{records_of, records_from, stop_from, ends_by}
use Rattle.wire.proofs.CutLaws.{Stopped, records_is, records_stop, passed, halted}
use Rattle.wire.proofs.AppendLaws.{rest_ends}
use Rattle.records.specs.Records.{take_all, is_broken}

module _ {S : Type 0} (step : S → List ℕ → S) (refused : S → ℕ) (st₀ : S) (bytes : List ℕ) where
  -- at a turn of the loop, begun from state st₀: state st, and the offset where something stands next
  pub record Going (st : S) (at : ℕ) : Type 0 where
    pub run : take_all step st₀ (records_of bytes) ≡ take_all step st (records_from bytes at)
    pub stop : stop_from bytes at ≡ stop_from bytes 0
    pub few : refused st ≤ refused st₀ + at

  pub going_begins : Going st₀ 0
  going_begins = record { run = ap (take_all step st₀) (sym (records_is bytes)); stop = λ i. stop_from bytes 0; few = omega arith }

  module _ (st : S) (at : ℕ) (g : Going st at) where
    -- a record that stands there
    module _ {start end : ℕ} (is : place_at bytes at ≡ Record start end) where
      one : which_at bytes at ≡ 0
      one = ap which_of is

      after_here : after_at bytes at ≡ end
      after_here = ap (λ (p : Place). end_of p at) is

      bytes_here : part_of bytes start end ≡ record_at bytes at
      bytes_here = ap (λ (p : Place). part_of bytes (start_of p at) (end_of p at)) (sym is)

      -- a refusal more can be counted: there are fewer than there are bytes
      pub going_room : refused st < refused st₀ + length bytes
      going_room = let p = passed bytes at one in omega (arith, g.few, p.2, p.3)

      -- past a record fewer bytes are left to read
      pub going_nearer : length bytes - end < length bytes - at
      going_nearer = let p = passed bytes at one in omega (arith, p.2, p.3, after_here)

      -- the record that stands there is taken
      pub going_on_lem : (after : S) → after ≡ step st (part_of bytes start end) → refused after ≤ refused st + 1 → Going after end
      going_on_lem after taken few =
          let p = passed bytes at one in
          record {
            run =
                g.run ∙
                ap (take_all step st) p.0 ∙
                (λ i. take_all step (sym (taken ∙ ap (step st) bytes_here) i) (records_from bytes (after_here i)));
            stop = ap (stop_from bytes) (sym after_here) ∙ sym p.1 ∙ g.stop;
            few = omega (arith, few, g.few, p.2, after_here);
          }

    -- where no record stands the run is over
    pub going_ends : (which_at bytes at ≡ 0 → ⊥) → (st ≡ take_all step st₀ (records_of bytes)) × (at ≡ stop_from bytes 0)
    going_ends over = let h = halted bytes at over in (sym (g.run ∙ ap (take_all step st) h.0), sym h.1 ∙ g.stop)

-- reading stops before the end exactly at a broken length
module _ (bytes : List ℕ) where
  left_either :
      Tested (ltb (stop_from bytes 0) (length bytes)) →
      ltb (stop_from bytes 0) (length bytes) ≡ not (eqb (length (drop (stop_from bytes 0) bytes)) 0)
  left_either (holds e) =
      let more : stop_from bytes 0 < length bytes = ltb-true _ _ e in
      e ∙ ap not (sym (ne_eqb _ 0 (λ none. omega (arith, length-drop (stop_from bytes 0) bytes))))
  left_either (fails e) =
      let none : length bytes ≤ stop_from bytes 0 = ltb-false _ _ e in
      e ∙ ap not (sym (eq-eqb _ 0 (omega (arith, length-drop (stop_from bytes 0) bytes))))

  pub stops_short : ltb (stop_from bytes 0) (length bytes) ≡ is_broken bytes
  stops_short = left_either (test (ltb (stop_from bytes 0) (length bytes))) ∙ ap not (rest_ends bytes) ∙ not-not (is_broken bytes)

  ends_either : Stopped bytes (stop_from bytes 0) → cond (is_broken bytes) 2 1 ≡ ends_by bytes
  ends_either (inl e) = ap (λ (p : Place). cond (eqb (which_of p) 2) 2 1) e ∙ sym (ap which_of e)
  ends_either (inr e) = ap (λ (p : Place). cond (eqb (which_of p) 2) 2 1) e ∙ sym (ap which_of e)

  -- how it ends, as a number
  pub ends_told : cond (ltb (stop_from bytes 0) (length bytes)) 2 1 ≡ ends_by bytes
  ends_told = ap (λ (b : Bool). cond b 2 1) stops_short ∙ ends_either (records_stop bytes)

-- which tells a broken length from the end
pub which_tells : (b : Bool) → eqb (cond b 2 1) 2 ≡ b
which_tells true = refl
which_tells false = refl

-- and what a broken length counts
pub broken_counts : (b : Bool) → bool_byte b ≡ cond b 1 0
broken_counts true = refl
broken_counts false = refl

pub one_at_most_broken : (b : Bool) → bool_byte b ≤ 1
one_at_most_broken true = omega arith
one_at_most_broken false = omega arith

not_0 : (p : Place) → ((start end : ℕ) → p ≡ Record start end → ⊥) → which_of p ≡ 0 → ⊥
not_0 (Record start end) over z = over start end refl
not_0 End over z = eqb-false 1 0 refl z
not_0 Broken over z = eqb-false 2 0 refl z

-- no record stands where a loop over records ends
pub none_stands : (bytes : List ℕ) (at : ℕ) (p : Place) → p ≡ place_at bytes at → ((start end : ℕ) → p ≡ Record start end → ⊥) → which_at bytes at ≡ 0 → ⊥
none_stands bytes at p is over z = not_0 p over (ap which_of is ∙ z)
