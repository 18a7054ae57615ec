-- Bytes pushed piece by piece are the pieces joined; the buffer keeps its length, and what fits stands at its front. Assumes nothing.
use Prim.Native.Nat.{ℕ, suc, ◌+◌, ◌<◌, ◌≤◌}
use mathlib.Core.Path.{◌≡◌, refl, sym, ap, ◌∙◌}
use mathlib.Core.List.{List, [], ◌∷◌, ◌++◌, append-nil}
use lib.ListN.{length, length-append, length-set, set, drop}
use lib.Seq.{set-append_seam, append_snoc}
use lib.Dec.{leb}
use native.Mathlib.Omega.{arith}
use borrow.Author.Tests.{leb-true, leb-false, lt-leb, le-leb}
use Rattle.base.proofs.TestLaws.{Tested, holds, fails, test}
use Rattle.pen.specs.declared.Pen.{Pen}
use Rattle.pen.specs.Pen.{Spot, spot, pushed, pushed_all, inked}

-- a full buffer is as it was, and any other has the byte at the place
pub full_stays : (s : Spot) (b : ℕ) → length s.bytes ≤ s.at → pushed s b ≡ s
unfolding pushed
full_stays s b h = rw (le-leb (length s.bytes) s.at h) refl

pub room_takes : (s : Spot) (b : ℕ) → s.at < length s.bytes → pushed s b ≡ spot (set s.bytes s.at b) (s.at + 1)
unfolding pushed
room_takes s b h = rw (lt-leb (length s.bytes) s.at h) refl

-- two pieces one after the other are their joined bytes
pub pushed_all_append : (s : Spot) (a b : List ℕ) → pushed_all s (a ++ b) ≡ pushed_all (pushed_all s a) b
pushed_all_append s [] b = refl
pushed_all_append s (x ∷ a) b = pushed_all_append (pushed s x) a b

-- and so with a pen
pub inked_append : (p : Pen) (a b : List ℕ) → inked (inked p a) b ≡ inked p (a ++ b)
inked_append p a b =
    let joined : pushed_all (pushed_all (spot p.out.now p.at) a) b ≡ pushed_all (spot p.out.now p.at) (a ++ b) = sym (pushed_all_append (spot p.out.now p.at) a b) in
    λ i. record { out = record { ref_ptr = p.out.ref_ptr; ghost_name = p.out.ghost_name; now = (joined i).bytes }; at = (joined i).at }

-- the buffer is as long as it was
pub one_size : (s : Spot) (b : ℕ) → length (pushed s b).bytes ≡ length s.bytes
one_size s b = go (test (leb (length s.bytes) s.at))
  where
    go : Tested (leb (length s.bytes) s.at) → length (pushed s b).bytes ≡ length s.bytes
    go (holds e) = ap (λ (t : Spot). length t.bytes) (full_stays s b (leb-true (length s.bytes) s.at e))
    go (fails e) = ap (λ (t : Spot). length t.bytes) (room_takes s b (leb-false (length s.bytes) s.at e)) ∙ length-set s.bytes s.at b

pub pushed_size : (s : Spot) (l : List ℕ) → length (pushed_all s l).bytes ≡ length s.bytes
pushed_size s [] = refl
pushed_size s (b ∷ l) = pushed_size (pushed s b) l ∙ one_size s b

-- a byte takes the place of the first one behind the seam
push_fits : (a : List ℕ) (x : ℕ) (r : List ℕ) (b : ℕ) → pushed (spot (a ++ (x ∷ r)) (length a)) b ≡ spot ((a ++ (b ∷ [])) ++ r) (length (a ++ (b ∷ [])))
push_fits a x r b =
    let long : length (a ++ (x ∷ r)) ≡ length a + suc (length r) = length-append a (x ∷ r) in
    let there : set (a ++ (x ∷ r)) (length a) b ≡ (a ++ (b ∷ [])) ++ r = set-append_seam a x r b ∙ sym (append_snoc a b r) in
    let on : length a + 1 ≡ length (a ++ (b ∷ [])) = sym (length-append a (b ∷ [])) in
    room_takes (spot (a ++ (x ∷ r)) (length a)) b (omega arith) ∙ (λ i. spot (there i) (on i))

-- a piece that fits behind the seam
pub piece_fits : (a l r : List ℕ) → length l ≤ length r → pushed_all (spot (a ++ r) (length a)) l ≡ spot ((a ++ l) ++ drop (length l) r) (length a + length l)
piece_fits a [] r h = let e : length a ≡ length a + 0 = omega arith in λ i. spot (sym (append-nil a) i ++ r) (e i)
piece_fits a (b ∷ l) [] h = absurd (omega arith)
piece_fits a (b ∷ l) (x ∷ r) h =
    let long : length (a ++ (b ∷ [])) ≡ length a + 1 = length-append a (b ∷ []) in
    let on : length (a ++ (b ∷ [])) + length l ≡ length a + suc (length l) = omega arith in
    ap (λ (s : Spot). pushed_all s l) (push_fits a x r b) ∙ piece_fits (a ++ (b ∷ [])) l r (omega arith) ∙ (λ i. spot (append_snoc a b l i ++ drop (length l) r) (on i))

-- a text that fits stands at the front, and what was behind it stays
pub all_fits : (out l : List ℕ) → length l ≤ length out → pushed_all (spot out 0) l ≡ spot (l ++ drop (length l) out) (length l)
all_fits out l h = piece_fits [] l out h ∙ (let e : 0 + length l ≡ length l = omega arith in λ i. spot (l ++ drop (length l) out) (e i))
