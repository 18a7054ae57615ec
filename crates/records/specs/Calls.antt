-- Calls one after the other, as a program that reads in pieces makes them: a reading is begun; before each call bytes are put into the buffer behind those
-- held, and the call says how many of the buffer's bytes are filled; then the reading is finished.
use Rattle.std.specs.Prelude.{ℕ, ◌≤◌, ◌≡◌, List, [], ◌∷◌, take, drop}

-- the buffer as it is lent, and how many of its bytes are filled
pub record Call : Type 0 where
  pub buffer : List ℕ
  pub filled : ℕ

-- what a call does to a reading F: how many bytes it holds, the answer, the reading after it and the buffer after it
pub record Taker (F : Type 0) : Type 0 where
  pub holds : F → ℕ
  pub answer : F → Call → ℕ
  pub next : F → Call → F
  pub left : F → Call → List ℕ

module _ {F : Type 0} (t : Taker F) where
  -- the bytes that were put in, behind those held
  abbrev pub piece_of : F → Call → List ℕ
  piece_of f c = drop (t.holds f) (take c.filled c.buffer)

  -- all the pieces that were put in, and the reading after the last call
  abbrev pub pieces_of : F → List Call → List (List ℕ)
  pieces_of f [] = []
  pieces_of f (c ∷ cs) = piece_of f c ∷ pieces_of (t.next f c) cs

  abbrev pub after_calls : F → List Call → F
  after_calls f [] = f
  after_calls f (c ∷ cs) = after_calls (t.next f c) cs

  -- each call is answered 0, with a buffer that has the bytes held at its front as the call before left them
  abbrev pub Answered : F → List ℕ → List Call → Type 0
  Answered f b [] = Unit {0}
  Answered f b (c ∷ cs) =
      (take (t.holds f) c.buffer ≡ take (t.holds f) b) ×
      (t.holds f ≤ c.filled) ×
      (t.answer f c ≡ 0) ×
      Answered (t.next f c) (t.left f c) cs
