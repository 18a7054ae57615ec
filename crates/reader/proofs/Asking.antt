-- A reader is known by its book and its offset. Assumes nothing.
use mathlib.Core.Path.{◌≡◌, ap, ◌∙◌}
use Prim.Native.Nat.{ℕ}
use mathlib.Core.List.{List}
use denote.Ref.{Bor}
use Rattle.reader.specs.declared.Reader.{Reader}

-- a reader by its parts
abbrev pub reading : Bor (List ℕ) → ℕ → Reader
reading b m = record { book = b; at = m }

-- there is no other reader of the book at the offset
pub reader_is : (s : Bor (List ℕ)) (r : Reader) (m : ℕ) → (r.book ≡ s) × (r.at ≡ m) → r ≡ reading s m
reader_is s r m e = ap (λ (b : Bor (List ℕ)). reading b r.at) e.0 ∙ ap (reading s) e.1
