-- No refusal changes the desk, the map or any other lent memory: of each call of include/temelyak.h, with any header, words, map, desk, bytes and output,
-- where the answer is not 0 all that was lent is as it was.
use Rattle.std.specs.Prelude.{ℕ, ◌≡◌, List}
use Rattle.slot.specs.declared.Slot.{Slot}
use Rattle.temelyak.specs.Calls.{empty_answer, empty_words, take_answer, take_words, take_map, book_answer, book_words, book_map, book_out}
use Rattle.temelyak.specs.Calls.{serve_answer, serve_words, serve_map, serve_desk, index_answer, index_out, decimal_answer, decimal_out}

pub record LentSame : Type 0 where
  pub empty : (header : ℕ) (ws : List ℕ) → (empty_answer header ws ≡ 0 → ⊥) → empty_words header ws ≡ ws
  pub take : (header : ℕ) (ws m s : List ℕ) → (take_answer header ws m s ≡ 0 → ⊥) → (take_words header ws m s ≡ ws) × (take_map header ws m s ≡ m)
  pub take_book :
      (header : ℕ) (ws m b out : List ℕ) →
      (book_answer header ws m b out ≡ 0 → ⊥) →
      (book_words header ws m b out ≡ ws) × (book_map header ws m b out ≡ m) × (book_out header ws m b out ≡ out)
  pub serve :
      (header : ℕ) (ws m : List ℕ) (d : List Slot) (s : List ℕ) →
      (serve_answer header ws m d s ≡ 0 → ⊥) →
      (serve_words header ws m d s ≡ ws) × (serve_map header ws m d s ≡ m) × (serve_desk header ws m d s ≡ d)
  pub index :
      (header : ℕ) (ws : List ℕ) (index level set : ℕ) (out : List ℕ) →
      (index_answer header ws index level set out ≡ 0 → ⊥) →
      index_out header ws index level set out ≡ out
  pub decimal :
      (header : ℕ) (ws : List ℕ) (index level set digits : ℕ) (out : List ℕ) →
      (decimal_answer header ws index level set digits out ≡ 0 → ⊥) →
      decimal_out header ws index level set digits out ≡ out
