-- On a refusal all that was lent is as it was, outputs included; and a caller built with another header is answered 254. Assumes nothing.
use Prim.Native.Nat.{ℕ}
use mathlib.Core.Path.{◌≡◌, ap, ◌∙◌}
use mathlib.Core.List.{List}
use mathlib.Core.Bool.{true, cond}
use lib.ListN.{get_or}
use borrow.Author.Tests.{ne_eqb}
use Rattle.decimal.specs.Decimal.{decimally}
use Rattle.index.specs.Index.{exactly}
use Rattle.slot.specs.declared.Slot.{Slot}
use Rattle.c_words.specs.Words.{words_fit}
use Rattle.c_words.specs.Header.{header_word, headed, answered_into}
use Rattle.c_words.proofs.LentLaws.{refused_is}
use Rattle.c_codes.specs.Named.{all_named}
use Rattle.temelyak.specs.Calls.{is_pair, index_asked, decimal_asked, empty_answer, empty_words, take_answer, take_words, take_map, book_answer, book_words, book_map, book_out, serve_answer, serve_words, serve_map, serve_desk, index_answer, index_out, decimal_answer, decimal_out}
use Rattle.temelyak.specs.Refused.{LentSame}

pub empty_refused_same : (header : ℕ) (ws : List ℕ) → (empty_answer header ws ≡ 0 → ⊥) → empty_words header ws ≡ ws
unfolding empty_words
empty_refused_same header ws z = refused_is (empty_answer header ws) _ ws z

pub take_refused_same : (header : ℕ) (ws m s : List ℕ) → (take_answer header ws m s ≡ 0 → ⊥) → (take_words header ws m s ≡ ws) × (take_map header ws m s ≡ m)
unfolding take_words take_map
take_refused_same header ws m s z = (refused_is (take_answer header ws m s) _ ws z, refused_is (take_answer header ws m s) _ m z)

pub book_refused_same : (header : ℕ) (ws m b out : List ℕ) → (book_answer header ws m b out ≡ 0 → ⊥) → (book_words header ws m b out ≡ ws) × (book_map header ws m b out ≡ m) × (book_out header ws m b out ≡ out)
unfolding book_words book_map book_out
book_refused_same header ws m b out z =
    let n = book_answer header ws m b out in
    (refused_is n _ ws z, refused_is n _ m z, refused_is n _ out z)

pub serve_refused_same : (header : ℕ) (ws m : List ℕ) (d : List Slot) (s : List ℕ) → (serve_answer header ws m d s ≡ 0 → ⊥) → (serve_words header ws m d s ≡ ws) × (serve_map header ws m d s ≡ m) × (serve_desk header ws m d s ≡ d)
unfolding serve_words serve_map serve_desk
serve_refused_same header ws m d s z =
    let n = serve_answer header ws m d s in
    (refused_is n _ ws z, refused_is n _ m z, refused_is n _ d z)

pub index_refused_same : (header : ℕ) (ws : List ℕ) (index level set : ℕ) (out : List ℕ) → (index_answer header ws index level set out ≡ 0 → ⊥) → index_out header ws index level set out ≡ out
unfolding index_out
index_refused_same header ws index level set out z = refused_is (index_answer header ws index level set out) _ out z

pub decimal_refused_same : (header : ℕ) (ws : List ℕ) (index level set digits : ℕ) (out : List ℕ) → (decimal_answer header ws index level set digits out ≡ 0 → ⊥) → decimal_out header ws index level set digits out ≡ out
unfolding decimal_out
decimal_refused_same header ws index level set digits out z = refused_is (decimal_answer header ws index level set digits out) _ out z

-- of every call
pub lent_same : LentSame
lent_same =
    record {
      empty = empty_refused_same;
      take = take_refused_same;
      take_book = book_refused_same;
      serve = serve_refused_same;
      index = index_refused_same;
      decimal = decimal_refused_same;
    }

-- ---- another header

other_header : (header n : ℕ) → (header ≡ header_word → ⊥) → headed header n ≡ 254
other_header header n z = ap (λ t. cond t n 254) (ne_eqb header header_word z)

module _ (header : ℕ) (z : header ≡ header_word → ⊥) where
  pub empty_other_header : (ws : List ℕ) → empty_answer header ws ≡ 254
  unfolding empty_answer
  empty_other_header ws = other_header header _ z

  pub take_other_header : (ws m s : List ℕ) → take_answer header ws m s ≡ 254
  unfolding take_answer
  take_other_header ws m s = other_header header _ z

  pub book_other_header : (ws m b out : List ℕ) → book_answer header ws m b out ≡ 254
  unfolding book_answer
  book_other_header ws m b out = other_header header _ z

  pub serve_other_header : (ws m : List ℕ) (d : List Slot) (s : List ℕ) → serve_answer header ws m d s ≡ 254
  unfolding serve_answer
  serve_other_header ws m d s = other_header header _ z

  -- where the codes name an index, a level and a set
  pub index_other_header : (ws : List ℕ) (index level set : ℕ) (out : List ℕ) → all_named index level set ≡ true → index_answer header ws index level set out ≡ 254
  unfolding index_answer
  index_other_header ws index level set out e =
      let n = get_or (exactly (index_asked ws index level set)) 0 0 in
      ap (λ t. cond t (answered_into header (is_pair out) (words_fit ws) n) 255) e ∙ other_header header _ z

  pub decimal_other_header : (ws : List ℕ) (index level set digits : ℕ) (out : List ℕ) → all_named index level set ≡ true → decimal_answer header ws index level set digits out ≡ 254
  unfolding decimal_answer
  decimal_other_header ws index level set digits out e =
      let n = get_or (decimally (decimal_asked ws index level set digits)) 0 0 in
      ap (λ t. cond t (answered_into header (is_pair out) (words_fit ws) n) 255) e ∙ other_header header _ z
