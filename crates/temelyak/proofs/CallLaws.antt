-- What the code of each call comes to is what its definition says: the ledger handed on stands for the words, and an output of another length is
-- refused with 251. Assumes nothing.
use Prim.Native.Nat.{ℕ, min}
use Rattle.std.specs.Prelude.{Result, Ok, Err}
use mathlib.Core.Path.{◌≡◌, refl, sym, ap, ◌∙◌}
use mathlib.Core.List.{List, [], ◌∷◌}
use mathlib.Core.Bool.{Bool, true, false, cond}
use lib.ListN.{length, get_or, drop}
use lib.Dec.{ltb, eqb}
use native.Mathlib.Nat.{min-eq_left, min-eq_right}
use native.Mathlib.Omega.{arith}
use borrow.Author.Tests.{eqb-true, eqb-false, ltb-true, ltb-false, lt-ltb}
use Rattle.base.proofs.TestLaws.{Tested, holds, fails, test}
use Rattle.refusals.specs.declared.Refusal.{Refusal}
use Rattle.refusals.specs.declared.Refusal.TheVariants as refusal
use Rattle.refusals.specs.Refusals.{answer_in}
use Rattle.ratio.specs.declared.Fraction.{Fraction}
use Rattle.decimal.specs.declared.Decimal.{Decimal}
use Rattle.decimal.specs.Decimal.{decimal_of, shown_of, decimally}
use Rattle.codes.specs.declared.Set.{Set}
use Rattle.ledger.specs.declared.Ledger.{Ledger}
use Rattle.ledger.specs.Ledger.{empty_ledger}
use Rattle.ledger.specs.Take.{Taken, answer_of, map_after, taken_of}
use Rattle.book.specs.Book.{Read}
use Rattle.book.specs.Book.{read_of, map_read}
use Rattle.index.specs.declared.Index.{Index}
use Rattle.index.specs.declared.Level.{Level}
use Rattle.index.specs.Index.{index_of, exactly, shown_answer, shown_index}
use Rattle.slot.specs.declared.Slot.{Slot}
use Rattle.desk_rules.specs.Serve.{message_answer, map_served, desk_served, served_of}
use Rattle.c_words.specs.Words.{ledger_words, words_fit, ledger_in, flag_of, words_of}
use Rattle.c_words.specs.Header.{header_word, headed, answered, other_size, answered_into, if_accepted}
use Rattle.c_words.specs.Inside.{no_ledger, lent_ledger, written, settled, words_in}
use Rattle.c_words.proofs.LentLaws.{lent_answer, lent_output, lent_words, lent_kept}
use Rattle.c_codes.specs.Named.{index_named, level_named, set_named, all_named, numbers_in}
use Rattle.temelyak.specs.Calls.{is_pair, empty_answer, empty_words, take_answer, take_words, take_map, book_answer, book_words, book_map, book_out, serve_answer, serve_words, serve_map, serve_desk, index_answer, index_out, decimal_answer, decimal_out}
use Rattle.temelyak.proofs.NoneLaws.{none_taken, none_read, none_served, none_indexed, map_kept, book_map_kept, served_map_kept, served_desk_kept}
use Rattle.temelyak.specs.Inside.{handed_back}

-- ---- outputs

-- the answer 251 leaves what was lent
pub size_refused : {X : Type 0} (header : ℕ) (next same : X) → if_accepted (headed header other_size) next same ≡ same
size_refused {X} header next same = go (eqb header header_word)
  where
    go : (h : Bool) → if_accepted (cond h other_size 254) next same ≡ same
    go true = refl
    go false = refl

-- an output of its size, and one of another
pub paired : (header : ℕ) (p w : Bool) (n : ℕ) → p ≡ true → answered_into header p w n ≡ answered header w n
paired header p w n e = ap (λ t. answered_into header t w n) e

pub unpaired : (header : ℕ) (p w : Bool) (n : ℕ) → p ≡ false → answered_into header p w n ≡ headed header other_size
unpaired header p w n e = ap (λ t. answered_into header t w n) e

-- accepted here is accepted behind
pub behind_accepts : (header : ℕ) (w : Bool) (n : ℕ) → answered header w n ≡ 0 → (header ≡ header_word) × (w ≡ true) × (n ≡ 0)
behind_accepts header w n e = go (eqb header header_word) refl w e
  where
    go : (h : Bool) → eqb header header_word ≡ h → (t : Bool) → cond h (cond t n 1) 254 ≡ 0 → (header ≡ header_word) × (t ≡ true) × (n ≡ 0)
    go true h true e = (eqb-true header header_word h, refl, e)
    go true h false e = absurd (eqb-false 1 0 refl e)
    go false h t e = absurd (eqb-false 254 0 refl e)

pub into_accepts : (header : ℕ) (p w : Bool) (n : ℕ) → answered_into header p w n ≡ 0 → (p ≡ true) × (header ≡ header_word) × (w ≡ true) × (n ≡ 0)
into_accepts header p w n e = go (test p)
  where
    go : Tested p → (p ≡ true) × (header ≡ header_word) × (w ≡ true) × (n ≡ 0)
    go (holds t) = let b = behind_accepts header w n (sym (paired header p w n t) ∙ e) in (t, b.0, b.1, b.2)
    go (fails t) = absurd (eqb-false 251 0 refl (behind_accepts header true other_size (sym (unpaired header p w n t) ∙ e)).2)

-- ---- temelyak_empty

module _ (header : ℕ) (ws : List ℕ) where
  -- words of another length than a ledger's are refused, with 251 under the right header, and stay as they were
  pub empty_unsized : eqb (length ws) ledger_words ≡ false → (headed header other_size ≡ empty_answer header ws) × (ws ≡ empty_words header ws)
  unfolding empty_answer empty_words
  empty_unsized e =
      let a : empty_answer header ws ≡ headed header other_size = rw e in
      (sym a, sym (ap (λ n. if_accepted n (words_of empty_ledger) ws) a ∙ size_refused header (words_of empty_ledger) ws))

  -- words of a ledger's length: answer and words are those of the definitions
  pub empty_answer_is : eqb (length ws) ledger_words ≡ true → headed header 0 ≡ empty_answer header ws
  unfolding empty_answer
  empty_answer_is e = sym (rw e)

  pub empty_words_is : eqb (length ws) ledger_words ≡ true → settled header ws (record { answer = 0; ledger = empty_ledger }) ≡ empty_words header ws
  unfolding settled written empty_words
  empty_words_is e =
      ap (λ t. if_accepted (headed header 0) (cond t (words_of empty_ledger) ws) ws) e ∙ ap (λ n. if_accepted n (words_of empty_ledger) ws) (empty_answer_is e)

-- ---- temelyak_take

module _ (header : ℕ) (ws m s : List ℕ) where
  -- answer, words and map, as they come of the ledger handed on, are those of the definitions
  pub take_answer_is : headed header (answer_of (lent_ledger header ws) m s) ≡ take_answer header ws m s
  unfolding take_answer
  take_answer_is = lent_answer header ws (λ l. answer_of l m s) (none_taken m s)

  pub take_words_is : settled header ws (taken_of (lent_ledger header ws) m s) ≡ take_words header ws m s
  unfolding take_words take_answer
  take_words_is = lent_words header ws (λ l. taken_of l m s) (none_taken m s)

  pub take_map_is : map_after (lent_ledger header ws) m s ≡ take_map header ws m s
  unfolding take_map take_answer
  take_map_is = lent_kept header ws (λ l. answer_of l m s) (λ l. map_after l m s) m (none_taken m s) (map_kept m s)

-- ---- temelyak_serve

module _ (header : ℕ) (ws m : List ℕ) (d : List Slot) (s : List ℕ) where
  -- so are answer, words, map and desk
  pub serve_answer_is : headed header (message_answer (lent_ledger header ws) m d s) ≡ serve_answer header ws m d s
  unfolding serve_answer
  serve_answer_is = lent_answer header ws (λ l. message_answer l m d s) (none_served m d s)

  pub serve_words_is : settled header ws (handed_back (served_of (lent_ledger header ws) m d s)) ≡ serve_words header ws m d s
  unfolding serve_words serve_answer
  serve_words_is = lent_words header ws (λ l. handed_back (served_of l m d s)) (none_served m d s)

  pub serve_map_is : map_served (lent_ledger header ws) m d s ≡ serve_map header ws m d s
  unfolding serve_map serve_answer
  serve_map_is = lent_kept header ws (λ l. message_answer l m d s) (λ l. map_served l m d s) m (none_served m d s) (served_map_kept m d s)

  pub serve_desk_is : desk_served (lent_ledger header ws) m d s ≡ serve_desk header ws m d s
  unfolding serve_desk serve_answer
  serve_desk_is = lent_kept header ws (λ l. message_answer l m d s) (λ l. desk_served l m d s) d (none_served m d s) (served_desk_kept m d s)

-- ---- temelyak_take_book

-- the ledger and the two numbers of a book that was read
abbrev pub read_taken : Read → Taken
read_taken r = record { answer = r.answer; ledger = r.ledger }

abbrev pub read_pair : Read → List ℕ
read_pair r = r.refused ∷ flag_of r.broken ∷ []

module _ (header : ℕ) (ws m b out : List ℕ) (p : is_pair out ≡ true) where
  one_test : book_answer header ws m b out ≡ answered header (words_fit ws) (read_of (ledger_in ws) m b).answer
  unfolding book_answer
  one_test = rw p

  -- so are answer, words, map and output, where the output has two words
  pub book_answer_is : headed header (read_of (lent_ledger header ws) m b).answer ≡ book_answer header ws m b out
  book_answer_is = lent_answer header ws (λ l. (read_of l m b).answer) (none_read m b) ∙ sym one_test

  pub book_words_is : settled header ws (read_taken (read_of (lent_ledger header ws) m b)) ≡ book_words header ws m b out
  unfolding book_words
  book_words_is = lent_words header ws (λ l. read_taken (read_of l m b)) (none_read m b) ∙ ap (λ n. if_accepted n (words_of (read_of (ledger_in ws) m b).ledger) ws) (sym one_test)

  pub book_map_is : map_read (lent_ledger header ws) m b ≡ book_map header ws m b out
  unfolding book_map
  book_map_is = lent_kept header ws (λ l. (read_of l m b).answer) (λ l. map_read l m b) m (none_read m b) (book_map_kept m b) ∙ ap (λ n. if_accepted n (map_read (ledger_in ws) m b) m) (sym one_test)

  pub book_out_is : if_accepted (headed header (read_of (lent_ledger header ws) m b).answer) (read_pair (read_of (lent_ledger header ws) m b)) out ≡ book_out header ws m b out
  unfolding book_out
  book_out_is = lent_output header ws (λ l. (read_of l m b).answer) (λ l. read_pair (read_of l m b)) out (none_read m b) ∙ ap (λ n. if_accepted n (read_pair (read_of (ledger_in ws) m b)) out) (sym one_test)

-- an output of another length
module _ (header : ℕ) (ws m b out : List ℕ) (p : is_pair out ≡ false) where
  -- it is refused, with 251 under the right header, and words, map and output stay as they were
  pub book_unpaired : headed header other_size ≡ book_answer header ws m b out
  unfolding book_answer
  book_unpaired = sym (rw p)

  pub book_left : (ws ≡ book_words header ws m b out) × (m ≡ book_map header ws m b out) × (out ≡ book_out header ws m b out)
  unfolding book_words book_map book_out
  book_left = (left _ ws, left _ m, left _ out)
    where
      left : {X : Type 0} (next same : X) → same ≡ if_accepted (book_answer header ws m b out) next same
      left next same = sym (ap (λ n. if_accepted n next same) (sym book_unpaired) ∙ size_refused header next same)

-- ---- temelyak_index and temelyak_decimal

-- of an answer's numbers the first is answered, and the others are the words for the output
pub answer_first : (x : Result (List ℕ) Refusal) → answer_in x ≡ get_or (numbers_in x) 0 0
answer_first (Ok ns) = refl
answer_first (Err r) = refl

pub words_after : (x : Result (List ℕ) Refusal) → words_in x ≡ drop 1 (numbers_in x)
words_after (Ok ns) = refl
words_after (Err r) = refl

-- what is answered of them
abbrev answered_by : ℕ → List ℕ → List ℕ → List ℕ → ℕ
answered_by header ws out ns = answered_into header (is_pair out) (words_fit ws) (get_or ns 0 0)

-- a call whose numbers are a function of the ledger it gets: the answer first, then the words, which are written where the answer is 0
module _ (nums : Ledger → List ℕ) (none : get_or (nums no_ledger) 0 0 ≡ 1) (header : ℕ) (ws out : List ℕ) where
  asked_paired : is_pair out ≡ true → answered_by header ws out (nums (ledger_in ws)) ≡ answered header (words_fit ws) (get_or (nums (ledger_in ws)) 0 0)
  asked_paired p = paired header (is_pair out) (words_fit ws) (get_or (nums (ledger_in ws)) 0 0) p

  numbers_answer : is_pair out ≡ true → headed header (get_or (nums (lent_ledger header ws)) 0 0) ≡ answered_by header ws out (nums (ledger_in ws))
  numbers_answer p = lent_answer header ws (λ l. get_or (nums l) 0 0) none ∙ sym (asked_paired p)

  numbers_out : is_pair out ≡ true → if_accepted (headed header (get_or (nums (lent_ledger header ws)) 0 0)) (drop 1 (nums (lent_ledger header ws))) out ≡ if_accepted (answered_by header ws out (nums (ledger_in ws))) (drop 1 (nums (ledger_in ws))) out
  numbers_out p =
      lent_output header ws (λ l. get_or (nums l) 0 0) (λ l. drop 1 (nums l)) out none ∙
      ap (λ n. if_accepted n (drop 1 (nums (ledger_in ws))) out) (sym (asked_paired p))

  numbers_unpaired : is_pair out ≡ false → (headed header other_size ≡ answered_by header ws out (nums (ledger_in ws))) × (out ≡ if_accepted (answered_by header ws out (nums (ledger_in ws))) (drop 1 (nums (ledger_in ws))) out)
  numbers_unpaired p =
      let e = unpaired header (is_pair out) (words_fit ws) (get_or (nums (ledger_in ws)) 0 0) p in
      (sym e, sym (ap (λ n. if_accepted n (drop 1 (nums (ledger_in ws))) out) e ∙ size_refused header (drop 1 (nums (ledger_in ws))) out))

module _ (index : Index) (level : Level) (set : Set) where
  none_exact : get_or (exactly (index_of no_ledger index level set)) 0 0 ≡ 1
  none_exact = ap (λ a. get_or (exactly a) 0 0) (none_indexed index level set)

  none_shown : (digits : ℕ) → get_or (decimally (shown_index no_ledger index level set digits)) 0 0 ≡ 1
  none_shown digits = ap (λ a. get_or (decimally (shown_answer a digits)) 0 0) (none_indexed index level set)

-- 7 digits stand for any number of digits that is refused
digits_cut : (f : Fraction) (digits : ℕ) → shown_of f (min digits 7) ≡ shown_of f digits
unfolding shown_of
digits_cut f digits = go (test (ltb digits 7))
  where
    told : Bool → Bool → Result Decimal Refusal
    told none many = cond none (Err refusal.Nobody) (cond many (Err refusal.Digits) (Ok (decimal_of f digits)))

    go : Tested (ltb digits 7) → shown_of f (min digits 7) ≡ shown_of f digits
    go (holds e) = ap (shown_of f) (min-eq_left {n = digits} {m = 7} (omega (arith, ltb-true digits 7 e)))
    go (fails e) =
        ap (shown_of f) (min-eq_right {n = 7} {m = digits} (ltb-false digits 7 e)) ∙
        sym (ap (λ t. told (eqb f.bottom 0) t) (lt-ltb 6 digits (omega (arith, ltb-false digits 7 e))))

-- a number of digits above 7 may be cut to 7: what is shown is the same
pub shown_cut : (l : Ledger) (index : Index) (level : Level) (set : Set) (digits : ℕ) → shown_index l index level set (min digits 7) ≡ shown_index l index level set digits
shown_cut l index level set digits = go (index_of l index level set)
  where
    go : (a : Result Fraction Refusal) → shown_answer a (min digits 7) ≡ shown_answer a digits
    go (Ok f) = digits_cut f digits
    go (Err r) = refl

-- 255 for a code that names none comes before all else; then an output of another length
module _ (header : ℕ) (ws : List ℕ) (index level set : ℕ) (out : List ℕ) where
  abbrev index_numbers : Ledger → List ℕ
  index_numbers l = exactly (index_of l (index_named index) (level_named level) (set_named set))

  pub index_unnamed : all_named index level set ≡ false → (255 ≡ index_answer header ws index level set out) × (out ≡ index_out header ws index level set out)
  unfolding index_answer index_out
  index_unnamed e = (sym (rw e), sym (rw e))

  module _ (e : all_named index level set ≡ true) where
    index_named_lem : answered_by header ws out (index_numbers (ledger_in ws)) ≡ index_answer header ws index level set out
    unfolding index_answer
    index_named_lem = sym (ap (λ t. cond t (answered_by header ws out (index_numbers (ledger_in ws))) 255) e)

    -- with an output of two words, answer and output are as the ledger handed on has them
    pub index_paired : is_pair out ≡ true →
        (headed header (get_or (index_numbers (lent_ledger header ws)) 0 0) ≡ index_answer header ws index level set out) ×
        (if_accepted (headed header (get_or (index_numbers (lent_ledger header ws)) 0 0)) (drop 1 (index_numbers (lent_ledger header ws))) out ≡ index_out header ws index level set out)
    unfolding index_out
    index_paired p = (
      numbers_answer index_numbers (none_exact (index_named index) (level_named level) (set_named set)) header ws out p ∙ index_named_lem,
      numbers_out index_numbers (none_exact (index_named index) (level_named level) (set_named set)) header ws out p ∙ ap (λ n. if_accepted n (drop 1 (index_numbers (ledger_in ws))) out) index_named_lem,
    )

    pub index_unpaired : is_pair out ≡ false → (headed header other_size ≡ index_answer header ws index level set out) × (out ≡ index_out header ws index level set out)
    unfolding index_out
    index_unpaired p =
        let u = numbers_unpaired index_numbers (none_exact (index_named index) (level_named level) (set_named set)) header ws out p in
        (u.0 ∙ index_named_lem, u.1 ∙ ap (λ n. if_accepted n (drop 1 (index_numbers (ledger_in ws))) out) index_named_lem)

module _ (header : ℕ) (ws : List ℕ) (index level set digits : ℕ) (out : List ℕ) where
  abbrev decimal_numbers : Ledger → List ℕ
  decimal_numbers l = decimally (shown_index l (index_named index) (level_named level) (set_named set) digits)

  -- the same of a decimal
  pub decimal_unnamed : all_named index level set ≡ false → (255 ≡ decimal_answer header ws index level set digits out) × (out ≡ decimal_out header ws index level set digits out)
  unfolding decimal_answer decimal_out
  decimal_unnamed e = (sym (rw e), sym (rw e))

  module _ (e : all_named index level set ≡ true) where
    decimal_named : answered_by header ws out (decimal_numbers (ledger_in ws)) ≡ decimal_answer header ws index level set digits out
    unfolding decimal_answer
    decimal_named = sym (ap (λ t. cond t (answered_by header ws out (decimal_numbers (ledger_in ws))) 255) e)

    pub decimal_paired : is_pair out ≡ true →
        (headed header (get_or (decimal_numbers (lent_ledger header ws)) 0 0) ≡ decimal_answer header ws index level set digits out) ×
        (if_accepted (headed header (get_or (decimal_numbers (lent_ledger header ws)) 0 0)) (drop 1 (decimal_numbers (lent_ledger header ws))) out ≡ decimal_out header ws index level set digits out)
    unfolding decimal_out
    decimal_paired p = (
      numbers_answer decimal_numbers (none_shown (index_named index) (level_named level) (set_named set) digits) header ws out p ∙ decimal_named,
      numbers_out decimal_numbers (none_shown (index_named index) (level_named level) (set_named set) digits) header ws out p ∙ ap (λ n. if_accepted n (drop 1 (decimal_numbers (ledger_in ws))) out) decimal_named,
    )

    pub decimal_unpaired : is_pair out ≡ false → (headed header other_size ≡ decimal_answer header ws index level set digits out) × (out ≡ decimal_out header ws index level set digits out)
    unfolding decimal_out
    decimal_unpaired p =
        let u = numbers_unpaired decimal_numbers (none_shown (index_named index) (level_named level) (set_named set) digits) header ws out p in
        (u.0 ∙ decimal_named, u.1 ∙ ap (λ n. if_accepted n (drop 1 (decimal_numbers (ledger_in ws))) out) decimal_named)
