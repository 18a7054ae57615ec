-- The cases of the readings of a line, one law each: a word in front, the next item, and the items that are left once some are read. Assumes nothing.
use Prim.Native.Nat.{ℕ, zero, suc, ◌+◌, ◌-◌, ◌<◌, ◌≤◌}
use mathlib.Core.Path.{◌≡◌, refl, sym, ap, ◌∙◌, subst⁻¹}
use mathlib.Core.Bool.{Bool, true, false, false≢true, ◌&&◌, not, cond}
use mathlib.Core.List.{List, [], ◌∷◌, ◌++◌}
use lib.Dec.{eqb, ltb, leb}
use lib.ListN.{length, take, drop, set, replicate, length-take, length-drop, length-replicate}
use lib.Seq.{drop-drop, sets, sets-eq}
use native.Mathlib.Omega.{arith}
use borrow.Author.Tests.{ne_eqb, eq-eqb, eqb-true, eqb-false, leb-false}
use Rattle.std.specs.Prelude.{Option, Some, None, unwrap_or, Result, Err}
use Rattle.std.specs.List.{starts_with}
use Rattle.base.proofs.TestLaws.{Tested, holds, fails, test}
use Rattle.wire.specs.Book.{part_of}
use Rattle.text_items.specs.Shape.{item_of, most_of, whole_of}
use Rattle.text_scan.specs.Found.{Found}
use Rattle.text_scan.specs.Scan.{read, said_at, gaps_in, ends_here, parted_here, separator_of, other_at, gap_said, item_found}
use Rattle.text_scan.proofs.ScanLaws.{part_is_rest, gaps_short, item_short, said_short}
use Rattle.text_parse.specs.Records.{Word, Parsed}
use Rattle.text_parse.specs.declared.Parsed.{Parsed as Told}
use Rattle.text_items.specs.declared.Sort.TheVariants.{Blank}
use Rattle.text_items.specs.Sorts.{sort_number}
use Rattle.text_scan.specs.declared.Wrong.{Wrong}
use Rattle.text_scan.specs.Outcomes.{expected_number, wrong_in}
use Rattle.text_scan.proofs.OutcomeLaws.{wrong_answer, wrong_no_end}
use Rattle.text_items.proofs.ShapeLaws.{most_small}
use Rattle.text_parse.specs.declared.Word.{Word as Named}
use Rattle.text_parse.specs.Outcomes.{word_in, placed, parsed_in}
use Rattle.text_parse.specs.Entry.{begins_with, is_word, word_text, word_as, word_of, parted_item, next_field, item_due, gap_before, next_cell, values_from, end_from, refused_at, ended_by, gathered, parsed_of}

-- a choice whose test is known
module _ {X : Type 0} (x y : X) where
  pub chosen : (t : Bool) → t ≡ true → cond t x y ≡ x
  chosen t e = ap (λ (u : Bool). cond u x y) e

  pub passed_over : (t : Bool) → t ≡ false → cond t x y ≡ y
  passed_over t e = ap (λ (u : Bool). cond u x y) e

-- a test of two numbers is the same either way round
eqb_swapped : (m n : ℕ) → eqb m n ≡ eqb n m
eqb_swapped m n = go (test (eqb m n))
  where
    go : Tested (eqb m n) → eqb m n ≡ eqb n m
    go (holds e) = e ∙ sym (eq-eqb n m (sym (eqb-true m n e)))
    go (fails e) = e ∙ sym (ne_eqb n m (λ same. eqb-false m n e (sym same)))

-- the library's test of a line's front is that of the definition
pub begins_is : (s w : List ℕ) → starts_with eqb s w ≡ begins_with s w
begins_is s [] = refl
begins_is [] (w ∷ ws) = refl
begins_is (b ∷ s) (w ∷ ws) = λ i. eqb_swapped w b i && begins_is s ws i

-- a word in front, by its two tests
module _ (s w : List ℕ) where
  -- a line that does not begin with the word's bytes does not have the word in front
  pub no_word : begins_with s w ≡ false → false ≡ is_word s w
  unfolding is_word
  no_word e = sym (ap (λ (t : Bool). t && parted_here (drop (length w) s)) e)

  -- one that does has it in front exactly where those bytes are parted from what follows
  pub word_parted : begins_with s w ≡ true → parted_here (drop (length w) s) ≡ is_word s w
  unfolding is_word
  word_parted e = sym (ap (λ (t : Bool). t && parted_here (drop (length w) s)) e)

-- the words in their order
module _ (s : List ℕ) where
  -- the first of the four words that stands in front is the line's, and where none does its kind is 0
  pub word_first : is_word s (word_text 1) ≡ true → word_of s ≡ word_as 1
  unfolding word_of
  word_first e = chosen _ _ (is_word s (word_text 1)) e

  module _ (no1 : is_word s (word_text 1) ≡ false) where
    pub word_second : is_word s (word_text 2) ≡ true → word_of s ≡ word_as 2
    unfolding word_of
    word_second e = passed_over _ _ (is_word s (word_text 1)) no1 ∙ chosen _ _ (is_word s (word_text 2)) e

    module _ (no2 : is_word s (word_text 2) ≡ false) where
      pub word_third : is_word s (word_text 3) ≡ true → word_of s ≡ word_as 3
      unfolding word_of
      word_third e = passed_over _ _ (is_word s (word_text 1)) no1 ∙ passed_over _ _ (is_word s (word_text 2)) no2 ∙ chosen _ _ (is_word s (word_text 3)) e

      module _ (no3 : is_word s (word_text 3) ≡ false) where
        pub word_fourth : is_word s (word_text 4) ≡ true → word_of s ≡ word_as 4
        unfolding word_of
        word_fourth e =
            passed_over _ _ (is_word s (word_text 1)) no1 ∙ passed_over _ _ (is_word s (word_text 2)) no2 ∙ passed_over _ _ (is_word s (word_text 3)) no3 ∙ chosen _ _ (is_word s (word_text 4)) e

        pub word_none : is_word s (word_text 4) ≡ false → word_of s ≡ word_as 0
        unfolding word_of
        word_none e =
            passed_over _ _ (is_word s (word_text 1)) no1 ∙ passed_over _ _ (is_word s (word_text 2)) no2 ∙ passed_over _ _ (is_word s (word_text 3)) no3 ∙ passed_over _ _ (is_word s (word_text 4)) e

  -- the longest word has 7 bytes
  pub word_short : (word_of s).used ≤ 7
  word_short = go (test (is_word s (word_text 1))) (test (is_word s (word_text 2))) (test (is_word s (word_text 3))) (test (is_word s (word_text 4)))
    where
      go : Tested (is_word s (word_text 1)) → Tested (is_word s (word_text 2)) → Tested (is_word s (word_text 3)) → Tested (is_word s (word_text 4)) → (word_of s).used ≤ 7
      go (holds a) b c d = subst⁻¹ (λ (w : Word). w.used ≤ 7) (word_first a) (omega arith)
      go (fails a) (holds b) c d = subst⁻¹ (λ (w : Word). w.used ≤ 7) (word_second a b) (omega arith)
      go (fails a) (fails b) (holds c) d = subst⁻¹ (λ (w : Word). w.used ≤ 7) (word_third a b c) (omega arith)
      go (fails a) (fails b) (fails c) (holds d) = subst⁻¹ (λ (w : Word). w.used ≤ 7) (word_fourth a b c d) (omega arith)
      go (fails a) (fails b) (fails c) (fails d) = subst⁻¹ (λ (w : Word). w.used ≤ 7) (word_none a b c d) (omega arith)

-- an item in front, by what follows it
module _ (s : List ℕ) (skipped : ℕ) (f : Found) where
  item_none : eqb f.answer 0 ≡ false → parted_item s skipped f ≡ said_at f.answer skipped
  unfolding parted_item
  item_none e = chosen _ _ (not (eqb f.answer 0)) (ap not e)

  item_joined : eqb f.answer 0 ≡ true → parted_here (drop (skipped + f.used) s) ≡ false → parted_item s skipped f ≡ said_at 10 (skipped + f.used)
  unfolding parted_item
  item_joined e p = passed_over _ _ (not (eqb f.answer 0)) (ap not e) ∙ chosen _ _ (not (parted_here (drop (skipped + f.used) s))) (ap not p)

  item_stands : eqb f.answer 0 ≡ true → parted_here (drop (skipped + f.used) s) ≡ true → parted_item s skipped f ≡ read f.value (skipped + f.used)
  unfolding parted_item
  item_stands e p = passed_over _ _ (not (eqb f.answer 0)) (ap not e) ∙ passed_over _ _ (not (parted_here (drop (skipped + f.used) s))) (ap not p)

  item_within : (n : ℕ) → skipped ≤ n → skipped + f.used ≤ n → (parted_item s skipped f).used ≤ n
  item_within n g h = go (test (eqb f.answer 0)) (test (parted_here (drop (skipped + f.used) s)))
    where
      go : Tested (eqb f.answer 0) → Tested (parted_here (drop (skipped + f.used) s)) → (parted_item s skipped f).used ≤ n
      go (fails e) p = subst⁻¹ (λ (r : Found). r.used ≤ n) (item_none e) g
      go (holds e) (fails p) = subst⁻¹ (λ (r : Found). r.used ≤ n) (item_joined e p) h
      go (holds e) (holds p) = subst⁻¹ (λ (r : Found). r.used ≤ n) (item_stands e p) h

-- the next item, by its tests
module _ (s : List ℕ) (kind k year : ℕ) where
  abbrev pub item_here : Found
  item_here = item_found (drop (gaps_in s) s) (item_of kind k) year

  -- 255 where nothing but gaps is left before the end or a comment
  pub next_ended : ends_here (drop (gaps_in s) s) ≡ true → next_field s kind k year ≡ said_at 255 (gaps_in s)
  unfolding next_field
  next_ended e = chosen _ _ (ends_here (drop (gaps_in s) s)) e

  module _ (goes : ends_here (drop (gaps_in s) s) ≡ false) where
    -- 11 where the line goes on and its sort takes no more items
    pub next_over : leb (most_of kind) k ≡ true → next_field s kind k year ≡ said_at 11 (gaps_in s)
    unfolding next_field
    next_over m = passed_over _ _ (ends_here (drop (gaps_in s) s)) goes ∙ chosen _ _ (leb (most_of kind) k) m

    module _ (more : leb (most_of kind) k ≡ false) where
      next_item : next_field s kind k year ≡ parted_item s (gaps_in s) item_here
      unfolding next_field
      next_item = passed_over _ _ (ends_here (drop (gaps_in s) s)) goes ∙ passed_over _ _ (leb (most_of kind) k) more

      -- where no item of its sort stands there, what was expected is said of the place behind the gaps
      pub next_none : eqb item_here.answer 0 ≡ false → next_field s kind k year ≡ said_at item_here.answer (gaps_in s)
      next_none e = next_item ∙ item_none s (gaps_in s) item_here e

      -- 10 behind an item that is not parted from what follows
      pub next_joined : eqb item_here.answer 0 ≡ true → parted_here (drop (gaps_in s + item_here.used) s) ≡ false → next_field s kind k year ≡ said_at 10 (gaps_in s + item_here.used)
      next_joined e p = next_item ∙ item_joined s (gaps_in s) item_here e p

      -- an item that is parted from what follows is read, with the gaps before it
      pub next_stands : eqb item_here.answer 0 ≡ true → parted_here (drop (gaps_in s + item_here.used) s) ≡ true → next_field s kind k year ≡ read item_here.value (gaps_in s + item_here.used)
      next_stands e p = next_item ∙ item_stands s (gaps_in s) item_here e p

  -- the gaps and the item are within the line
  pub item_fits : gaps_in s + item_here.used ≤ length s
  item_fits = omega (arith, gaps_short s, item_short (drop (gaps_in s) s) (item_of kind k) year, length-drop (gaps_in s) s)

  -- the place that is said of the next item, read or not, is within the line
  pub next_short : (next_field s kind k year).used ≤ length s
  next_short = go (test (ends_here (drop (gaps_in s) s))) (test (leb (most_of kind) k))
    where
      go : Tested (ends_here (drop (gaps_in s) s)) → Tested (leb (most_of kind) k) → (next_field s kind k year).used ≤ length s
      go (holds e) m = subst⁻¹ (λ (r : Found). r.used ≤ length s) (next_ended e) (gaps_short s)
      go (fails e) (holds m) = subst⁻¹ (λ (r : Found). r.used ≤ length s) (next_over e m) (gaps_short s)
      go (fails e) (fails m) = subst⁻¹ (λ (r : Found). r.used ≤ length s) (next_item e m) (item_within s (gaps_in s) item_here (length s) (gaps_short s) item_fits)

-- the gap in front of an item, by its test
module _ (s : List ℕ) (kind k sep : ℕ) where
  -- without a separator every gap is right
  pub gap_plain : eqb sep 0 ≡ true → gap_before s kind k sep ≡ said_at 0 0
  unfolding gap_before
  gap_plain e = chosen _ _ (eqb sep 0) e

  -- with one, a gap is judged by it and by whether an item is due behind the gap
  pub gap_cells : eqb sep 0 ≡ false → gap_before s kind k sep ≡ gap_said (take (gaps_in s) s) sep (item_due (drop (gaps_in s) s) kind k)
  unfolding gap_before
  gap_cells e = passed_over _ _ (eqb sep 0) e

  gap_short : (gap_before s kind k sep).used ≤ length s
  gap_short = go (test (eqb sep 0))
    where
      go : Tested (eqb sep 0) → (gap_before s kind k sep).used ≤ length s
      go (holds e) = subst⁻¹ (λ (r : Found). r.used ≤ length s) (gap_plain e) (omega arith)
      go (fails e) =
          subst⁻¹ (λ (r : Found). r.used ≤ length s) (gap_cells e)
          (omega (arith, said_short (take (gaps_in s) s) sep (item_due (drop (gaps_in s) s) kind k), length-take (gaps_in s) s, gaps_short s))

-- the next item of a line with a separator, by its test
module _ (s : List ℕ) (kind k year sep : ℕ) where
  -- behind a gap that is right the next item is read as in any line
  pub cell_right : eqb (gap_before s kind k sep).answer 0 ≡ true → next_cell s kind k year sep ≡ next_field s kind k year
  unfolding next_cell
  cell_right e = chosen _ _ (eqb (gap_before s kind k sep).answer 0) e

  -- behind any other, what is said is what is said of the gap
  pub cell_wrong : eqb (gap_before s kind k sep).answer 0 ≡ false → next_cell s kind k year sep ≡ gap_before s kind k sep
  unfolding next_cell
  cell_wrong e = passed_over _ _ (eqb (gap_before s kind k sep).answer 0) e

  -- it is within the line too
  pub cell_short : (next_cell s kind k year sep).used ≤ length s
  cell_short = go (test (eqb (gap_before s kind k sep).answer 0))
    where
      go : Tested (eqb (gap_before s kind k sep).answer 0) → (next_cell s kind k year sep).used ≤ length s
      go (holds g) = subst⁻¹ (λ (r : Found). r.used ≤ length s) (cell_right g) (next_short s kind k year)
      go (fails g) = subst⁻¹ (λ (r : Found). r.used ≤ length s) (cell_wrong g) (gap_short s kind k sep)

-- an item that is read has room in the longest line
pub cell_room : (s : List ℕ) (kind k year sep : ℕ) → eqb (next_cell s kind k year sep).answer 0 ≡ true → k < 261
cell_room s kind k year sep there = go (test (eqb (gap_before s kind k sep).answer 0)) (test (ends_here (drop (gaps_in s) s))) (test (leb (most_of kind) k))
  where
    answer_of : (f : Found) → next_cell s kind k year sep ≡ f → eqb f.answer 0 ≡ true
    answer_of f is = sym (ap (λ (r : Found). eqb r.answer 0) is) ∙ there

    go : Tested (eqb (gap_before s kind k sep).answer 0) → Tested (ends_here (drop (gaps_in s) s)) → Tested (leb (most_of kind) k) → k < 261
    go (fails g) e m = absurd (false≢true (sym g ∙ answer_of (gap_before s kind k sep) (cell_wrong s kind k year sep g)))
    go (holds g) (holds e) m = absurd (false≢true (answer_of (said_at 255 (gaps_in s)) (cell_right s kind k year sep g ∙ next_ended s kind k year e)))
    go (holds g) (fails e) (holds m) = absurd (false≢true (answer_of (said_at 11 (gaps_in s)) (cell_right s kind k year sep g ∙ next_over s kind k year e m)))
    go (holds g) (fails e) (fails m) = omega (arith, leb-false (most_of kind) k m, most_small kind)

-- what is left of a line from a place on is no longer than the line behind the place
pub rest_fits : (line : List ℕ) (at : ℕ) (rest : List ℕ) → rest ≡ part_of line at (length line) → length rest ≡ length line - at
rest_fits line at rest e = ap length (e ∙ part_is_rest line at) ∙ length-drop at line

-- the numbers from the k-th item on, and what is said past them, by the k-th
module _ (n : ℕ) (s : List ℕ) (kind k year sep : ℕ) where
  none_left : eqb (next_cell s kind k year sep).answer 0 ≡ false → values_from (suc n) s kind k year sep ≡ []
  unfolding values_from
  none_left e = passed_over _ _ (eqb (next_cell s kind k year sep).answer 0) e

  one_left : eqb (next_cell s kind k year sep).answer 0 ≡ true → values_from (suc n) s kind k year sep ≡ ((next_cell s kind k year sep).value ∷ values_from n (drop (next_cell s kind k year sep).used s) kind (k + 1) year sep)
  unfolding values_from
  one_left e = chosen _ _ (eqb (next_cell s kind k year sep).answer 0) e

  end_here : eqb (next_cell s kind k year sep).answer 0 ≡ false → end_from (suc n) s kind k year sep ≡ said_at (next_cell s kind k year sep).answer (next_cell s kind k year sep).used
  unfolding end_from
  end_here e = passed_over _ _ (eqb (next_cell s kind k year sep).answer 0) e

  end_later :
      eqb (next_cell s kind k year sep).answer 0 ≡ true →
      end_from (suc n) s kind k year sep ≡ said_at (end_from n (drop (next_cell s kind k year sep).used s) kind (k + 1) year sep).answer ((next_cell s kind k year sep).used + (end_from n (drop (next_cell s kind k year sep).used s) kind (k + 1) year sep).used)
  unfolding end_from
  end_later e = chosen _ _ (eqb (next_cell s kind k year sep).answer 0) e

-- so many turns read no more items
pub values_few : (n : ℕ) (s : List ℕ) (kind k year sep : ℕ) → length (values_from n s kind k year sep) ≤ n
unfolding values_from
values_few zero s kind k year sep = omega arith
values_few (suc n) s kind k year sep = go (values_few n (drop (next_cell s kind k year sep).used s) kind (k + 1) year sep) (test (eqb (next_cell s kind k year sep).answer 0))
  where
    go : length (values_from n (drop (next_cell s kind k year sep).used s) kind (k + 1) year sep) ≤ n → Tested (eqb (next_cell s kind k year sep).answer 0) → length (values_from (suc n) s kind k year sep) ≤ suc n
    go h (holds e) = subst⁻¹ (λ (l : List ℕ). length l ≤ suc n) (one_left n s kind k year sep e) (omega arith)
    go h (fails e) = subst⁻¹ (λ (l : List ℕ). length l ≤ suc n) (none_left n s kind k year sep e) (omega arith)

-- how many items are read from a place on, by the item there: it is the last that is looked for, or it is not there, or it is one more
module _ (line : List ℕ) (at kind k year sep : ℕ) (f : Found) (is : f ≡ next_cell (drop at line) kind k year sep) where
  abbrev read_from : ℕ → ℕ → ℕ → ℕ
  read_from n place items = length (values_from n (drop place line) kind items year sep)

  found_is : (t : Bool) → eqb f.answer 0 ≡ t → eqb (next_cell (drop at line) kind k year sep).answer 0 ≡ t
  found_is t e = sym (ap (λ (r : Found). eqb r.answer 0) is) ∙ e

  -- none where the item is not there; where it is, it and those behind it
  pub read_ends : (n : ℕ) → eqb f.answer 0 ≡ false → k + read_from (suc n) at k ≡ k
  read_ends n e = let none = ap length (none_left n (drop at line) kind k year sep (found_is false e)) in omega arith

  pub read_more : (n : ℕ) → eqb f.answer 0 ≡ true → k + read_from (suc n) at k ≡ k + 1 + read_from n (at + f.used) (k + 1)
  read_more n e =
      let one = ap length (one_left n (drop at line) kind k year sep (found_is true e)) in
      let u : ℕ = (next_cell (drop at line) kind k year sep).used in
      let past : drop u (drop at line) ≡ drop (at + f.used) line = drop-drop u at line ∙ sym (ap (λ (r : Found). drop (at + r.used) line) is) in
      let rest = ap (λ (s : List ℕ). length (values_from n s kind (k + 1) year sep)) past in
      omega arith

-- with no turn left no item is read
pub read_none : (line : List ℕ) (at kind k year sep : ℕ) → k + length (values_from 0 (drop at line) kind k year sep) ≡ k
unfolding values_from
read_none line at kind k year sep = omega arith

-- the outcome once the items are read, by its two tests
module _ (answer at kind count : ℕ) (values : List ℕ) where
  -- what is said behind the items, other than the line's end (255), is the answer, with its place and no entry
  pub ended_other : eqb answer 255 ≡ false → ended_by answer at kind count values ≡ refused_at answer at
  unfolding ended_by
  ended_other e = chosen _ _ (not (eqb answer 255)) (ap not e)

  module _ (ended : eqb answer 255 ≡ true) where
    -- 12 at the end of a line that is not whole with so many items
    pub ended_few : whole_of kind count ≡ false → ended_by answer at kind count values ≡ refused_at 12 at
    unfolding ended_by
    ended_few e = passed_over _ _ (not (eqb answer 255)) (ap not ended) ∙ chosen _ _ (not (whole_of kind count)) (ap not e)

    -- a line that is whole has the entry of its sort, its count and its numbers
    pub ended_whole : whole_of kind count ≡ true → ended_by answer at kind count values ≡ record { answer = 0; at = at; entry = record { kind = kind; count = count; values = values } }
    unfolding ended_by
    ended_whole e = passed_over _ _ (not (eqb answer 255)) (ap not ended) ∙ passed_over _ _ (not (whole_of kind count)) (ap not e)

-- what is told of an outcome in numbers, where the place and the definition are known by other names
pub outcome_is : (p : Parsed) (answer at kind count : ℕ) (values : List ℕ) (r : Result Told Wrong) → p ≡ ended_by answer at kind count values → parsed_in r ≡ ended_by answer at kind count values → parsed_in r ≡ p
outcome_is p answer at kind count values r e told =
    told ∙ sym e

-- the outcome of a line of which k items are read, where the rest from a place on has n turns left
unfoldable pub going_on : ℕ → List ℕ → ℕ → ℕ → ℕ → ℕ → ℕ → List ℕ → Parsed
going_on n line at kind k year sep values =
    ended_by
    (end_from n (drop at line) kind k year sep).answer
    (at + (end_from n (drop at line) kind k year sep).used)
    kind
    (k + length (values_from n (drop at line) kind k year sep))
    (sets values k (values_from n (drop at line) kind k year sep))

module _ (line : List ℕ) (at kind k year sep : ℕ) (values : List ℕ) where
  abbrev field_at : Found
  field_at = next_cell (drop at line) kind k year sep

  last_here : going_on zero line at kind k year sep values ≡ ended_by field_at.answer (at + field_at.used) kind k values
  unfolding going_on values_from end_from
  last_here = let e : k + 0 ≡ k = omega arith in ap (λ (n : ℕ). ended_by field_at.answer (at + field_at.used) kind n values) e

  ends_here_lem : (n : ℕ) → eqb field_at.answer 0 ≡ false → going_on (suc n) line at kind k year sep values ≡ ended_by field_at.answer (at + field_at.used) kind k values
  unfolding going_on
  ends_here_lem n e =
      let v = none_left n (drop at line) kind k year sep e in
      let f = end_here n (drop at line) kind k year sep e in
      let z : k + 0 ≡ k = omega arith in
      (λ i. ended_by (f i).answer (at + (f i).used) kind (k + length (v i)) (sets values k (v i))) ∙ ap (λ (m : ℕ). ended_by field_at.answer (at + field_at.used) kind m values) z

  goes_on : (n : ℕ) → eqb field_at.answer 0 ≡ true → going_on (suc n) line at kind k year sep values ≡ going_on n line (at + field_at.used) kind (k + 1) year sep (set values k field_at.value)
  unfolding going_on
  goes_on n e =
      let r : List ℕ = drop field_at.used (drop at line) in
      let d : r ≡ drop (at + field_at.used) line = drop-drop field_at.used at line in
      let v = one_left n (drop at line) kind k year sep e in
      let f = end_later n (drop at line) kind k year sep e in
      let l = end_from n r kind (k + 1) year sep in
      let vs = values_from n r kind (k + 1) year sep in
      let p : at + (field_at.used + l.used) ≡ at + field_at.used + l.used = omega arith in
      let q : k + suc (length vs) ≡ k + 1 + length vs = omega arith in
      let o : suc k ≡ k + 1 = omega arith in
      (λ i. ended_by (f i).answer (at + (f i).used) kind (k + length (v i)) (sets values k (v i)))
      ∙ (λ i. ended_by l.answer (p i) kind (q i) (sets (set values k field_at.value) (o i) vs))
      ∙ (λ i. ended_by (end_from n (d i) kind (k + 1) year sep).answer (at + field_at.used + (end_from n (d i) kind (k + 1) year sep).used) kind (k + 1 + length (values_from n (d i) kind (k + 1) year sep)) (sets (set values k field_at.value) (k + 1) (values_from n (d i) kind (k + 1) year sep)))

-- the same of a found item, by whatever name it is known
module _ (line : List ℕ) (at kind k year sep : ℕ) (values : List ℕ) (f : Found) (is : f ≡ next_cell (drop at line) kind k year sep) where
  answer_is : (t : Bool) → eqb f.answer 0 ≡ t → eqb (next_cell (drop at line) kind k year sep).answer 0 ≡ t
  answer_is t e = sym (ap (λ (r : Found). eqb r.answer 0) is) ∙ e

  -- with no turn left, or where the item is not there, the line is ended by what is said of the item, with the k items so far
  pub going_last : going_on zero line at kind k year sep values ≡ ended_by f.answer (at + f.used) kind k values
  going_last = last_here line at kind k year sep values ∙ sym (ap (λ (r : Found). ended_by r.answer (at + r.used) kind k values) is)

  pub going_ends : (n : ℕ) → eqb f.answer 0 ≡ false → going_on (suc n) line at kind k year sep values ≡ ended_by f.answer (at + f.used) kind k values
  going_ends n e = ends_here_lem line at kind k year sep values n (answer_is false e) ∙ sym (ap (λ (r : Found). ended_by r.answer (at + r.used) kind k values) is)

  -- where the item is there its number is the k-th, and the line goes on behind it with a turn fewer
  pub going_on_lem : (n : ℕ) → eqb f.answer 0 ≡ true → going_on (suc n) line at kind k year sep values ≡ going_on n line (at + f.used) kind (k + 1) year sep (set values k f.value)
  going_on_lem n e = goes_on line at kind k year sep values n (answer_is true e) ∙ sym (ap (λ (r : Found). going_on n line (at + r.used) kind (k + 1) year sep (set values k r.value)) is)

  -- the item, with the gap before it, takes no more bytes than are left of the line
  pub going_short : at + f.used ≤ at + (length line - at)
  going_short =
      let e : f.used ≡ (next_cell (drop at line) kind k year sep).used = ap (λ (r : Found). r.used) is in
      omega (arith, cell_short (drop at line) kind k year sep, length-drop at line)

-- what the code tells of a line of which k items are read, by what comes next: what is wrong, the line's end, or an item
module _ (line : List ℕ) (at kind k year sep : ℕ) where
  abbrev cell_there : Found
  cell_there = placed at (next_cell (drop at line) kind k year sep)

  wrong_there : (w : Wrong) → wrong_in w ≡ cell_there → eqb (next_cell (drop at line) kind k year sep).answer 0 ≡ false
  wrong_there w told = sym (ap (λ (f : Found). eqb f.answer 0) told) ∙ wrong_answer w

  end_there : (end : ℕ) → said_at 255 end ≡ cell_there → eqb (next_cell (drop at line) kind k year sep).answer 0 ≡ false
  end_there end told = sym (ap (λ (f : Found). eqb f.answer 0) told)

  item_there : (value used : ℕ) → read value used ≡ cell_there → eqb (next_cell (drop at line) kind k year sep).answer 0 ≡ true
  item_there value used told = sym (ap (λ (f : Found). eqb f.answer 0) told)

  module _ (values : List ℕ) (p : Parsed) (r : Result Told Wrong) where
    tells_wrong : (w : Wrong) → r ≡ Err w → wrong_in w ≡ cell_there → p ≡ ended_by cell_there.answer cell_there.used kind k values → parsed_in r ≡ p
    tells_wrong w is told e =
        let other = ended_other (expected_number w.expected) w.at kind k values (wrong_no_end w) in
        ap parsed_in is ∙ sym (e ∙ sym (ap (λ (f : Found). ended_by f.answer f.used kind k values) told) ∙ other)

    tells_end : (end : ℕ) → said_at 255 end ≡ cell_there → parsed_in r ≡ ended_by 255 end kind k values → p ≡ ended_by cell_there.answer cell_there.used kind k values → parsed_in r ≡ p
    tells_end end told ends e = outcome_is p 255 end kind k values r (e ∙ sym (ap (λ (f : Found). ended_by f.answer f.used kind k values) told)) ends

    -- with turns left
    module _ (n : ℕ) (goes : p ≡ going_on (suc n) line at kind k year sep values) where
      pub gather_wrong : (w : Wrong) → r ≡ Err w → wrong_in w ≡ cell_there → parsed_in r ≡ p
      gather_wrong w is told = tells_wrong w is told (goes ∙ going_ends line at kind k year sep values (next_cell (drop at line) kind k year sep) refl n (wrong_there w told))

      pub gather_end : (end : ℕ) → said_at 255 end ≡ cell_there → parsed_in r ≡ ended_by 255 end kind k values → parsed_in r ≡ p
      gather_end end told ends = tells_end end told ends (goes ∙ going_ends line at kind k year sep values (next_cell (drop at line) kind k year sep) refl n (end_there end told))

    -- with none
    module _ (goes : p ≡ going_on zero line at kind k year sep values) where
      pub last_wrong : (w : Wrong) → r ≡ Err w → wrong_in w ≡ cell_there → parsed_in r ≡ p
      last_wrong w is told = tells_wrong w is told (goes ∙ going_last line at kind k year sep values (next_cell (drop at line) kind k year sep) refl)

      pub last_end : (end : ℕ) → said_at 255 end ≡ cell_there → parsed_in r ≡ ended_by 255 end kind k values → parsed_in r ≡ p
      last_end end told ends = tells_end end told ends (goes ∙ going_last line at kind k year sep values (next_cell (drop at line) kind k year sep) refl)

    -- with any
    pub stops_wrong : (n : ℕ) → p ≡ going_on n line at kind k year sep values → (w : Wrong) → r ≡ Err w → wrong_in w ≡ cell_there → parsed_in r ≡ p
    stops_wrong zero goes w is told = last_wrong goes w is told
    stops_wrong (suc n) goes w is told = gather_wrong n goes w is told

    pub stops_end : (n : ℕ) → p ≡ going_on n line at kind k year sep values → (end : ℕ) → said_at 255 end ≡ cell_there → parsed_in r ≡ ended_by 255 end kind k values → parsed_in r ≡ p
    stops_end zero goes end told ends = last_end goes end told ends
    stops_end (suc n) goes end told ends = gather_end n goes end told ends

  pub gather_item :
      (values : List ℕ) (p : Parsed) (n value used : ℕ) → p ≡ going_on (suc n) line at kind k year sep values → read value used ≡ cell_there →
      p ≡ going_on n line used kind (k + 1) year sep (set values k value)
  gather_item values p n value used goes told =
      goes ∙ going_on_lem line at kind k year sep values (next_cell (drop at line) kind k year sep) refl n (item_there value used told)
      ∙ sym (ap (λ (f : Found). going_on n line f.used kind (k + 1) year sep (set values k f.value)) told)

  -- the items that are read, by what comes next
  pub read_wrong : (n : ℕ) (w : Wrong) → wrong_in w ≡ cell_there → k + length (values_from (suc n) (drop at line) kind k year sep) ≡ k
  read_wrong n w told = read_ends line at kind k year sep (next_cell (drop at line) kind k year sep) refl n (wrong_there w told)

  pub read_end : (n end : ℕ) → said_at 255 end ≡ cell_there → k + length (values_from (suc n) (drop at line) kind k year sep) ≡ k
  read_end n end told = read_ends line at kind k year sep (next_cell (drop at line) kind k year sep) refl n (end_there end told)

  pub read_item : (n value used : ℕ) → read value used ≡ cell_there → k + length (values_from (suc n) (drop at line) kind k year sep) ≡ k + 1 + length (values_from n (drop used line) kind (k + 1) year sep)
  read_item n value used told =
      read_more line at kind k year sep (next_cell (drop at line) kind k year sep) refl n (item_there value used told)
      ∙ sym (ap (λ (f : Found). k + 1 + length (values_from n (drop f.used line) kind (k + 1) year sep)) told)

  -- no item is read past the most that a line of any sort has
  pub item_room : (value used : ℕ) → read value used ≡ cell_there → k < 261
  item_room value used told = cell_room (drop at line) kind k year sep (item_there value used told)

abbrev zeros : ℕ → List ℕ
zeros n = replicate n 0

zeros_left : (m n : ℕ) → drop m (zeros n) ≡ zeros (n - m)
zeros_left zero n = let e : n ≡ n - 0 = omega arith in ap zeros e
zeros_left (suc m) zero = let e : 0 ≡ 0 - suc m = omega arith in ap zeros e
zeros_left (suc m) (suc n) = let e : n - m ≡ suc n - suc m = omega arith in zeros_left m n ∙ ap zeros e

-- numbers put over zeros
put_over : (n : ℕ) (vs : List ℕ) → length vs ≤ n → sets (zeros n) 0 vs ≡ vs ++ zeros (n - length vs)
put_over n vs h =
    let z₀ : ℕ = 0 in
    let z : 0 + length vs ≡ length vs = omega arith in
    let g : 0 + length vs ≤ length (zeros n) = omega (arith, length-replicate n z₀) in
    sets-eq vs (zeros n) 0 g ∙ ap (λ (l : List ℕ). vs ++ l) (ap (λ (m : ℕ). drop m (zeros n)) z ∙ zeros_left (length vs) n)

-- at the start no item is read
starts_from : (n : ℕ) (line : List ℕ) (start kind year sep : ℕ) → going_on n line start kind 0 year sep (zeros n) ≡ ended_by
    (end_from n (drop start line) kind 0 year sep).answer
    (start + (end_from n (drop start line) kind 0 year sep).used)
    kind
    (length (values_from n (drop start line) kind 0 year sep))
    (values_from n (drop start line) kind 0 year sep ++ zeros (n - length (values_from n (drop start line) kind 0 year sep)))
unfolding going_on
starts_from n line start kind year sep =
    let vs = values_from n (drop start line) kind 0 year sep in
    let l = end_from n (drop start line) kind 0 year sep in
    let z : 0 + length vs ≡ length vs = omega arith in
    let p = put_over n vs (values_few n (drop start line) kind 0 year sep) in
    λ i. ended_by l.answer (start + l.used) kind (z i) (p i)

-- the items of a line are gathered in 261 turns from their start on, over 261 zeros
pub going_starts : (line : List ℕ) (start kind year sep : ℕ) → gathered line start kind year sep ≡ going_on 261 line start kind 0 year sep (replicate 261 0)
unfolding gathered
going_starts line start kind year sep = sym (starts_from 261 line start kind year sep)

-- the gaps in front are as long as they are many
pub front_long : (line : List ℕ) → length (take (gaps_in line) line) ≡ gaps_in line
front_long line = omega (arith, length-take (gaps_in line) line, gaps_short line)

-- a word, and a blank one where there is none
pub word_or : (o : Option Named) → word_in o ≡ record { kind = sort_number (unwrap_or o (record { kind = Blank; used = 0 })).kind; used = (unwrap_or o (record { kind = Blank; used = 0 })).used }
word_or None = refl
word_or (Some w) = refl

-- a line, by its front
module _ (line : List ℕ) (year : ℕ) where
  abbrev front_of : List ℕ
  front_of = drop (gaps_in line) line

  -- a line of gaps alone, or of gaps and a comment, has no entry and is not refused
  pub parse_blank : ends_here front_of ≡ true → parsed_of line year ≡ refused_at 0 (gaps_in line)
  unfolding parsed_of
  parse_blank e = chosen _ _ (ends_here front_of) e

  abbrev pub other_before : ℕ
  other_before = other_at (take (gaps_in line) line) (separator_of line)

  module _ (goes : ends_here front_of ≡ false) where
    -- 13 where another separator than the line's stands in the gaps before the word
    pub parse_other : ltb other_before (gaps_in line) ≡ true → parsed_of line year ≡ refused_at 13 other_before
    unfolding parsed_of
    parse_other o = passed_over _ _ (ends_here front_of) goes ∙ chosen _ _ (ltb other_before (gaps_in line)) o

    module _ (same : ltb other_before (gaps_in line) ≡ false) where
      -- 1 behind the gaps where none of the words stands
      pub parse_wordless : eqb (word_of front_of).kind 0 ≡ true → parsed_of line year ≡ refused_at 1 (gaps_in line)
      unfolding parsed_of
      parse_wordless e = passed_over _ _ (ends_here front_of) goes ∙ passed_over _ _ (ltb other_before (gaps_in line)) same ∙ chosen _ _ (eqb (word_of front_of).kind 0) e

      -- behind a word the items of its sort are gathered, with the line's separator
      pub parse_gathers :
          eqb (word_of front_of).kind 0 ≡ false → parsed_of line year ≡ gathered line (gaps_in line + (word_of front_of).used) (word_of front_of).kind year (separator_of line)
      unfolding parsed_of
      parse_gathers e = passed_over _ _ (ends_here front_of) goes ∙ passed_over _ _ (ltb other_before (gaps_in line)) same ∙ passed_over _ _ (eqb (word_of front_of).kind 0) e
