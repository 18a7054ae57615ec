-- A report is its lines one after the other, and fits its text whatever the ledger. Assumes nothing.
use Prim.Native.Nat.{ℕ, ◌+◌, ◌<◌, ◌≤◌}
use Rattle.std.specs.Prelude.{Result, Ok, Err}
use mathlib.Core.Path.{◌≡◌, refl, sym, ap, ◌∙◌}
use mathlib.Core.Bool.{Bool, true, false, cond}
use mathlib.Core.List.{List, [], ◌∷◌, ◌++◌, append-nil}
use lib.ListN.{length, length-append, get_or, take}
use Rattle.std.specs.List.{flat_map}
use Rattle.std.proofs.Common.{append_assoc}
use Rattle.std.proofs.lemmas.List.{take_more, flat_map_more}
use native.Mathlib.Omega.{arith}
use Rattle.refusals.specs.declared.Refusal.{Refusal}
use Rattle.decimal.specs.declared.Decimal.{Decimal}
use Rattle.codes.specs.declared.Set.{Set}
use Rattle.codes.specs.declared.Set.TheVariants.{All, Std, Unnamed}
use Rattle.ledger.specs.declared.Ledger.{Ledger}
use Rattle.ledger.specs.Sound.{sound_ledger}
use Rattle.index.specs.declared.Level.{Level}
use Rattle.index.specs.declared.Level.TheVariants.{NN, VN, VVN, Network}
use Rattle.index.specs.declared.Index.{Index}
use Rattle.index.specs.declared.Index.TheVariants.{Saifi, Saidi, Caidi}
use Rattle.index.specs.Index.{shown_index}
use Rattle.text.specs.declared.Text.{Text}
use Rattle.text.specs.Text.{text_of, pushed_all, number_text, two_text}
use Rattle.text.proofs.TextLaws.{pushed_all_append, all_fits, number_length, both_short}
use Rattle.report.specs.Report.{figure_text, level_word, set_word, index_text, line_text, year_text, head_text, lines_text, report_text, told, report_of}

-- what is pushed for some things in turn, and for one more
pub one_more :
    {X : Type 0} (f : X → List ℕ) (t r s : Text) (xs : List X) (i : ℕ) (d : X) →
    i < length xs →
    r ≡ pushed_all t (flat_map f (take i xs)) →
    s ≡ pushed_all r (f (get_or xs i d)) →
    s ≡ pushed_all t (flat_map f (take (i + 1) xs))
one_more f t r s xs i d h p q =
    let x = get_or xs i d in
    q ∙ ap (λ (u : Text). pushed_all u (f x)) p ∙ sym (pushed_all_append t (flat_map f (take i xs)) (f x)) ∙
    ap (pushed_all t) (flat_map_more f [] (take i xs) x ∙ ap (flat_map f) (sym (take_more xs i d h)))

-- the lines of a set, level by level, and of some sets
abbrev pub each_level : List Level
each_level = NN ∷ VN ∷ VVN ∷ Network ∷ []

abbrev pub level_lines : Ledger → Set → List Level → List ℕ
level_lines l set levels = flat_map (λ (level : Level). line_text l level set) levels

abbrev pub set_lines : Ledger → List Set → List ℕ
set_lines l sets = flat_map (λ (set : Set). level_lines l set each_level) sets

two_fours : (a b c d e f g h : List ℕ) → (a ++ (b ++ (c ++ (d ++ [])))) ++ ((e ++ (f ++ (g ++ (h ++ [])))) ++ []) ≡ a ++ b ++ c ++ d ++ e ++ f ++ g ++ h
two_fours a b c d e f g h = simp (append_assoc, append-nil)

-- the lines of both sets are the eight lines
pub both_sets : (l : Ledger) → set_lines l (All ∷ Std ∷ []) ≡ lines_text l
both_sets l =
    let line : Level → Set → List ℕ = line_text l in
    two_fours (line NN All) (line VN All) (line VVN All) (line Network All) (line NN Std) (line VN Std) (line VVN Std) (line Network Std)

figure_length : (s : Result Decimal Refusal) → length (figure_text s) ≤ 23
figure_length (Ok d) = both_short (number_text d.whole) (46 ∷ two_text d.digits) {n = 3} (number_length d.whole) (omega arith)
figure_length (Err r) = omega arith

level_length : (level : Level) → length (level_word level) ≤ 3
level_length NN = omega arith
level_length VN = omega arith
level_length VVN = omega arith
level_length Network = omega arith

set_length : (set : Set) → length (set_word set) ≤ 3
set_length All = omega arith
set_length Std = omega arith
set_length Unnamed = omega arith

year_length : (there : Bool) (year : ℕ) → length (year_text there year) ≤ 20
year_length true year = number_length year
year_length false year = omega arith

there_or_none : (there : Bool) (a : List ℕ) {n : ℕ} → length a ≤ n → length (cond there a []) ≤ n
there_or_none true a h = h
there_or_none false a h = omega arith

eight_short :
    (a b c d e f g h : List ℕ) → length a ≤ 80 → length b ≤ 80 → length c ≤ 80 → length d ≤ 80 →
    length e ≤ 80 → length f ≤ 80 → length g ≤ 80 → length h ≤ 80 → length (a ++ b ++ c ++ d ++ e ++ f ++ g ++ h) ≤ 640
eight_short a b c d e f g h p₁ p₂ p₃ p₄ p₅ p₆ p₇ p₈ = simp length-append (omega arith)

module _ (l : Ledger) where
  index_length : (index : Index) (level : Level) (set : Set) → length (index_text l index level set) ≤ 24
  index_length index level set = let h : length (figure_text (shown_index l index level set 2)) ≤ 23 = figure_length (shown_index l index level set 2) in omega arith

  -- a line has at most 80 bytes
  pub line_length : (level : Level) (set : Set) → length (line_text l level set) ≤ 80
  line_length level set =
      let f : length (32 ∷ set_word set) ≤ 4 = let h : length (set_word set) ≤ 3 = set_length set in omega arith in
      let named : List ℕ = level_word level ++ (32 ∷ set_word set) in
      let saifi : List ℕ = index_text l Saifi level set in
      let saidi : List ℕ = index_text l Saidi level set in
      let caidi : List ℕ = index_text l Caidi level set in
      both_short (named ++ saifi ++ saidi ++ caidi) (10 ∷ []) {n = 1}
      (both_short (named ++ saifi ++ saidi) caidi
      (both_short (named ++ saifi) saidi
      (both_short named saifi (both_short (level_word level) (32 ∷ set_word set) (level_length level) f) (index_length Saifi level set))
      (index_length Saidi level set))
      (index_length Caidi level set))
      (omega arith)

  -- the eight lines have at most 640 bytes and the first line at most 110, so that a report fits its text of 1,024
  pub lines_length : length (lines_text l) ≤ 640
  lines_length =
      let line : Level → Set → List ℕ = line_text l in
      eight_short
      (line NN All) (line VN All) (line VVN All) (line Network All) (line NN Std) (line VN Std) (line VVN Std) (line Network Std)
      (line_length NN All) (line_length VN All) (line_length VVN All) (line_length Network All)
      (line_length NN Std) (line_length VN Std) (line_length VVN Std) (line_length Network Std)

  pub head_length : (refused : ℕ) → length (head_text l refused) ≤ 110
  head_length refused =
      let y : length (year_text l.sheet.there l.sheet.year) ≤ 20 = year_length l.sheet.there l.sheet.year in
      let e : length (number_text l.events) ≤ 20 = number_length l.events in
      let s : length (number_text l.short) ≤ 20 = number_length l.short in
      let r : length (number_text refused) ≤ 20 = number_length refused in
      simp length-append (omega arith)

  pub report_fits : (refused : ℕ) → length (report_text l refused) ≤ 1024
  unfolding report_text
  report_fits refused =
      let h : length (head_text l refused ++ cond l.sheet.there (lines_text l) []) ≤ 110 + 640 =
      both_short (head_text l refused) (cond l.sheet.there (lines_text l) []) (head_length refused) (there_or_none l.sheet.there (lines_text l) lines_length) in
      omega arith

  -- what the report is, each way
  pub unsound_no_text : (refused : ℕ) → sound_ledger l ≡ false → report_of l refused ≡ record { answer = 1; text = text_of [] }
  unfolding report_of
  unsound_no_text refused e = rw e refl

  pub sound_text : (refused : ℕ) → sound_ledger l ≡ true → report_of l refused ≡ record { answer = 0; text = text_of (report_text l refused) }
  unfolding report_of
  sound_text refused e = rw e refl

  pub lines_with_sheet : (refused : ℕ) → l.sheet.there ≡ true → report_text l refused ≡ (head_text l refused ++ lines_text l)
  unfolding report_text
  lines_with_sheet refused e = ap (λ (b : Bool). head_text l refused ++ cond b (lines_text l) []) e

  pub head_without_sheet : (refused : ℕ) → l.sheet.there ≡ false → report_text l refused ≡ head_text l refused
  unfolding report_text
  head_without_sheet refused e = ap (λ (b : Bool). head_text l refused ++ cond b (lines_text l) []) e ∙ append-nil (head_text l refused)

  -- so what was pushed from nothing on is the whole text
  pub report_whole : (refused : ℕ) (t : Text) → t ≡ pushed_all (text_of []) (report_text l refused) → sound_ledger l ≡ true → told (Ok t) ≡ report_of l refused
  report_whole refused t p e =
      ap (λ (s : Text). told (Ok s)) (p ∙ all_fits (report_text l refused) (report_fits refused)) ∙ sym (sound_text refused e)
