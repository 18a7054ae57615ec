-- No second outcome meets what a public function of this crate promises. Of the rest behind a word and of a line's name and body the promise decides what
-- they are, and not where they lie. Of a function that prints, the outcome is that it returns: no promise speaks of what an output takes. Assumes nothing.
use Prim.Native.Nat.{ℕ}
use mathlib.Core.Path.{◌≡◌, refl, ap}
use mir.Syntax.{Dict}
use denote.RattleType.{RattleType}
use denote.Param.Laws.{Laws}
use Rattle.std.specs.Prelude.{Option, Some, None, IsSome, IfSome, ◌↔◌}
use Rattle.std.specs.declared.io.Print.{Ghosts as Prints}
use Rattle.std.specs.declared.fmt.Display.{Ghosts as Displays}
use Rattle.base.proofs.OneOutcome.{OneOutcome, alike, SeenAlike}
use Rattle.pen.specs.Pen.{Spot}
use Rattle.text_items.specs.Entry.{Entry}
use Rattle.text_items.specs.Sorts.{entry_in}
use Rattle.text_items.specs.declared.Entry.{Entry as CodeEntry}
use Rattle.text_items.proofs.SortLaws.{same_entry}
use Rattle.cases.specs.declared.Numbers.{Numbers}
use Rattle.cases.specs.Lines.{parts_in}
use Rattle.cases.proofs.write.Kinds as write-kinds
use Rattle.cases.proofs.write.Reads as write
use Rattle.cases.proofs.write_line.Kinds as write-line-kinds
use Rattle.cases.proofs.write_line.Reads as write-line
use Rattle.cases.proofs.write_number.Kinds as write-number-kinds
use Rattle.cases.proofs.write_number.Reads as write-number
use Rattle.cases.proofs.write_numbers.Kinds as write-numbers-kinds
use Rattle.cases.proofs.write_numbers.Reads as write-numbers
use Rattle.cases.proofs.answer_of.Kinds as answer-of-kinds
use Rattle.cases.proofs.answer_of.Reads as answer-of
use Rattle.cases.proofs.byte.Kinds as byte-kinds
use Rattle.cases.proofs.byte.Reads as byte
use Rattle.cases.proofs.pair.Kinds as pair-kinds
use Rattle.cases.proofs.pair.Reads as pair
use Rattle.cases.proofs.four.Kinds as four-kinds
use Rattle.cases.proofs.four.Reads as four
use Rattle.cases.proofs.first_numbers.Kinds as first-numbers-kinds
use Rattle.cases.proofs.first_numbers.Reads as first-numbers
use Rattle.cases.proofs.numbers_by_turns.Kinds as numbers-by-turns-kinds
use Rattle.cases.proofs.numbers_by_turns.Reads as numbers-by-turns
use Rattle.cases.proofs.past_word.Reads as past-word
use Rattle.cases.proofs.past_line.Kinds as past-line-kinds
use Rattle.cases.proofs.past_line.Reads as past-line
use Rattle.cases.proofs.Line.told.Reads as told
use Rattle.cases.proofs.entry_told.Kinds as entry-told-kinds
use Rattle.cases.proofs.entry_told.Reads as entry-told
use Rattle.cases.proofs.put_told.Kinds as put-told-kinds
use Rattle.cases.proofs.put_told.Reads as put-told
use Rattle.cases.proofs.put_frame.Kinds as put-frame-kinds
use Rattle.cases.proofs.put_frame.Reads as put-frame
use Rattle.cases.proofs.ledger_of.Kinds as ledger-of-kinds
use Rattle.cases.proofs.ledger_of.Reads as ledger-of
use Rattle.cases.proofs.row_of.Kinds as row-of-kinds
use Rattle.cases.proofs.row_of.Reads as row-of
use Rattle.cases.proofs.place_of.Kinds as place-of-kinds
use Rattle.cases.proofs.place_of.Reads as place-of
use Rattle.cases.proofs.set_row.Kinds as set-row-kinds
use Rattle.cases.proofs.set_row.Reads as set-row

-- ---- what is printed: whatever the types of the output and of the number are, and whatever they can do

pub write_one : (P : RattleType) (K : Laws P) (prints : Prints P.Denot) (m : Dict) → OneOutcome (write-kinds.ps P K) (write-kinds.r P K) (write.Post P K prints m)
write_one P K prints m κs a x y v w p q = (alike p q, refl)

pub write_line_one : (P : RattleType) (K : Laws P) (prints : Prints P.Denot) (m : Dict)
    → OneOutcome (write-line-kinds.ps P K) (write-line-kinds.r P K) (write-line.Post P K prints m)
write_line_one P K prints m κs a x y v w p q = (alike p q, refl)

pub write_number_one : (N P : RattleType) (L : Laws N) (K : Laws P) (shows : Displays N.Denot) (l : Dict) (prints : Prints P.Denot) (m n : Dict)
    → OneOutcome (write-number-kinds.ps N P L K) (write-number-kinds.r N P L K) (write-number.Post N P L K shows l prints m n)
write_number_one N P L K shows l prints m n κs a x y v w p q = (alike p q, refl)

pub write_numbers_one : (P : RattleType) (K : Laws P) (prints : Prints P.Denot) (m : Dict)
    → OneOutcome (write-numbers-kinds.ps P K) (write-numbers-kinds.r P K) (write-numbers.Post P K prints m)
write_numbers_one P K prints m κs a x y v w p q = (alike p q, refl)

-- whatever the type of the figure is
pub answer_of_one : (T : RattleType) (L : Laws T) → OneOutcome (answer-of-kinds.ps T L) (answer-of-kinds.r T L) (answer-of.Post T L)
answer_of_one T L κs a x y v w p q = (alike p q, refl)

-- ---- the lowest bytes of a number

pub byte_one : OneOutcome byte-kinds.ps byte-kinds.r byte.Post
byte_one κs a x y v w p q = (alike p q, refl)

pub pair_one : OneOutcome pair-kinds.ps pair-kinds.r pair.Post
pair_one κs a x y v w p q = (alike p q, refl)

pub four_one : OneOutcome four-kinds.ps four-kinds.r four.Post
four_one κs a x y v w p q = (alike p q, refl)

-- ---- the numbers of a line

-- numbers are the same whose values and whose count are
same_numbers : {n : ℕ} (x y : Numbers n) → x.values ≡ y.values → x.count ≡ y.count → x ≡ y
same_numbers x y values count = λ i. record { values = values i; count = count i }

pub first_numbers_one : OneOutcome first-numbers-kinds.ps first-numbers-kinds.r first-numbers.Post
first_numbers_one κs a x y v w p q = (same_numbers x y (alike p.0 q.0) (alike p.1.0 q.1.0), refl)

pub numbers_by_turns_one : OneOutcome numbers-by-turns-kinds.ps numbers-by-turns-kinds.r numbers-by-turns.Post
numbers_by_turns_one κs a x y v w p q = (same_numbers x y (alike p.0 q.0) (alike p.1.0 q.1.0), refl)

-- ---- lines

pub past_word_one : SeenAlike past-word.Post (λ κs x. x.now)
past_word_one κs a x y s t p q = alike p.0 q.0

pub past_line_one : OneOutcome past-line-kinds.ps past-line-kinds.r past-line.Post
past_line_one κs a x y v w p q = (alike p.0 q.0, refl)

pub told_one : SeenAlike told.Post (λ κs x. parts_in x)
told_one κs a x y s t p q = alike p.0 q.0

-- ---- records

-- what is promised of the entry of a line: R says that the line is right, and e what it says
abbrev Said : Type 0 → Entry → Option CodeEntry → Type 0
Said R e x = (IsSome x ↔ R) × IfSome x (λ entry. entry_in entry ≡ e)

same_told : (R : Type 0) (e : Entry) (x y : Option CodeEntry) → Said R e x → Said R e y → x ≡ y
same_told R e None None p q = refl
same_told R e (Some c) (Some d) p q = ap (λ (c : CodeEntry). Some c) (same_entry c d (alike p.1 q.1))
same_told R e None (Some d) p q = let none : IsSome {T = CodeEntry} None = p.0.1 (q.0.0 refl) in cc
same_told R e (Some c) None p q = let none : IsSome {T = CodeEntry} None = q.0.1 (p.0.0 refl) in cc

pub entry_told_one : OneOutcome entry-told-kinds.ps entry-told-kinds.r entry-told.Post
entry_told_one κs a x y v w p q = (same_told _ _ x y p q, refl)

pub put_told_one : OneOutcome put-told-kinds.ps put-told-kinds.r put-told.Post
put_told_one κs a x y v w p q = (ap (λ (s : Spot). s.at) (alike p q), λ i. ((alike p q i).bytes, (tt, tt)))

pub put_frame_one : OneOutcome put-frame-kinds.ps put-frame-kinds.r put-frame.Post
put_frame_one κs a x y v w p q = (refl, λ i. (alike p q i, (tt, (tt, (tt, tt)))))

-- ---- a ledger that is lent

pub ledger_of_one : OneOutcome ledger-of-kinds.ps ledger-of-kinds.r ledger-of.Post
ledger_of_one κs a x y v w p q = (alike p.0 q.0, refl)

pub row_of_one : OneOutcome row-of-kinds.ps row-of-kinds.r row-of.Post
row_of_one κs a x y v w p q = (alike p q, refl)

pub place_of_one : OneOutcome place-of-kinds.ps place-of-kinds.r place-of.Post
place_of_one κs a x y v w p q = (alike p q, refl)

pub set_row_one : OneOutcome set-row-kinds.ps set-row-kinds.r set-row.Post
set_row_one κs a x y v w p q = (refl, λ i. (alike p.0 q.0 i, (tt, tt)))
