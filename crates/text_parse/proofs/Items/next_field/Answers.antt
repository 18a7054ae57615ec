-- The tests are those of `next_field`, in the same order, at what the called functions answer; the gaps and the item lie within the line, so their lengths add up.
-- Assumes nothing.
use Prim.Native.Nat.{ℕ, ◌+◌}
use mathlib.Core.Path.{◌≡◌, sym, ap, ◌∙◌}
use mathlib.Core.Bool.{true, false}
use lib.Dec.{eqb, leb}
use lib.ListN.{drop, length}
use native.Mathlib.Omega.{arith}
use borrow.Author.Tests.{le-leb, lt-leb}
use Rattle.wire.specs.Book.{part_of}
use Rattle.text_items.specs.Shape.{most_of}
use Rattle.text_items.specs.Sorts.{sort_number}
use Rattle.text_scan.specs.Found.{Found}
use Rattle.text_scan.specs.Outcomes.{wrong_in}
use Rattle.text_scan.specs.Scan.{read, said_at, gaps_in, ends_here, parted_here, item_found}
use Rattle.text_scan.proofs.OutcomeLaws.{wrong_answer}
use Rattle.text_scan.proofs.ScanLaws.{part_is_rest, gaps_short}
use Rattle.text_parse.proofs.EntryLaws.{item_here, item_fits, next_ended, next_over, next_none, next_joined, next_stands}
use Rattle.text_parse.proofs.Items.next_field.Goals as goal

pub slice_bounds-body-count : goal.slice_bounds-body-count
slice_bounds-body-count c =
    let gaps = c.gaps_in-skipped.ensures in
    omega (arith, gaps_short c.args.s.now, gaps)

pub slice_bounds-body-start : goal.slice_bounds-body-start
slice_bounds-body-start c =
    let gaps = c.gaps_in-skipped.ensures in
    omega (arith, gaps_short c.args.s.now, gaps)

pub returns-then-ends_here : goal.returns-then-ends_here
returns-then-ends_here c =
    let a = c.args in
    let s = a.s.now in
    let gaps = c.gaps_in-skipped in
    let body : part_of c.args.s.now c.gaps_in-skipped.result (length c.args.s.now) ≡ drop (gaps_in c.args.s.now) c.args.s.now = part_is_rest s gaps.result ∙ ap (λ (n : ℕ). drop n s) gaps.ensures in
    let ended : ends_here (drop (gaps_in c.args.s.now) c.args.s.now) ≡ true = sym (ap ends_here body) ∙ sym c.ends_here.ensures ∙ c.if-ends_here.true in
    ap (said_at 255) gaps.ensures ∙ sym (next_ended s (sort_number a.self.kind) a.k a.self.year ended)

pub returns-then-most_of-k : goal.returns-then-most_of-k
returns-then-most_of-k c =
    let a = c.args in
    let s = a.s.now in
    let gaps = c.gaps_in-skipped in
    let body : part_of c.args.s.now c.gaps_in-skipped.result (length c.args.s.now) ≡ drop (gaps_in c.args.s.now) c.args.s.now = part_is_rest s gaps.result ∙ ap (λ (n : ℕ). drop n s) gaps.ensures in
    let goes : ends_here (drop (gaps_in c.args.s.now) c.args.s.now) ≡ false = sym (ap ends_here body) ∙ sym c.ends_here.ensures ∙ c.if-ends_here.false in
    let over : leb (most_of (sort_number c.args.self.kind)) c.args.k ≡ true = sym (ap (λ (n : ℕ). leb n a.k) c.most_of.ensures) ∙ le-leb c.most_of.result a.k c.if-most_of-k.true in
    ap wrong_in c.at.ensures ∙ ap (said_at 11) gaps.ensures ∙ sym (next_over s (sort_number a.self.kind) a.k a.self.year goes over)

pub returns-in-Err : goal.returns-in-Err
returns-in-Err c =
    let a = c.args in
    let s = a.s.now in
    let kind = sort_number a.self.kind in
    let gaps = c.gaps_in-skipped in
    let body : part_of c.args.s.now c.gaps_in-skipped.result (length c.args.s.now) ≡ drop (gaps_in c.args.s.now) c.args.s.now = part_is_rest s gaps.result ∙ ap (λ (n : ℕ). drop n s) gaps.ensures in
    let goes : ends_here (drop (gaps_in c.args.s.now) c.args.s.now) ≡ false = sym (ap ends_here body) ∙ sym c.ends_here.ensures ∙ c.if-ends_here.false in
    let more : leb (most_of (sort_number c.args.self.kind)) c.args.k ≡ false = sym (ap (λ (n : ℕ). leb n a.k) c.most_of.ensures) ∙ lt-leb c.most_of.result a.k c.if-most_of-k.false in
    let item : wrong_in c.in-Err.wrong ≡ item_here c.args.s.now (sort_number c.args.self.kind) c.args.k c.args.self.year = c.in-Err.ensures ∙ (λ i. item_found (body i) (c.item_of.ensures i) a.self.year) in
    let none : eqb (item_here c.args.s.now (sort_number c.args.self.kind) c.args.k c.args.self.year).answer 0 ≡ false = sym (ap (λ (f : Found). eqb f.answer 0) item) ∙ wrong_answer c.in-Err.wrong in
    ap wrong_in c.at-in-Err.ensures ∙ (λ i. said_at (item i).answer (gaps.ensures i)) ∙ sym (next_none s kind a.k a.self.year goes more none)

pub overflow_add-past : goal.overflow_add-past
overflow_add-past c =
    let a = c.args in
    let s = a.s.now in
    let gaps = c.gaps_in-skipped in
    let body : part_of c.args.s.now c.gaps_in-skipped.result (length c.args.s.now) ≡ drop (gaps_in c.args.s.now) c.args.s.now = part_is_rest s gaps.result ∙ ap (λ (n : ℕ). drop n s) gaps.ensures in
    let item : read c.in-Ok.found.value c.in-Ok.found.used ≡ item_here c.args.s.now (sort_number c.args.self.kind) c.args.k c.args.self.year = c.in-Ok.ensures ∙ (λ i. item_found (body i) (c.item_of.ensures i) a.self.year) in
    let used = ap (λ (f : Found). f.used) item in
    let before = gaps.ensures in
    omega (arith, item_fits s (sort_number a.self.kind) a.k a.self.year, used, before)

pub slice_bounds-parted_here-count : goal.slice_bounds-parted_here-count
slice_bounds-parted_here-count c =
    let s = c.args.s.now in
    let gaps = c.gaps_in-skipped in
    let body : part_of c.args.s.now c.gaps_in-skipped.result (length c.args.s.now) ≡ drop (gaps_in c.args.s.now) c.args.s.now = part_is_rest s gaps.result ∙ ap (λ (n : ℕ). drop n s) gaps.ensures in
    let item : read c.in-Ok.found.value c.in-Ok.found.used ≡ item_here c.args.s.now (sort_number c.args.self.kind) c.args.k c.args.self.year = c.in-Ok.ensures ∙ (λ i. item_found (body i) (c.item_of.ensures i) c.args.self.year) in
    let used = ap (λ (f : Found). f.used) item in
    let before = gaps.ensures in
    omega (arith, item_fits s (sort_number c.args.self.kind) c.args.k c.args.self.year, used, before)

pub slice_bounds-parted_here-start : goal.slice_bounds-parted_here-start
slice_bounds-parted_here-start c =
    let s = c.args.s.now in
    let gaps = c.gaps_in-skipped in
    let body : part_of c.args.s.now c.gaps_in-skipped.result (length c.args.s.now) ≡ drop (gaps_in c.args.s.now) c.args.s.now = part_is_rest s gaps.result ∙ ap (λ (n : ℕ). drop n s) gaps.ensures in
    let item : read c.in-Ok.found.value c.in-Ok.found.used ≡ item_here c.args.s.now (sort_number c.args.self.kind) c.args.k c.args.self.year = c.in-Ok.ensures ∙ (λ i. item_found (body i) (c.item_of.ensures i) c.args.self.year) in
    let used = ap (λ (f : Found). f.used) item in
    let before = gaps.ensures in
    omega (arith, item_fits s (sort_number c.args.self.kind) c.args.k c.args.self.year, used, before)

pub returns-then-not-parted_here : goal.returns-then-not-parted_here
returns-then-not-parted_here c =
    let a = c.args in
    let s = a.s.now in
    let kind = sort_number a.self.kind in
    let gaps = c.gaps_in-skipped in
    let body : part_of c.args.s.now c.gaps_in-skipped.result (length c.args.s.now) ≡ drop (gaps_in c.args.s.now) c.args.s.now = part_is_rest s gaps.result ∙ ap (λ (n : ℕ). drop n s) gaps.ensures in
    let goes : ends_here (drop (gaps_in c.args.s.now) c.args.s.now) ≡ false = sym (ap ends_here body) ∙ sym c.ends_here.ensures ∙ c.if-ends_here.false in
    let more : leb (most_of (sort_number c.args.self.kind)) c.args.k ≡ false = sym (ap (λ (n : ℕ). leb n a.k) c.most_of.ensures) ∙ lt-leb c.most_of.result a.k c.if-most_of-k.false in
    let item : read c.in-Ok.found.value c.in-Ok.found.used ≡ item_here c.args.s.now (sort_number c.args.self.kind) c.args.k c.args.self.year = c.in-Ok.ensures ∙ (λ i. item_found (body i) (c.item_of.ensures i) a.self.year) in
    let there : eqb (item_here c.args.s.now (sort_number c.args.self.kind) c.args.k c.args.self.year).answer 0 ≡ true = sym (ap (λ (f : Found). eqb f.answer 0) item) in
    let past : c.gaps_in-skipped.result + c.in-Ok.found.used ≡ gaps_in c.args.s.now + (item_here c.args.s.now (sort_number c.args.self.kind) c.args.k c.args.self.year).used = λ i. gaps.ensures i + (item i).used in
    let parted : c.parted_here.result ≡ parted_here (drop (gaps_in c.args.s.now + (item_here c.args.s.now (sort_number c.args.self.kind) c.args.k c.args.self.year).used) c.args.s.now) =
    c.parted_here.ensures ∙ ap parted_here (part_is_rest s (gaps.result + c.in-Ok.found.used) ∙ ap (λ (n : ℕ). drop n s) past) in
    ap wrong_in c.at-then-not-parted_here.ensures ∙ ap (said_at 10) past ∙ sym (next_joined s kind a.k a.self.year goes more there (sym parted ∙ c.if-not-parted_here.true))

pub returns : goal.returns
returns c =
    let a = c.args in
    let s = a.s.now in
    let kind = sort_number a.self.kind in
    let gaps = c.gaps_in-skipped in
    let body : part_of c.args.s.now c.gaps_in-skipped.result (length c.args.s.now) ≡ drop (gaps_in c.args.s.now) c.args.s.now = part_is_rest s gaps.result ∙ ap (λ (n : ℕ). drop n s) gaps.ensures in
    let goes : ends_here (drop (gaps_in c.args.s.now) c.args.s.now) ≡ false = sym (ap ends_here body) ∙ sym c.ends_here.ensures ∙ c.if-ends_here.false in
    let more : leb (most_of (sort_number c.args.self.kind)) c.args.k ≡ false = sym (ap (λ (n : ℕ). leb n a.k) c.most_of.ensures) ∙ lt-leb c.most_of.result a.k c.if-most_of-k.false in
    let item : read c.in-Ok.found.value c.in-Ok.found.used ≡ item_here c.args.s.now (sort_number c.args.self.kind) c.args.k c.args.self.year = c.in-Ok.ensures ∙ (λ i. item_found (body i) (c.item_of.ensures i) a.self.year) in
    let there : eqb (item_here c.args.s.now (sort_number c.args.self.kind) c.args.k c.args.self.year).answer 0 ≡ true = sym (ap (λ (f : Found). eqb f.answer 0) item) in
    let past : c.gaps_in-skipped.result + c.in-Ok.found.used ≡ gaps_in c.args.s.now + (item_here c.args.s.now (sort_number c.args.self.kind) c.args.k c.args.self.year).used = λ i. gaps.ensures i + (item i).used in
    let parted : c.parted_here.result ≡ parted_here (drop (gaps_in c.args.s.now + (item_here c.args.s.now (sort_number c.args.self.kind) c.args.k c.args.self.year).used) c.args.s.now) =
    c.parted_here.ensures ∙ ap parted_here (part_is_rest s (gaps.result + c.in-Ok.found.used) ∙ ap (λ (n : ℕ). drop n s) past) in
    (λ i. read (item i).value (past i)) ∙ sym (next_stands s kind a.k a.self.year goes more there (sym parted ∙ c.if-not-parted_here.false))
