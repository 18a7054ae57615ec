-- The tests are those of `parsed_of`, in the same order, at the front of the line past its gaps. Assumes nothing.
use Prim.Native.Nat.{ℕ, ◌+◌}
use mathlib.Core.Path.{◌≡◌, sym, ap, ◌∙◌}
use mathlib.Core.Bool.{true, false}
use lib.Dec.{eqb, ltb}
use lib.ListN.{take, drop, length}
use native.Mathlib.Omega.{arith}
use borrow.Author.Tests.{ne_eqb}
use Rattle.std.specs.Prelude.{Some, None}
use Rattle.wire.specs.Book.{part_of}
use Rattle.text_items.specs.Sorts.{sort_number}
use Rattle.text_scan.specs.declared.Wrong.{Wrong}
use Rattle.text_scan.specs.Outcomes.{expected_number, place_within}
use Rattle.text_scan.specs.Scan.{gaps_in, ends_here, other_at}
use Rattle.text_scan.proofs.ScanLaws.{part_is_rest, part_is_front, gaps_short, place_there, place_none}
use Rattle.text_parse.specs.Records.{Word}
use Rattle.text_parse.specs.Entry.{word_of, refused_at, gathered}
use Rattle.text_parse.proofs.EntryLaws.{word_short, other_before, front_long, parse_blank, parse_other, parse_wordless, parse_gathers}
use Rattle.text_parse.proofs.parse.Goals as goal

pub slice_bounds-rest-count : goal.slice_bounds-rest-count
slice_bounds-rest-count c =
    let gaps = c.gaps_in-skipped.ensures in
    omega (arith, gaps_short c.args.line.now, gaps)

pub slice_bounds-rest-start : goal.slice_bounds-rest-start
slice_bounds-rest-start c =
    let gaps = c.gaps_in-skipped.ensures in
    omega (arith, gaps_short c.args.line.now, gaps)

pub returns-then-ends_here : goal.returns-then-ends_here
returns-then-ends_here c =
    let a = c.args in
    let s = a.line.now in
    let rest : part_of c.args.line.now c.gaps_in-skipped.result (length c.args.line.now) ≡ drop (gaps_in c.args.line.now) c.args.line.now = part_is_rest s c.gaps_in-skipped.result ∙ ap (λ (n : ℕ). drop n s) c.gaps_in-skipped.ensures in
    let ended : ends_here (drop (gaps_in c.args.line.now) c.args.line.now) ≡ true = sym (ap ends_here rest) ∙ sym c.ends_here.ensures ∙ c.if-ends_here.true in
    let blank = parse_blank s a.year ended in
    ap (refused_at 0) c.gaps_in-skipped.ensures ∙ sym blank

pub returns-in-Some : goal.returns-in-Some
returns-in-Some c =
    let a = c.args in
    let s = a.line.now in
    let gaps = c.gaps_in-skipped in
    let rest : part_of c.args.line.now c.gaps_in-skipped.result (length c.args.line.now) ≡ drop (gaps_in c.args.line.now) c.args.line.now = part_is_rest s gaps.result ∙ ap (λ (n : ℕ). drop n s) gaps.ensures in
    let goes : ends_here (drop (gaps_in c.args.line.now) c.args.line.now) ≡ false = sym (ap ends_here rest) ∙ sym c.ends_here.ensures ∙ c.if-ends_here.false in
    let front : c.part.result.now ≡ take (gaps_in c.args.line.now) c.args.line.now = c.part.ensures ∙ part_is_front s gaps.result ∙ ap (λ (n : ℕ). take n s) gaps.ensures in
    let told : place_within (other_before c.args.line.now c.args.year) (take (gaps_in c.args.line.now) c.args.line.now) ≡ Some c.in-Some.other =
    sym (c.other_at.ensures ∙ (λ i. place_within (other_at (front i) (c.separator_of-sep.ensures i)) (front i))) ∙ c.in-Some.is in
    let there = place_there (other_before s a.year) (take (gaps_in s) s) c.in-Some.other told in
    let is : ltb (other_before c.args.line.now c.args.year) (gaps_in c.args.line.now) ≡ true = sym (ap (ltb (other_before s a.year)) (front_long s)) ∙ there.0 in
    ap (λ (w : Wrong). refused_at (expected_number w.expected) w.at) c.at.ensures ∙ ap (refused_at 13) there.1 ∙ sym (parse_other s a.year goes is)

pub returns-in_default-word_of : goal.returns-in_default-word_of
returns-in_default-word_of c =
    let a = c.args in
    let s = a.line.now in
    let gaps = c.gaps_in-skipped in
    let rest : part_of c.args.line.now c.gaps_in-skipped.result (length c.args.line.now) ≡ drop (gaps_in c.args.line.now) c.args.line.now = part_is_rest s gaps.result ∙ ap (λ (n : ℕ). drop n s) gaps.ensures in
    let goes : ends_here (drop (gaps_in c.args.line.now) c.args.line.now) ≡ false = sym (ap ends_here rest) ∙ sym c.ends_here.ensures ∙ c.if-ends_here.false in
    let front : c.part.result.now ≡ take (gaps_in c.args.line.now) c.args.line.now = c.part.ensures ∙ part_is_front s gaps.result ∙ ap (λ (n : ℕ). take n s) gaps.ensures in
    let told : place_within (other_before c.args.line.now c.args.year) (take (gaps_in c.args.line.now) c.args.line.now) ≡ None =
    sym (c.other_at.ensures ∙ (λ i. place_within (other_at (front i) (c.separator_of-sep.ensures i)) (front i))) ∙ c.in_default.is in
    let same : ltb (other_before c.args.line.now c.args.year) (gaps_in c.args.line.now) ≡ false = sym (ap (ltb (other_before s a.year)) (front_long s)) ∙ place_none (other_before s a.year) (take (gaps_in s) s) told in
    let none : eqb (word_of (drop (gaps_in c.args.line.now) c.args.line.now)).kind 0 ≡ true = sym (ap (λ (w : Word). eqb w.kind 0) (c.in_default-word_of.ensures.word ∙ ap word_of rest)) in
    ap (λ (w : Wrong). refused_at (expected_number w.expected) w.at) c.at-in_default-word_of.ensures ∙ ap (refused_at 1) gaps.ensures ∙ sym (parse_wordless s a.year goes same none)

pub overflow_add-skipped : goal.overflow_add-skipped
overflow_add-skipped c =
    let a = c.args in
    let s = a.line.now in
    let gaps = c.gaps_in-skipped in
    let rest : part_of c.args.line.now c.gaps_in-skipped.result (length c.args.line.now) ≡ drop (gaps_in c.args.line.now) c.args.line.now = part_is_rest s gaps.result ∙ ap (λ (n : ℕ). drop n s) gaps.ensures in
    let w = ap (λ (r : Word). r.used) (c.in-Some-word_of.ensures.word ∙ ap word_of rest) in
    let g = gaps.ensures in
    omega (arith, gaps_short s, word_short (drop (gaps_in s) s), w, g)

pub returns : goal.returns
returns c =
    let a = c.args in
    let s = a.line.now in
    let gaps = c.gaps_in-skipped in
    let rest : part_of c.args.line.now c.gaps_in-skipped.result (length c.args.line.now) ≡ drop (gaps_in c.args.line.now) c.args.line.now = part_is_rest s gaps.result ∙ ap (λ (n : ℕ). drop n s) gaps.ensures in
    let goes : ends_here (drop (gaps_in c.args.line.now) c.args.line.now) ≡ false = sym (ap ends_here rest) ∙ sym c.ends_here.ensures ∙ c.if-ends_here.false in
    let front : c.part.result.now ≡ take (gaps_in c.args.line.now) c.args.line.now = c.part.ensures ∙ part_is_front s gaps.result ∙ ap (λ (n : ℕ). take n s) gaps.ensures in
    let told : place_within (other_before c.args.line.now c.args.year) (take (gaps_in c.args.line.now) c.args.line.now) ≡ None =
    sym (c.other_at.ensures ∙ (λ i. place_within (other_at (front i) (c.separator_of-sep.ensures i)) (front i))) ∙ c.in_default.is in
    let same : ltb (other_before c.args.line.now c.args.year) (gaps_in c.args.line.now) ≡ false = sym (ap (ltb (other_before s a.year)) (front_long s)) ∙ place_none (other_before s a.year) (take (gaps_in s) s) told in
    let word = c.in-Some-word_of.ensures.word ∙ ap word_of rest in
    let there : eqb (word_of (drop (gaps_in c.args.line.now) c.args.line.now)).kind 0 ≡ false = sym (ap (λ (w : Word). eqb w.kind 0) word) ∙ ne_eqb (sort_number c.in-Some-word_of.word.kind) 0 c.in-Some-word_of.ensures.named in
    let g = gaps.ensures in
    let p = c.separator_of-sep.ensures in
    let is = parse_gathers s a.year goes same there ∙ sym (λ i. gathered s (g i + (word i).used) (word i).kind a.year (p i)) in
    c.gather.ensures ∙ sym is
