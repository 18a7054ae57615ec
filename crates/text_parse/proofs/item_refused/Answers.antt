-- The word's sort, and the items that are read behind the word, name the item. Assumes nothing.
use Prim.Native.Nat.{ℕ, ◌+◌}
use mathlib.Core.Path.{◌≡◌, sym, ap, ◌∙◌}
use lib.ListN.{drop}
use native.Mathlib.Omega.{arith}
use Rattle.text_items.specs.Shape.{item_of}
use Rattle.text_items.specs.Sorts.{sort_number}
use Rattle.text_scan.specs.Scan.{gaps_in}
use Rattle.text_scan.proofs.ScanLaws.{part_is_rest, gaps_short}
use Rattle.text_parse.specs.Records.{Word}
use Rattle.text_parse.specs.Outcomes.{word_in}
use Rattle.text_parse.specs.Entry.{word_of, items_read, item_refused}
use Rattle.text_parse.specs.declared.Word.{Word as Named}
use Rattle.text_parse.proofs.EntryLaws.{word_short, word_or}
use Rattle.text_parse.proofs.item_refused.Goals as goal

pub overflow_add-skipped : goal.overflow_add-skipped
overflow_add-skipped c =
    let s = c.args.line.now in
    let g = c.gaps_in-skipped in
    let told : word_in c.word_of.result ≡ word_of (drop (gaps_in c.args.line.now) c.args.line.now) =
    c.word_of.ensures.word ∙ ap word_of (c.part.ensures ∙ part_is_rest s g.result ∙ ap (λ (n : ℕ). drop n s) g.ensures) in
    let w = ap (λ (n : Named). n.used) c.unwrap_or-word.ensures ∙ ap (λ (r : Word). r.used) (sym (word_or c.word_of.result) ∙ told) in
    let before = g.ensures in
    omega (arith, gaps_short s, word_short (drop (gaps_in s) s), w, before)

pub returns : goal.returns
unfolding item_refused
returns c =
    let a = c.args in
    let s = a.line.now in
    let g = c.gaps_in-skipped in
    let told : word_in c.word_of.result ≡ word_of (drop (gaps_in c.args.line.now) c.args.line.now) =
    c.word_of.ensures.word ∙ ap word_of (c.part.ensures ∙ part_is_rest s g.result ∙ ap (λ (n : ℕ). drop n s) g.ensures) in
    let kind : sort_number c.unwrap_or-word.result.kind ≡ (word_of (drop (gaps_in c.args.line.now) c.args.line.now)).kind =
    ap (λ (n : Named). sort_number n.kind) c.unwrap_or-word.ensures ∙ ap (λ (r : Word). r.kind) (sym (word_or c.word_of.result) ∙ told) in
    let used : c.unwrap_or-word.result.used ≡ (word_of (drop (gaps_in c.args.line.now) c.args.line.now)).used =
    ap (λ (n : Named). n.used) c.unwrap_or-word.ensures ∙ ap (λ (r : Word). r.used) (sym (word_or c.word_of.result) ∙ told) in
    let before = g.ensures in
    let p = c.separator_of.ensures in
    c.item_of.ensures ∙ ap (item_of (sort_number c.unwrap_or-word.result.kind)) c.items_read-read.ensures ∙
    (λ i. item_of (kind i) (items_read s (before i + used i) (kind i) a.year (p i)))
