-- An entry, or what is wrong, is told by what it says. Assumes nothing.
use Rattle.std.specs.Prelude.{◌≡◌, false, eqb, Result, Ok, Err}
use mathlib.Core.Bool.{true≢false}
use mathlib.Core.Path.{ap, sym, ◌∙◌}
use Rattle.text_items.specs.Entry.{Entry as Said}
use Rattle.text_items.specs.declared.Entry.{Entry}
use Rattle.text_items.specs.Sorts.{entry_in}
use Rattle.text_items.proofs.SortLaws.{same_sort}
use Rattle.text_scan.specs.declared.Wrong.{Wrong}
use Rattle.text_scan.proofs.OutcomeLaws.{same_wrong, wrong_answer}
use Rattle.text_parse.specs.Records.{Parsed}
use Rattle.text_parse.specs.declared.Parsed.{Parsed as Told}
use Rattle.text_parse.specs.Outcomes.{parsed_in}

pub same_entry : (d e : Entry) → entry_in d ≡ entry_in e → d ≡ e
same_entry d e same =
    let kind = same_sort d.kind e.kind (ap (λ (s : Said). s.kind) same) in
    λ i. record { kind = kind i; count = (same i).count; values = (same i).values }

-- what is wrong is answered by a number other than 0
wrong_only : (w : Wrong) → eqb (parsed_in (Err w)).answer 0 ≡ false
wrong_only w = wrong_answer w

pub same_parsed : (x y : Result Told Wrong) → parsed_in x ≡ parsed_in y → x ≡ y
same_parsed (Ok d) (Ok e) same =
    let entry = same_entry d.entry e.entry (ap (λ (p : Parsed). p.entry) same) in
    λ i. Ok (record { entry = entry i; at = (same i).at })
same_parsed (Ok d) (Err w) same = absurd (true≢false (ap (λ (p : Parsed). eqb p.answer 0) same ∙ wrong_only w))
same_parsed (Err v) (Ok e) same = absurd (true≢false (sym (ap (λ (p : Parsed). eqb p.answer 0) same) ∙ wrong_only v))
same_parsed (Err v) (Err w) same =
    ap (λ (u : Wrong). Err u) (same_wrong v w (λ i. record { answer = (same i).answer; value = 0; used = (same i).at }))
