-- What is read of a book and written again is the book: each record by its line, and any bytes by lines of hexadecimal digits. Assumes nothing.
use Prim.Native.Nat.{ℕ, ◌-◌, ◌≤◌}
use mathlib.Core.Path.{◌≡◌, ap, ◌∙◌}
use mathlib.Core.Bool.{true, false}
use mathlib.Core.List.{List}
use lib.Dec.{eqb}
use lib.ListN.{length, take, replicate}
use lib.Seq.{take-append_seam, take_all}
use native.Mathlib.Omega.{arith}
use Rattle.text_items.specs.Shape.{whole_of, within_from, entry_of}
use Rattle.text_write.specs.Line.{line_text, line_of}
use Rattle.unpack.specs.Unpack.{kind_in, values_in, unpacked_of, bytes_entry}
use Rattle.pack.specs.Pack.{packed_as, packed_of}
use Rattle.base.specs.Lists.{Bytes}
use Rattle.text_back.specs.Mirror.{line_bytes}
use Rattle.text_back.proofs.LineBack.{line_back}
use Rattle.text_back.proofs.RecordBack.{Expressed, sheet, simple, stepped, expressed, record_back, record_whole, record_within, bytes_back, hex_whole, hex_within}

-- an entry's line is that of its numbers, and its bytes are theirs where it is whole
numbers_again : (kind : ℕ) (vs : List ℕ) → take (length vs) (entry_of kind vs).values ≡ vs
numbers_again kind vs = take-append_seam vs (replicate (261 - length vs) 0)

pub line_of_numbers : (kind year : ℕ) (vs : List ℕ) → line_of (entry_of kind vs) year ≡ line_text kind year vs
line_of_numbers kind year vs = ap (line_text kind year) (numbers_again kind vs)

pub bytes_of_numbers : (kind : ℕ) (vs : List ℕ) → whole_of kind (length vs) ≡ true → packed_of (entry_of kind vs) ≡ packed_as kind vs
unfolding packed_of
bytes_of_numbers kind vs w = rw (packed_of, w) (ap (packed_as kind) (numbers_again kind vs))

-- a written line stands for the bytes of its entry
pub entry_back :
    (kind year : ℕ) (vs : List ℕ) →
    1 ≤ kind →
    kind ≤ 4 →
    whole_of kind (length vs) ≡ true →
    within_from kind 0 vs ≡ true →
    line_bytes (line_of (entry_of kind vs) year) year ≡ packed_as kind vs
entry_back kind year vs low high w in' =
    let back = line_back kind year vs low high w in' in
    ap (λ (l : List ℕ). line_bytes l year) (line_of_numbers kind year vs) ∙ rw back.0 (ap packed_of back.1 ∙ bytes_of_numbers kind vs w)

-- a sort that is not none is one of the four
pub sort_of : (s : List ℕ) → Expressed s → (1 ≤ kind_in s) × (kind_in s ≤ 4)
sort_of s (sheet k l m n) = (omega (arith, k), omega (arith, k))
sort_of s (simple k l m n) = (omega (arith, k), omega (arith, k))
sort_of s (stepped k l m n o p) = (omega (arith, k), omega (arith, k))

-- a record's line, under any year, stands for the record's bytes
pub record_read_back : (s : List ℕ) (year : ℕ) → Bytes s → eqb (kind_in s) 0 ≡ false → line_bytes (line_of (unpacked_of s) year) year ≡ s
unfolding unpacked_of
record_read_back s year b e =
    let sort = sort_of s (expressed s e) in
    rw (unpacked_of, e) (entry_back (kind_in s) year (values_in s) sort.0 sort.1 (record_whole s e) (record_within s b e) ∙ record_back s b e)

-- a line of up to 32 bytes stands for them
pub bytes_read_back : (s : List ℕ) (year : ℕ) → Bytes s → 1 ≤ length s → length s ≤ 32 → line_bytes (line_of (bytes_entry s) year) year ≡ s
unfolding bytes_entry
bytes_read_back s year b some few =
    ap (λ (l : List ℕ). line_bytes (line_of (entry_of 4 l) year) year) (take_all 32 s few) ∙
    entry_back 4 year s (omega arith) (omega arith) (hex_whole s some few) (hex_within s b) ∙ bytes_back s b
