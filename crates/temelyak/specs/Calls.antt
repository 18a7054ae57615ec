-- What each call of include/temelyak.h answers, and what it leaves in all that was lent, by the call behind it.
use Rattle.std.specs.Prelude.{ℕ, List, [], ◌∷◌, Bool, true, cond, ◌≡◌, length, get_or, drop, eqb, Result}
use Rattle.used_numbers.specs.Marks.{map_size}
use Rattle.refusals.specs.declared.Refusal.{Refusal}
use Rattle.ratio.specs.declared.Fraction.{Fraction}
use Rattle.decimal.specs.declared.Decimal.{Decimal}
use Rattle.decimal.specs.Decimal.{decimally}
use Rattle.ledger.specs.declared.Ledger.{Ledger}
use Rattle.ledger.specs.Ledger.{empty_ledger}
use Rattle.ledger.specs.Take.{answer_of, ledger_after, map_after}
use Rattle.book.specs.Book.{Read}
use Rattle.book.specs.Book.{read_of, map_read}
use Rattle.index.specs.Index.{index_of, exactly, shown_index}
use Rattle.slot.specs.declared.Slot.{Slot}
use Rattle.desk_scan.specs.Desk.{slot_count}
use Rattle.desk_rules.specs.Serve.{message_answer, ledger_served, map_served, desk_served}
use Rattle.c_words.specs.Words.{ledger_words, words_fit, ledger_in, flag_of, words_of}
use Rattle.c_words.specs.Header.{version, slot_bytes, answered, answered_into, if_accepted}
use Rattle.c_codes.specs.Named.{index_named, level_named, set_named, all_named}

-- an output of two words
abbrev pub is_pair : List ℕ → Bool
is_pair out = eqb (length out) 2

-- ---- temelyak_empty: words ws, an output only, so that any content is written over

unfoldable pub empty_answer : ℕ → List ℕ → ℕ
empty_answer header ws = answered_into header (eqb (length ws) ledger_words) true 0

unfoldable pub empty_words : ℕ → List ℕ → List ℕ
empty_words header ws = if_accepted (empty_answer header ws) (words_of empty_ledger) ws

-- ---- temelyak_take: words ws, map m, record s

unfoldable pub take_answer : ℕ → List ℕ → List ℕ → List ℕ → ℕ
take_answer header ws m s = answered header (words_fit ws) (answer_of (ledger_in ws) m s)

unfoldable pub take_words : ℕ → List ℕ → List ℕ → List ℕ → List ℕ
take_words header ws m s = if_accepted (take_answer header ws m s) (words_of (ledger_after (ledger_in ws) m s)) ws

unfoldable pub take_map : ℕ → List ℕ → List ℕ → List ℕ → List ℕ
take_map header ws m s = if_accepted (take_answer header ws m s) (map_after (ledger_in ws) m s) m

-- ---- temelyak_take_book: words ws, map m, book b, output out

abbrev pub book_read : List ℕ → List ℕ → List ℕ → Read
book_read ws m b = read_of (ledger_in ws) m b

unfoldable pub book_answer : ℕ → List ℕ → List ℕ → List ℕ → List ℕ → ℕ
book_answer header ws m b out = answered_into header (is_pair out) (words_fit ws) (book_read ws m b).answer

unfoldable pub book_words : ℕ → List ℕ → List ℕ → List ℕ → List ℕ → List ℕ
book_words header ws m b out = if_accepted (book_answer header ws m b out) (words_of (book_read ws m b).ledger) ws

unfoldable pub book_map : ℕ → List ℕ → List ℕ → List ℕ → List ℕ → List ℕ
book_map header ws m b out = if_accepted (book_answer header ws m b out) (map_read (ledger_in ws) m b) m

-- the refused records, and 1 where a broken length ended the book
unfoldable pub book_out : ℕ → List ℕ → List ℕ → List ℕ → List ℕ → List ℕ
book_out header ws m b out = if_accepted (book_answer header ws m b out) ((book_read ws m b).refused ∷ flag_of (book_read ws m b).broken ∷ []) out

-- ---- temelyak_serve: words ws, map m, desk d, message s

unfoldable pub serve_answer : ℕ → List ℕ → List ℕ → List Slot → List ℕ → ℕ
serve_answer header ws m d s = answered header (words_fit ws) (message_answer (ledger_in ws) m d s)

unfoldable pub serve_words : ℕ → List ℕ → List ℕ → List Slot → List ℕ → List ℕ
serve_words header ws m d s = if_accepted (serve_answer header ws m d s) (words_of (ledger_served (ledger_in ws) m d s)) ws

unfoldable pub serve_map : ℕ → List ℕ → List ℕ → List Slot → List ℕ → List ℕ
serve_map header ws m d s = if_accepted (serve_answer header ws m d s) (map_served (ledger_in ws) m d s) m

unfoldable pub serve_desk : ℕ → List ℕ → List ℕ → List Slot → List ℕ → List Slot
serve_desk header ws m d s = if_accepted (serve_answer header ws m d s) (desk_served (ledger_in ws) m d s) d

-- ---- temelyak_index and temelyak_decimal: words ws, output out; 255 for a code that names none comes before all else

abbrev pub index_asked : List ℕ → ℕ → ℕ → ℕ → Result Fraction Refusal
index_asked ws index level set = index_of (ledger_in ws) (index_named index) (level_named level) (set_named set)

unfoldable pub index_answer : ℕ → List ℕ → ℕ → ℕ → ℕ → List ℕ → ℕ
index_answer header ws index level set out =
    cond (all_named index level set) (answered_into header (is_pair out) (words_fit ws) (get_or (exactly (index_asked ws index level set)) 0 0)) 255

-- top and bottom
unfoldable pub index_out : ℕ → List ℕ → ℕ → ℕ → ℕ → List ℕ → List ℕ
index_out header ws index level set out = if_accepted (index_answer header ws index level set out) (drop 1 (exactly (index_asked ws index level set))) out

abbrev pub decimal_asked : List ℕ → ℕ → ℕ → ℕ → ℕ → Result Decimal Refusal
decimal_asked ws index level set digits = shown_index (ledger_in ws) (index_named index) (level_named level) (set_named set) digits

unfoldable pub decimal_answer : ℕ → List ℕ → ℕ → ℕ → ℕ → ℕ → List ℕ → ℕ
decimal_answer header ws index level set digits out =
    cond (all_named index level set) (answered_into header (is_pair out) (words_fit ws) (get_or (decimally (decimal_asked ws index level set digits)) 0 0)) 255

-- the whole part and the digits
unfoldable pub decimal_out : ℕ → List ℕ → ℕ → ℕ → ℕ → ℕ → List ℕ → List ℕ
decimal_out header ws index level set digits out =
    if_accepted (decimal_answer header ws index level set digits out) (drop 1 (decimally (decimal_asked ws index level set digits))) out

-- ---- temelyak_built

abbrev pub built_of : ℕ → ℕ
built_of which = get_or (version ∷ ledger_words ∷ slot_bytes ∷ map_size ∷ slot_count ∷ []) which 0

-- ---- the words that an accepted call leaves

-- they hold a ledger, and it is this one
abbrev pub Holds : List ℕ → Ledger → Type 0
Holds ws l = (words_fit ws ≡ true) × (ledger_in ws ≡ l)
