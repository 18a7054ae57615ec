-- The header's word that a caller was built with, and what a call answers by it and by what was lent.
use Rattle.std.specs.Prelude.{ℕ, ◌+◌, ◌*◌, ◌^◌, Bool, cond, eqb}
use Rattle.c_words.specs.Words.{ledger_words}

-- TEMELYAK_VERSION and TEMELYAK_SLOT_BYTES
abbrev pub version : ℕ
version = 2

abbrev pub slot_bytes : ℕ
slot_bytes = 72

-- TEMELYAK_HEADER
abbrev pub header_word : ℕ
header_word = version * 2 ^ 32 + ledger_words * 2 ^ 16 + slot_bytes

-- 254: the caller was built with another header; else the answer
abbrev pub headed : ℕ → ℕ → ℕ
headed header answer = cond (eqb header header_word) answer 254

-- 1 where words hold no ledger, that is, where what was lent does not fit; else the answer of the call behind
abbrev pub answered : ℕ → Bool → ℕ → ℕ
answered header fits answer = headed header (cond fits answer 1)

-- a number that stands for what 01's row 1 does not have: an output of another size than what is written to it
abbrev pub other_size : ℕ
other_size = 251

-- the same of a call with an output, whose size is looked at before what was lent
abbrev pub answered_into : ℕ → Bool → Bool → ℕ → ℕ
answered_into header sized fits answer = headed header (cond sized (cond fits answer 1) other_size)

-- On a refusal no lent memory is changed
abbrev pub if_accepted : {X : Type 0} → ℕ → X → X → X
if_accepted answer next same = cond (eqb answer 0) next same
